-- The calls, each with what it was given, and whether it is accepted. Assumes nothing.
use Rattle.std.specs.Prelude.{Bool, true, false, List, [], ℕ, eqb, Err, Ok}
use Rattle.refusal.specs.Refusal.{Judgement}
use Rattle.bid.specs.Split.{split_judgement}
use Rattle.bid.specs.Entry.{split_entry_judgement}
use Rattle.dealer.specs.Deal.{deal_judgement}
use Rattle.record.specs.declared.Party.{Party}
use Rattle.session.specs.Open.{open_judgement}
use Rattle.session.specs.Add.{add_judgement}
use Rattle.saying.specs.Say.{say_judgement}
use Rattle.hearing.specs.Hear.{hear_judgement}
use Rattle.session.specs.Answer.{answer_judgement}
use Rattle.filling.specs.Fill.{fill_judgement}

pub data Call : Type 0 where
  open_call : (n own k last : ℕ) (totals : List ℕ) → Call
  split_call : (n own k : ℕ) (table coins shares : List ℕ) → Call
  split_entry_call : (n own k entry : ℕ) (table coins shares : List ℕ) → Call
  deal_call : (n own last : ℕ) (words drawn sheet : List ℕ) → Call
  add_call : (q : Party) (totals : List ℕ) (bidder : ℕ) (shares : List ℕ) → Call
  say_call : (q : Party) (totals sheets said : List ℕ) → Call
  hear_call : (q : Party) (totals sheets messages present : List ℕ) → Call
  answer_call : (q : Party) → Call
  fill_call : (q : Party) (amount : ℕ) → Call

unfoldable pub judgement : Call → Judgement
judgement (open_call n own k last totals) = open_judgement n own k last totals
judgement (split_call n own k table coins shares) = split_judgement n own k table coins shares
judgement (split_entry_call n own k entry table coins shares) = split_entry_judgement n own k entry table coins shares
judgement (deal_call n own last words drawn sheet) = deal_judgement n own last words drawn sheet
judgement (add_call q totals bidder shares) = add_judgement q totals bidder shares
judgement (say_call q totals sheets said) = say_judgement q totals sheets said
judgement (hear_call q totals sheets messages present) = hear_judgement q totals sheets messages present
judgement (answer_call q) = answer_judgement q
judgement (fill_call q amount) = fill_judgement q amount

unfoldable pub is_accepted : Judgement → Bool
is_accepted (Ok tt) = true
is_accepted (Err why) = false

abbrev pub accepted : Call → Bool
accepted c = is_accepted (judgement c)

-- a party's own call; one of the bidders' and the dealer's, for the parties; or one by which a fleet learns its hours
pub data Whose : Type 0 where
  party : ℕ → Whose
  service : Whose
  fleet : Whose

unfoldable pub whose : Call → Whose
whose (open_call n own k last totals) = party own
whose (split_call n own k table coins shares) = service
whose (split_entry_call n own k entry table coins shares) = service
whose (deal_call n own last words drawn sheet) = service
whose (add_call q totals bidder shares) = party q.own
whose (say_call q totals sheets said) = party q.own
whose (hear_call q totals sheets messages present) = party q.own
whose (answer_call q) = party q.own
whose (fill_call q amount) = fleet

unfoldable pub of_party : ℕ → Whose → Bool
of_party j (party i) = eqb i j
of_party j service = false
of_party j fleet = false

unfoldable pub of_service : Whose → Bool
of_service (party i) = false
of_service service = true
of_service fleet = false

unfoldable pub of_fleet : Whose → Bool
of_fleet (party i) = false
of_fleet service = false
of_fleet fleet = true

-- a call but for what it overwrites whole, which may hold anything of the right length
unfoldable pub given : Call → Call
given (open_call n own k last totals) = open_call n own k last []
given (split_call n own k table coins shares) = split_call n own k table coins []
given (split_entry_call n own k entry table coins shares) = split_entry_call n own k entry table coins shares
given (deal_call n own last words drawn sheet) = deal_call n own last words drawn []
given (add_call q totals bidder shares) = add_call q totals bidder shares
given (say_call q totals sheets said) = say_call q totals sheets []
given (hear_call q totals sheets messages present) = hear_call q totals sheets messages present
given (answer_call q) = answer_call q
given (fill_call q amount) = fill_call q amount
