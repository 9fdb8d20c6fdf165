-- What is read off a list of calls: what a party receives, says, hears and answers. Assumes nothing.
use Rattle.std.specs.Prelude.{List, [], ◌∷◌, map, cond, ℕ, ◌+◌, ◌-◌, ◌*◌, leb, take, drop}
use Rattle.std.proofs.Math.Option.{Option, none, some}
use Rattle.ranges.specs.Lists.{from}
use Rattle.presence.specs.Presence.{marked, choose}
use Rattle.search.specs.declared.searches.Search.{Search}
use Rattle.search.specs.Search.{Decision, decision_at}
use Rattle.record.specs.declared.Party.{Party}
use Rattle.round.specs.declared.Heard as heard_as
use Rattle.round.specs.declared.Heard.{Heard}
use Rattle.listening.specs.Listen.{width_of, opening}
use Rattle.session.specs.Answer.{Answered, answer_reply}
use Rattle.auction.specs.Call.{Call, open_call, split_call, split_entry_call, deal_call, add_call, say_call, hear_call, answer_call, fill_call}
use Rattle.auction.specs.Canonical.{words}
use Rattle.auction.specs.Run.{own}

-- a party's own calls, refused ones left out, as a reader takes them
unfoldable pub collect : {A B : Type 0} → (A → Option B) → List A → List B
collect f [] = []
collect f (x ∷ xs) = elim (f x) [ none ↦ collect f xs | some y ↦ y ∷ collect f xs ]

-- a bid that is added: its bidder, and the party's shares
unfoldable pub bid_in : Call → Option (ℕ × List ℕ)
bid_in (open_call n own k last totals) = none
bid_in (split_call n own k table coins shares) = none
bid_in (split_entry_call n own k entry table coins shares) = none
bid_in (deal_call n own last words drawn sheet) = none
bid_in (add_call q totals bidder shares) = some (bidder, shares)
bid_in (say_call q totals sheets said) = none
bid_in (hear_call q totals sheets messages present) = none
bid_in (answer_call q) = none
bid_in (fill_call q amount) = none

-- a saying: the round that the record it was given is for, and the words
pub record Saying : Type 0 where
  pub round : ℕ
  pub words : List ℕ

-- the rounds counted from 0 on: after so many probes, this round of the next; or, once they are all made, 34 or 35
abbrev pub round_after : (last probes round : ℕ) → ℕ
round_after last probes round = last * probes + cond (leb round 33) (round - 1) (round - 34)

unfoldable pub round_of : Party → ℕ
round_of q = round_after q.last q.search.probes q.round

unfoldable pub saying_in : Call → Option Saying
saying_in (open_call n own k last totals) = none
saying_in (split_call n own k table coins shares) = none
saying_in (split_entry_call n own k entry table coins shares) = none
saying_in (deal_call n own last words drawn sheet) = none
saying_in (add_call q totals bidder shares) = none
saying_in (say_call q totals sheets said) = some (record { round = round_of q; words = words q totals sheets })
saying_in (hear_call q totals sheets messages present) = none
saying_in (answer_call q) = none
saying_in (fill_call q amount) = none

-- a hearing: the record it was given, the messages and the n marks
pub record Hearing : Type 0 where
  pub party : Party
  pub messages : List ℕ
  pub present : List ℕ

unfoldable pub hearing_in : Call → Option Hearing
hearing_in (open_call n own k last totals) = none
hearing_in (split_call n own k table coins shares) = none
hearing_in (split_entry_call n own k entry table coins shares) = none
hearing_in (deal_call n own last words drawn sheet) = none
hearing_in (add_call q totals bidder shares) = none
hearing_in (say_call q totals sheets said) = none
hearing_in (hear_call q totals sheets messages present) = some (record { party = q; messages = messages; present = present })
hearing_in (answer_call q) = none
hearing_in (fill_call q amount) = none

-- the record with which the answer is asked for
unfoldable pub asking_in : Call → Option Party
asking_in (open_call n own k last totals) = none
asking_in (split_call n own k table coins shares) = none
asking_in (split_entry_call n own k entry table coins shares) = none
asking_in (deal_call n own last words drawn sheet) = none
asking_in (add_call q totals bidder shares) = none
asking_in (say_call q totals sheets said) = none
asking_in (hear_call q totals sheets messages present) = none
asking_in (answer_call q) = some q
asking_in (fill_call q amount) = none

-- the bids that party j received, in order
abbrev pub received_bids : ℕ → List Call → List (ℕ × List ℕ)
received_bids j l = collect bid_in (own j l)

abbrev pub hearings : ℕ → List Call → List Hearing
hearings j l = collect hearing_in (own j l)

-- the records with which party j asked for the answer, and what it was answered
abbrev pub askings : ℕ → List Call → List Party
askings j l = collect asking_in (own j l)

abbrev pub answers : ℕ → List Call → List Answered
answers j l = map answer_reply (askings j l)

abbrev pub sayings : ℕ → List Call → List Saying
sayings j l = collect saying_in (own j l)

-- what stands for each of n parties, w words each
unfoldable pub blocks : (w n : ℕ) → List ℕ → List (List ℕ)
blocks w n messages = map (λ i. take w (drop (w * i) messages)) (from 0 n)

-- the words of those who were present
unfoldable pub words_heard : Hearing → List (List ℕ)
words_heard h = choose (marked h.present) (blocks (width_of h.party) h.party.n h.messages)

-- round by round, as party j heard them
abbrev pub messages : ℕ → List Call → List (List (List ℕ))
messages j l = map words_heard (hearings j l)

unfoldable pub verdict_in : Heard → Option ℕ
verdict_in (heard_as.TheVariants.Sum v) = none
verdict_in (heard_as.TheVariants.Factors d e) = none
verdict_in (heard_as.TheVariants.Verdict v) = some v
verdict_in (heard_as.TheVariants.Total v) = none
verdict_in heard_as.TheVariants.Unopened = none

-- a verdict that was heard, with the search and the index where
unfoldable pub decided_by : Search → Heard → Option Decision
decided_by s h = elim (verdict_in h) [ none ↦ none | some v ↦ some (decision_at s v) ]

unfoldable pub decision_in : Hearing → Option Decision
decision_in h = decided_by h.party.search (opening h.party h.present h.messages)

abbrev pub decisions : ℕ → List Call → List Decision
decisions j l = collect decision_in (hearings j l)

-- "Verdicts are compared in order, and the number of probes is the number of verdicts heard."
abbrev pub verdicts : ℕ → List Call → List ℕ
verdicts j l = map (λ d. d.verdict) (decisions j l)
