-- "Desks resend a bid when a line drops, and the fleet then counts double." What is promised of a bid that is added, and of one that is
-- sent again. Assumes nothing.
use Rattle.std.specs.Prelude.{◌≡◌, true, not, ◌&&◌, List, [], ◌∷◌, ℕ, ◌+◌, ◌*◌, Ok}
use Rattle.refusal.specs.Refusal.{code_of}
use Rattle.refusal.specs.Judging.{◌⇒◌, judged}
use Rattle.refusal.specs.Refusal.{Judgement}
use Rattle.refusal.specs.declared.Refusal.TheVariants.{WrongLength, OutOfTurn, AlreadyEntered}
use Rattle.ranges.specs.Sizes.{long}
use Rattle.roll.specs.Marks.{is_bidder, marked}
use Rattle.record.specs.declared.Party.{Party}
use Rattle.record.specs.Record.{sound}
use Rattle.session.specs.Add.{begun, add_judgement, add_reply, add_left}
use Rattle.hearing.specs.Hear.{hear_reply}

-- ---- a bid that is added

-- its bidder is in, no other mark changed, and one bid more is held
pub record Entered (q next : Party) (bidder : ℕ) : Type 0 where
  pub is_in : marked next.roll bidder ≡ true
  pub others_kept : (b : ℕ) → (b ≡ bidder → ⊥) → marked next.roll b ≡ marked q.roll b
  pub one_more : next.bids ≡ q.bids + 1

abbrev pub Once : Type 0
Once =
    (q : Party) (totals : List ℕ) (bidder : ℕ) (shares : List ℕ) → add_judgement q totals bidder shares ≡ Ok tt
    → Entered q (add_reply q totals bidder shares).party bidder

-- ---- a bid that is sent again

-- How a party with k prices judges a bid of a bidder who is in, whatever its shares: 2 and 3 come first, and then it is "14 Already in".
abbrev pub again : (k : ℕ) (q : Party) (totals shares : List ℕ) → Judgement
again k q totals shares =
    judged
    ((not (long (2 * k) totals && long (2 * k) shares) ⇒ WrongLength)
    ∷ (begun q ⇒ OutOfTurn)
    ∷ (true ⇒ AlreadyEntered)
    ∷ [])

pub record Resent (k : ℕ) (q : Party) (bidder : ℕ) : Type 0 where
  pub refused : (totals shares : List ℕ) → add_judgement q totals bidder shares ≡ again k q totals shares
  -- nothing changes
  pub record_kept : (totals shares : List ℕ) → (add_reply q totals bidder shares).party ≡ q
  pub totals_kept : (totals shares : List ℕ) → add_left q totals bidder shares ≡ totals

-- what a party may be called for between two bids of a session, with anything lent; opening would begin another session
pub data Between : Type 0 where
  adding : (totals : List ℕ) (bidder : ℕ) (shares : List ℕ) → Between
  saying : (totals sheets said : List ℕ) → Between
  hearing : (totals sheets messages present : List ℕ) → Between
  asking : Between
  filling : (amount : ℕ) → Between

-- the record that these calls leave, one after the other, accepted or refused: saying, asking and filling change nothing
unfoldable pub left_by : List Between → Party → Party
left_by [] q = q
left_by (adding totals bidder shares ∷ calls) q = left_by calls (add_reply q totals bidder shares).party
left_by (saying totals sheets said ∷ calls) q = left_by calls q
left_by (hearing totals sheets messages present ∷ calls) q = left_by calls (hear_reply q totals sheets messages present).party
left_by (asking ∷ calls) q = left_by calls q
left_by (filling amount ∷ calls) q = left_by calls q

-- after any accepted bid, and any calls since
abbrev pub NeverTwice : Type 0
NeverTwice =
    (q : Party) (totals : List ℕ) (bidder : ℕ) (shares : List ℕ) → add_judgement q totals bidder shares ≡ Ok tt
    → (between : List Between) → Resent q.k (left_by between (add_reply q totals bidder shares).party) bidder

-- ---- "Only the rehearsal then gives 4"

pub record NeverFull : Type 0 where
  -- with 1,000 bids held every bidder is in
  pub everybody_in : (q : Party) → sound q ≡ true → q.bids ≡ 1000 → (bidder : ℕ) → is_bidder bidder ≡ true → Resent q.k q bidder
  pub not_4 : (q : Party) (totals : List ℕ) (bidder : ℕ) (shares : List ℕ) → code_of (add_judgement q totals bidder shares) ≡ 4 → ⊥
