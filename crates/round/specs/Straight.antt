-- What is promised of a round that t + 1 parties have said. Assumes nothing.
use Rattle.std.specs.Prelude.{◌≡◌, false, cond, List, ℕ, suc, ◌≤◌, leb, eqb, length}
use Rattle.fields.specs.Amount.{p}
use Rattle.ranges.specs.Below.{AllBelow}
use Rattle.sharing.specs.Scheme.{threshold}
use Rattle.presence.specs.Presence.{of_present, how_many}
use Rattle.round.specs.Round.{heard, unopened}

-- a word of round 1 is in range below p, of rounds 2 to 32 at most 65,535, of round 33 at most 255,
-- of rounds 34 and 35 below p again
abbrev pub word_size : (round : ℕ) → ℕ
word_size round = cond (eqb round 1) p (cond (leb round 32) 65536 (cond (eqb round 33) 256 p))

-- "With exactly t + 1 marked words, all in range, every round is straight."
abbrev pub Straight : Type 0
Straight =
    (n round : ℕ) (present messages : List ℕ) → 3 ≤ n → n ≤ 9 → length present ≡ n → length messages ≡ n
    → how_many present ≡ suc (threshold n) → AllBelow (word_size round) (of_present present messages)
    → unopened (heard n round present messages) ≡ false
