-- Who is present in which round, and what that leaves to each party: "In a run a marked keeper has heard every round before; others may
-- hear late or never." Assumes nothing.
use Rattle.std.specs.Prelude.{◌≡◌, Bool, true, List, ℕ, ◌≤◌, ◌<◌, length}
use Rattle.sharing.specs.Scheme.{threshold}
use Rattle.presence.specs.Presence.{are_marks, how_many, is_present}
use Rattle.auction.specs.Auction.{Auction, rounds}

-- the n marks of each round, the rounds counted from 0 on: "Marks are the same for all keepers"
abbrev pub Marks : Type 0
Marks = (round : ℕ) → List ℕ

-- n marks, t + 1 or more of them 1
pub record Enough (n : ℕ) (present : List ℕ) : Type 0 where
  pub long : length present ≡ n
  pub marks : are_marks present ≡ true
  pub many : threshold n < how_many present

-- in every round
abbrev pub EnoughPresent : Auction → Marks → Type 0
EnoughPresent a marks = (round : ℕ) → round < rounds a → Enough a.n (marks round)

-- what each party does of its own
pub record Attendance : Type 0 where
  -- how many rounds it hears, from the first on, if there are so many; when is its own affair
  pub hears : (own : ℕ) → ℕ
  -- whether it says its word in a round in which it is not marked
  pub speaks : (own round : ℕ) → Bool
  -- what it hears in the place of a party that is not marked, word by word
  pub elsewhere : (own round place at : ℕ) → ℕ
  -- whether it is asked for the answer, where it has heard all rounds
  pub asks : (own : ℕ) → Bool

-- a marked party has heard every round before
abbrev pub Attends : Auction → Marks → Attendance → Type 0
Attends a marks att = (round own : ℕ) → round < rounds a → 1 ≤ own → is_present (marks round) own ≡ true → round ≤ att.hears own
