-- What the law of opening says of the words of those who were present. Assumes nothing.
use Rattle.std.specs.Prelude.{◌≡◌, List, ℕ, ◌≤◌, ◌<◌, length}
use Rattle.fields.specs.Field.{Field}
use Rattle.sharing.specs.Scheme.{threshold, points}
use Rattle.presence.specs.Presence.{of_present, how_many}
use Rattle.openings.specs.Law.{Passes}

-- as many marks and words as parties, 3 to 9
pub record Sized (n : ℕ) (present words : List ℕ) : Type 0 where
  pub at_least : 3 ≤ n
  pub at_most : n ≤ 9
  pub marks_many : length present ≡ n
  pub words_many : length words ≡ n

-- t + 1 or more of 3 to 9 parties were present, and a polynomial of degree at most t passes through their words; its value at 0 is s
pub record OnPresent (F : Field) (n : ℕ) (present : List ℕ) (s : ℕ) (words : List ℕ) : Type 0 where
  pub sized : Sized n present words
  pub enough : threshold n < how_many present
  pub passes : Passes F (threshold n) (of_present present (points n)) s (of_present present words)
