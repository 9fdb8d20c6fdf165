-- "Opening, and refusal 10, read only the marked words." Assumes nothing.
use Rattle.std.specs.Prelude.{Bool, cond, ◌&&◌, List, ℕ, leb, eqb, length, None}
use Rattle.weights.specs.Rows.{Scheme}
use Rattle.sharing.specs.Scheme.{threshold, points}
use Rattle.openings.specs.Opening.{Opening}
use Rattle.presence.specs.Presence.{of_present}
use Rattle.openings_at.specs.At.{opened_at}

-- as many marks and words as parties, 3 to 9
unfoldable pub sized : (n : ℕ) (present words : List ℕ) → Bool
sized n present words = leb 3 n && leb n 9 && eqb (length present) n && eqb (length words) n

-- through the words of those who were present
unfoldable pub opened_by : Scheme → (n : ℕ) (present words : List ℕ) → Opening
opened_by S n present words =
    cond (sized n present words) (opened_at S (threshold n) (of_present present (points n)) (of_present present words)) None
