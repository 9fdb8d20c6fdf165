-- Opening words at any different points. Assumes nothing.
use Rattle.std.specs.Prelude.{cond, List, [], ◌∷◌, ℕ, ltb, eqb, None, Some}
use Rattle.ranges.specs.Lists.{every}
use Rattle.weights.specs.Rows.{Scheme}
use Rattle.openings.specs.Opening.{Opening}
use Rattle.lowering.specs.Lines.{descended}

-- a word, where all are the same: then they are those of a polynomial of degree 0
unfoldable pub agreed : List ℕ → Opening
agreed [] = None
agreed (v ∷ vs) = cond (every (eqb v) vs) (Some v) None

-- the value at 0 of the polynomial of degree at most t through the words at the points xs
unfoldable pub opened_at : Scheme → (t : ℕ) (xs words : List ℕ) → Opening
opened_at S t xs words =
    cond (every (λ w. ltb w S.size) words) (agreed (descended S.ops S.gap t xs words)) None
