-- "Opening n words gives the value at 0 of the polynomial of degree at most t through all of them." Assumes nothing.
use Rattle.std.specs.Prelude.{Bool, cond, ◌&&◌, List, [], ◌∷◌, ℕ, zero, suc, ◌-◌, leb, ltb, eqb, length, Option, Some, None}
use Rattle.fields.specs.Ring.{Ops}
use Rattle.ranges.specs.Lists.{every}
use Rattle.weights.specs.Rows.{Scheme, weights}
use Rattle.weights.specs.Products.{products}
use Rattle.sharing.specs.Scheme.{threshold, points}

module _ {A : Type 0} (O : Ops A) where
  unfoldable pub total : List A → A
  total [] = O.zero
  total (y ∷ ys) = O.add y (total ys)

  -- the sums of y, of x y, of x^2 y, ..: m of them
  unfoldable pub moments : ℕ → List A → List A → List A
  moments zero xs ys = []
  moments (suc m) xs ys = total ys ∷ moments m xs (products O xs ys)

-- as many words as parties, 3 to 9, all of them below the field's size
unfoldable pub readable : ℕ → ℕ → List ℕ → Bool
readable size n words = leb 3 n && leb n 9 && eqb (length words) n && every (λ w. ltb w size) words

-- the value at 0 of a polynomial, or that there is none
abbrev pub Opening : Type 0
Opening = Option ℕ

-- the first sum is the value at 0, where all the others are 0
unfoldable pub settled : List ℕ → Opening
settled [] = None
settled (v ∷ vs) = cond (every (eqb 0) vs) (Some v) None

-- Weighted, the words of a polynomial f of degree below n add up to its value at 0. The words of x f, x^2 f, .. do so too, as long as
-- these have degree below n. So n - t - 1 further sums are 0 where f has degree at most t, and only there.
unfoldable pub opened : Scheme → ℕ → List ℕ → Opening
opened S n words =
    cond (readable S.size n words)
    (settled (moments S.ops (n - threshold n) (points n) (products S.ops (weights S n) words)))
    None
