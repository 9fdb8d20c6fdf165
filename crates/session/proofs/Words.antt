-- Words of the totals. Assumes nothing.
use mathlib.Core.Path.{◌≡◌, refl}
use mathlib.Core.List.{List, [], ◌∷◌}
use Prim.Native.Nat.{ℕ, zero, suc, ◌<◌}
use native.Mathlib.Nat.{suc_inj}
use native.Mathlib.Omega.{arith}
use lib.ListN.{length, get_or}
use Rattle.fields.specs.Amount.{amounts}
use Rattle.sharing.specs.Linear.{sums}

-- the totals after a bid, word by word
pub sum_at : (xs ys : List ℕ) (i : ℕ) → length xs ≡ length ys → i < length xs
    → get_or (sums amounts xs ys) i 0 ≡ amounts.add (get_or xs i 0) (get_or ys i 0)
unfolding sums
sum_at [] ys i h lt = absurd (omega arith)
sum_at (x ∷ xs) [] i h lt = absurd (omega arith)
sum_at (x ∷ xs) (y ∷ ys) zero h lt = refl
sum_at (x ∷ xs) (y ∷ ys) (suc i) h lt = sum_at xs ys i (suc_inj h) (omega arith)
