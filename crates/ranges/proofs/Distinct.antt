-- Laws of numbers that differ. Assumes nothing.
use Rattle.std.proofs.Common.{◌≡◌, ℕ, zero, suc, ◌+◌, ◌<◌, ◌≤◌, false, List, [], ◌∷◌, refl, arith, ne_eqb}
use Rattle.ranges.specs.Distinct.{Apart, Distinct}
use Rattle.ranges.specs.Lists.{from, member}

apart_from : (x a m : ℕ) → x < a → Apart x (from a m)
unfolding from
apart_from x a zero h = tt
apart_from x a (suc m) h = (λ e. omega arith, apart_from x (suc a) m (omega arith))

-- numbers in a row
pub distinct_from : (n a m : ℕ) → 1 ≤ a → a + m ≤ suc n → Distinct n (from a m)
unfolding from
distinct_from n a zero h k = tt
distinct_from n a (suc m) h k = (h, omega arith, apart_from a (suc a) m (omega arith), distinct_from n (suc a) m (omega arith) (omega arith))

pub apart_member : (x : ℕ) (ys : List ℕ) → Apart x ys → member x ys ≡ false
unfolding member
apart_member x [] h = refl
apart_member x (y ∷ ys) h = rw (ne_eqb x y h.0, apart_member x ys h.1)
