-- The points of those who were present. Assumes nothing.
use mathlib.Core.Bool.{Bool, true, false}
use mathlib.Core.List.{List, [], ◌∷◌}
use Prim.Native.Nat.{ℕ, zero, suc, ◌+◌, ◌≤◌}
use native.Mathlib.Omega.{arith}
use Rattle.ranges.specs.Distinct.{Apart}
use Rattle.ranges.specs.Lists.{from}
use Rattle.sharing.specs.Scheme.{points}
use Rattle.sharing.proofs.Points.{Different, zero_points}
use Rattle.presence.specs.Presence.{marked, choose, of_present}
use Rattle.lowering.specs.Lines.{Rising}
use Rattle.lowering.proofs.Lowering.{rising_less}

apart_choose : (x : ℕ) (bs : List Bool) (ys : List ℕ) → Apart x ys → Apart x (choose bs ys)
apart_choose x [] ys a = tt
apart_choose x (b ∷ bs) [] a = tt
apart_choose x (true ∷ bs) (y ∷ ys) a = (a.0, apart_choose x bs ys a.1)
apart_choose x (false ∷ bs) (y ∷ ys) a = apart_choose x bs ys a.1

different_choose : (bs : List Bool) (xs : List ℕ) → Different xs → Different (choose bs xs)
different_choose [] xs D = tt
different_choose (b ∷ bs) [] D = tt
different_choose (true ∷ bs) (x ∷ xs) D = (D.0, apart_choose x bs xs D.1, different_choose bs xs D.2)
different_choose (false ∷ bs) (x ∷ xs) D = different_choose bs xs D.2

pub zero_choose : (n : ℕ) (present : List ℕ) → n ≤ 9 → Different (0 ∷ of_present present (points n))
zero_choose n present h = different_choose (true ∷ marked present) (0 ∷ points n) (zero_points n h)

rising_choose : (bs : List Bool) (a k : ℕ) → a + k ≤ 9 → Rising a (choose bs (from (suc a) k))
unfolding from
rising_choose [] a k h = tt
rising_choose (b ∷ bs) a zero h = tt
rising_choose (true ∷ bs) a (suc k) h = (omega arith, omega arith, rising_choose bs (suc a) k (omega arith))
rising_choose (false ∷ bs) a (suc k) h =
    rising_less (suc a) a (choose bs (from (suc (suc a)) k)) (omega arith) (rising_choose bs (suc a) k (omega arith))

pub rising_points : (n : ℕ) (present : List ℕ) → n ≤ 9 → Rising 0 (of_present present (points n))
rising_points n present h = rising_choose (marked present) 0 n (omega arith)
