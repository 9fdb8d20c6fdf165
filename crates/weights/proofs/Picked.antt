-- The row that is taken from a table for a count of parties. Assumes nothing.
use mathlib.Core.Path.{◌≡◌, ap}
use mathlib.Core.List.{List, []}
use Prim.Native.Nat.{ℕ, ◌-◌, ◌≤◌, min}
use native.Mathlib.Omega.{arith}
use lib.ListN.{get_or}

pub picked : (rows : List (List ℕ)) (k n : ℕ) → k ≡ min (n - 3) 6 → get_or rows k [] ≡ get_or rows (min (n - 3) 6) []
picked rows k n e = ap (λ (i : ℕ). get_or rows i []) e

-- of 3 to 9 parties it is their own
pub own_row : (rows : List (List ℕ)) (n : ℕ) → 3 ≤ n → n ≤ 9 → get_or rows (min (n - 3) 6) [] ≡ get_or rows (n - 3) []
own_row rows n least most =
    let e : min (n - 3) 6 ≡ n - 3 = omega arith in
    ap (λ (i : ℕ). get_or rows i []) e
