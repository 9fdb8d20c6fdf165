-- The limit of a search is the base-2 logarithm of k + 1, rounded up. Assumes nothing.
use mathlib.Core.Path.{◌≡◌}
use Prim.Native.Nat.{ℕ, zero, suc, ◌+◌, ◌*◌, ◌/◌, ◌^◌, ◌≤◌, ◌<◌}
use native.Mathlib.Nat.{pow-suc, pow-le-pow_right, le_refl}
use native.Mathlib.Decide.{dec_le}
use native.Mathlib.Omega.{arith}
use lib.Arith.{half_le}
use lib.Count.{count_leading_zeros, leading_length}
use Rattle.search.specs.Limit.{digits, limit}

enough : (h n : ℕ) → n ≤ h → n < 2 ^ digits h n
unfolding digits
enough zero n le = omega arith
enough (suc h) zero le = omega arith
enough (suc h) (suc n) le =
    let half : suc n / 2 < 2 ^ digits h (suc n / 2) = enough h (suc n / 2) (half_le le) in
    rw pow-suc (omega arith)

fewest : (h n m : ℕ) → n < 2 ^ m → digits h n ≤ m
unfolding digits
fewest zero n m lt = omega arith
fewest (suc h) zero m lt = omega arith
fewest (suc h) (suc n) zero lt = omega arith
fewest (suc h) (suc n) (suc m) lt =
    let twice : suc n < 2 ^ m * 2 = rw pow-suc at lt in
    let half : digits h (suc n / 2) ≤ m = fewest h (suc n / 2) m (omega arith) in
    omega arith

-- 2 ^ limit k is k + 1 or more, and no smaller power of 2 is
pub limit_law : (k : ℕ) → k + 1 ≤ 2 ^ limit k
unfolding limit
limit_law k = omega (arith, enough k k (le_refl k))

pub limit_least : (k m : ℕ) → k + 1 ≤ 2 ^ m → limit k ≤ m
unfolding limit
limit_least k m le = fewest k k m (omega arith)

-- it is the number of binary digits of k, which with the zeros before them make 64
pub limit_and_zeros : (k : ℕ) → k < 2 ^ 64 → count_leading_zeros 64 k + limit k ≡ 64
limit_and_zeros k h =
    let s = leading_length 64 k h in
    elim (dec_le s.0 (limit k)) [
      | yes le ↦ omega (arith, s.1, limit_least k s.0 (omega (arith, s.2)))
      | no gt ↦
          let more : 2 ^ suc (limit k) ≤ 2 ^ s.0 = pow-le-pow_right {n = 2} (omega arith) (omega arith) in
          let twice : 2 ^ limit k * 2 ≤ 2 ^ s.0 = rw pow-suc at more in
          absurd (omega (arith, s.3, limit_law k))
    ]
