-- A match on a number whose arms are values of one function, the last being `_`. Assumes nothing.
use mathlib.Core.Path.{◌≡◌, sym, ap}
use Prim.Native.Nat.{ℕ, zero, suc, ◌≤◌, ◌<◌}
use native.Mathlib.Omega.{arith}

-- where k is none of 0 to n - 1
abbrev pub None : ℕ → ℕ → Type 0
None k zero = Unit
None k (suc n) = None k n × (k ≡ n → ⊥)

past : (k n : ℕ) → None k n → n ≤ k
past k zero none = omega arith
past k (suc n) none =
    let l : n ≤ k = past k n none.0 in
    let d : k ≡ n → ⊥ = none.1 in
    omega (arith, l, d)

-- each arm is the value of f there
module _ (f : ℕ → ℕ) where
  -- in an arm of its own
  pub at : {k n : ℕ} → k ≡ n → f n ≡ f k
  at e = ap f (sym e)

  -- in the arm of all that is left
  pub last : {k : ℕ} (n : ℕ) → None k n → k < suc n → f n ≡ f k
  last {k} n none h = let l : n ≤ k = past k n none in at {k = k} {n = n} (omega (arith, l, h))
