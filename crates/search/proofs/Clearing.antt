-- The clearing answer is the report's price. Assumes nothing.
use mathlib.Core.Path.{◌≡◌}
use mathlib.Core.Bool.{true, false}
use Prim.Native.Nat.{ℕ, ◌+◌, ◌≤◌, ◌<◌}
use native.Mathlib.Nat.{le_antisymm}
use native.Mathlib.Decide.{dec_le}
use native.Mathlib.Omega.{arith}
use borrow.Author.Tests.{leb-true, leb-false, le-leb}
use Rattle.search.specs.Clearing.{covered, clearing, Monotone}
use Rattle.search.proofs.Highest.{highest_law, Ending}

-- ---- at the answer demand is at least supply, and at no later index

module _ (demand supply : ℕ → ℕ) (i : ℕ) where
  pub covered_false : covered demand supply i ≡ false → demand i < supply i
  unfolding covered
  covered_false e = leb-false (supply i) (demand i) e

  pub covered_true : covered demand supply i ≡ true → supply i ≤ demand i
  unfolding covered
  covered_true e = leb-true (supply i) (demand i) e

module _ (demand supply : ℕ → ℕ) (k : ℕ) where
  pub clearing_within : clearing demand supply k ≤ k
  unfolding clearing
  clearing_within = (highest_law (covered demand supply) k).within

  pub clearing_covered : 0 < clearing demand supply k → supply (clearing demand supply k) ≤ demand (clearing demand supply k)
  unfolding clearing
  clearing_covered lt = covered_true demand supply _ ((highest_law (covered demand supply) k).passing lt)

  pub clearing_last : (i : ℕ) → clearing demand supply k < i → i ≤ k → demand i < supply i
  unfolding clearing
  clearing_last i lt le = covered_false demand supply i ((highest_law (covered demand supply) k).above i lt le)

-- ---- where demand never rises and supply never falls

module _ {demand supply : ℕ → ℕ} {k : ℕ} (M : Monotone demand supply k) where
  -- demand is at least supply up to an index
  pub covered_ends : Ending (covered demand supply) k
  unfolding covered
  covered_ends i j lo le hi e =
      le-leb (supply i) (demand i)
      (omega (arith, covered_true demand supply j e, M.demand_falls i j lo le hi, M.supply_rises i j lo le hi))

  -- the report's price, "b[i] ≥ s[i] ∧ b[i + 1] < s[i + 1]", is the answer wherever there is one
  pub report_price : (i : ℕ) → 1 ≤ i → i < k → supply i ≤ demand i → demand (i + 1) < supply (i + 1) → i ≡ clearing demand supply k
  report_price i one lt here next = le_antisymm not_before not_after
    where
      not_before : i ≤ clearing demand supply k
      not_before =
          elim (dec_le i (clearing demand supply k)) [
            | yes le ↦ le
            | no gt ↦ absurd (omega (arith, clearing_last demand supply k i (omega arith) (omega arith)))
          ]

      not_after : clearing demand supply k ≤ i
      not_after =
          elim (dec_le (clearing demand supply k) i) [
            | yes le ↦ le
            | no gt ↦
                absurd
                (omega (
                  arith,
                  clearing_covered demand supply k (omega arith),
                  M.demand_falls (i + 1) (clearing demand supply k) (omega arith) (omega arith) (clearing_within demand supply k),
                  M.supply_rises (i + 1) (clearing demand supply k) (omega arith) (omega arith) (clearing_within demand supply k),
                ))
          ]
