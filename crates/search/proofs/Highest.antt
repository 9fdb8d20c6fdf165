-- The highest index that passes: what it is, and, where passing only ends along the list, that it tells who passes. Assumes nothing.
use mathlib.Core.Path.{◌≡◌, refl, ◌∙◌, ap, sym}
use mathlib.Core.Bool.{Bool, true, false, cond}
use Prim.Native.Nat.{ℕ, zero, suc, ◌≤◌, ◌<◌}
use native.Mathlib.Decide.{ℕ_discrete, dec_le}
use native.Mathlib.Omega.{arith}
use borrow.Author.Tests.{le-leb, lt-leb}
use lib.Dec.{leb}
use Rattle.search.specs.Clearing.{highest}

-- h is the highest index from 1 to k that passes, or 0
pub record Highest (passes : ℕ → Bool) (k h : ℕ) : Type 0 where
  pub within : h ≤ k
  pub passing : 0 < h → passes h ≡ true
  pub above : (i : ℕ) → h < i → i ≤ k → passes i ≡ false

module _ (passes : ℕ → Bool) where
  more : (k : ℕ) {h : ℕ} (t : Bool) → passes (suc k) ≡ t → Highest passes k h → Highest passes (suc k) (cond t (suc k) h)
  more k true e H = record { within = omega arith; passing = λ lt. e; above = λ i lt le. absurd (omega arith) }
  more k {h} false e H =
      record {
        within = omega arith;
        passing = H.passing;
        above = λ i lt le.
            elim (ℕ_discrete i (suc k)) [
              | yes q ↦ ap passes q ∙ e
              | no q ↦ H.above i lt (omega arith)
            ];
      }

  pub highest_law : (k : ℕ) → Highest passes k (highest passes k)
  unfolding highest
  highest_law zero = record { within = omega arith; passing = λ lt. absurd (omega arith); above = λ i lt le. absurd (omega arith) }
  highest_law (suc k) = more k (passes (suc k)) refl (highest_law k)

-- passing only ends along the list: what stands before an index that passes does too
abbrev pub Ending : (passes : ℕ → Bool) (k : ℕ) → Type 0
Ending passes k = (i j : ℕ) → 1 ≤ i → i ≤ j → j ≤ k → passes j ≡ true → passes i ≡ true

-- then an index passes exactly when it is at most the highest
pub passes_by_highest : (passes : ℕ → Bool) (k i : ℕ) → Ending passes k → 1 ≤ i → i ≤ k → passes i ≡ leb i (highest passes k)
passes_by_highest passes k i ends lo hi =
    elim (dec_le i (highest passes k)) [
      | yes le ↦
          ends i (highest passes k) lo le H.within (H.passing (omega arith)) ∙ sym (le-leb i (highest passes k) le)
      | no gt ↦ H.above i (omega arith) hi ∙ sym (lt-leb i (highest passes k) (omega arith))
    ]
  where
    H : Highest passes k (highest passes k)
    H = highest_law passes k
