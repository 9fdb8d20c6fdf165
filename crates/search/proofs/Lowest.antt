-- The lowest index that passes: what it is, and, where passing only begins along the list, that it tells who passes. Assumes nothing.
use mathlib.Core.Path.{◌≡◌, refl, sym, ap, ◌∙◌}
use mathlib.Core.Bool.{Bool, true, false, cond, not, ◌&&◌, true≢false}
use Prim.Native.Nat.{ℕ, zero, suc, ◌≤◌, ◌<◌}
use native.Mathlib.Decide.{ℕ_discrete, dec_le}
use native.Mathlib.Omega.{arith}
use lib.Dec.{leb, ltb, eqb}
use borrow.Author.Tests.{eqb-true, eqb-false, leb-true, leb-false, ltb-true, ltb-false, not-true, not-false}
use Rattle.search.specs.Clearing.{highest, lowest}
use Rattle.search.proofs.Highest.{Highest, highest_law, Ending}

-- l is the lowest index from 1 to k that passes, or 0 where none does
pub record Lowest (passes : ℕ → Bool) (k l : ℕ) : Type 0 where
  pub within : l ≤ k
  pub passing : 0 < l → passes l ≡ true
  pub below : (i : ℕ) → 1 ≤ i → i < l → passes i ≡ false
  pub none : l ≡ 0 → (i : ℕ) → 1 ≤ i → i ≤ k → passes i ≡ false

module _ (passes : ℕ → Bool) where
  -- none was found before
  first : (k : ℕ) (t : Bool) → passes (suc k) ≡ t → Lowest passes k 0 → Lowest passes (suc k) (cond t (suc k) 0)
  first k true e L =
      record { within = omega arith; passing = λ lt. e; below = λ i least lt. L.none refl i least (omega arith); none = λ z. absurd (omega arith) }
  first k false e L =
      record {
        within = omega arith;
        passing = λ lt. absurd (omega arith);
        below = λ i least lt. absurd (omega arith);
        none = λ z i least le.
            elim (ℕ_discrete i (suc k)) [
              | yes q ↦ ap passes q ∙ e
              | no q ↦ L.none refl i least (omega arith)
            ];
      }

  -- one was
  found : (k : ℕ) {l : ℕ} → (l ≡ 0 → ⊥) → Lowest passes k l → Lowest passes (suc k) l
  found k some L = record { within = omega (arith, L.within); passing = L.passing; below = L.below; none = λ z. absurd (some z) }

  more : (k l : ℕ) (t : Bool) → eqb l 0 ≡ t → Lowest passes k l → Lowest passes (suc k) (cond t (cond (passes (suc k)) (suc k) 0) l)
  more k l true e L =
      let z : l ≡ 0 = eqb-true l 0 e in
      first k (passes (suc k)) refl (rw z at L)
  more k l false e L = found k (eqb-false l 0 e) L

  pub lowest_law : (k : ℕ) → Lowest passes k (lowest passes k)
  unfolding lowest
  lowest_law zero =
      record {
        within = omega arith;
        passing = λ lt. absurd (omega arith);
        below = λ i least lt. absurd (omega arith);
        none = λ z i least le. absurd (omega arith);
      }
  lowest_law (suc k) = more k (lowest passes k) (eqb (lowest passes k) 0) refl (lowest_law k)

-- ---- where passing only begins along the list: what does not pass ends

module _ (passes : ℕ → Bool) (k : ℕ) (ends : Ending (λ i. not (passes i)) k) where
  abbrev l : ℕ
  l = lowest passes k

  L : Lowest passes k l
  L = lowest_law passes k

  -- an index passes exactly from the lowest on, if there is one
  pub passes_by_lowest : (i : ℕ) → 1 ≤ i → i ≤ k → passes i ≡ ltb 0 l && leb l i
  passes_by_lowest i least most = split (ltb 0 l) (leb l i) refl refl
    where
      split : (some from : Bool) → ltb 0 l ≡ some → leb l i ≡ from → passes i ≡ some && from
      split false from s f = L.none (omega (arith, ltb-false 0 l s)) i least most
      split true false s f = L.below i least (leb-false l i f)
      split true true s f = whole (passes i) refl
        where
          whole : (t : Bool) → passes i ≡ t → passes i ≡ true
          whole true e = e
          whole false e =
              absurd
              (true≢false
              (sym (L.passing (ltb-true 0 l s)) ∙ not-true (passes l) (ends l i (omega (arith, ltb-true 0 l s)) (leb-true l i f) most (ap not e))))

  -- the last index that does not pass stands just before the lowest that does; where none does it is k
  abbrev h : ℕ
  h = highest (λ i. not (passes i)) k

  H : Highest (λ i. not (passes i)) k h
  H = highest_law (λ i. not (passes i)) k

  pub last_before : 0 < l → suc h ≡ l
  last_before some =
      elim (dec_le l h) [
        | yes le ↦
            absurd (true≢false (sym (L.passing some) ∙ not-true (passes l) (ends l h (omega arith) le H.within (H.passing (omega arith)))))
        | no gt ↦
            elim (dec_le l (suc h)) [
              | yes le ↦ omega arith
              | no lt ↦
                  absurd
                  (true≢false
                  (sym (not-false (passes (suc h)) (H.above (suc h) (omega arith) (omega (arith, L.within)))) ∙ L.below (suc h) (omega arith) (omega arith)))
            ]
      ]

  pub last_of_all : l ≡ 0 → h ≡ k
  last_of_all none =
      elim (dec_le k h) [
        | yes le ↦ omega (arith, H.within)
        | no lt ↦
            absurd
            (true≢false
            (sym (not-false (passes (suc h)) (H.above (suc h) (omega arith) (omega arith))) ∙ L.none none (suc h) (omega arith) (omega arith)))
      ]
