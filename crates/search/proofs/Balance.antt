-- The balanced prices: demand equals supply exactly from j to i, of which the price is the middle; and i and j alone tell every verdict of
-- both searches. Assumes nothing.
use mathlib.Core.Path.{◌≡◌, sym, ap, ap₂, ◌∙◌}
use mathlib.Core.Bool.{Bool, true, false, cond, not, ◌&&◌, ◌||◌, true≢false}
use Prim.Native.Nat.{ℕ, ◌+◌, ◌-◌, ◌/◌, ◌≤◌, ◌<◌}
use native.Mathlib.Nat.{le_antisymm}
use native.Mathlib.Decide.{ℕ_discrete, dec_le}
use native.Mathlib.Omega.{arith}
use lib.Dec.{leb, ltb, eqb}
use borrow.Author.Tests.{leb-true, leb-false, ltb-true, le-leb, lt-leb, le-ltb, lt-ltb, ne_eqb, not-true}
use Rattle.verdict.specs.Verdict.{verdict}
use Rattle.ranges.proofs.Loops.{and-true}
use Rattle.search.specs.Clearing.{lowest, covered, clearing, balancing, price_index, Monotone}
use Rattle.search.specs.Searches.{side}
use Rattle.search.specs.Search.{promise}
use Rattle.search.proofs.Highest.{highest_law, Ending, passes_by_highest}
use Rattle.search.proofs.Lowest.{lowest_law, passes_by_lowest}
use Rattle.search.proofs.Clearing.{covered_true, covered_ends, clearing_within, clearing_last}

-- demand is above supply at the index i
abbrev pub short : (demand supply : ℕ → ℕ) (i : ℕ) → Bool
short demand supply i = not (covered supply demand i)

-- neither j nor the price is past i
module _ (demand supply : ℕ → ℕ) (k : ℕ) where
  pub lowest_within : balancing demand supply k ≤ clearing demand supply k
  unfolding balancing
  lowest_within = (lowest_law (covered supply demand) (clearing demand supply k)).within

  pub price_within : price_index (clearing demand supply k) (balancing demand supply k) ≤ clearing demand supply k
  unfolding price_index
  price_within = split (eqb (balancing demand supply k) 0)
    where
      split : (t : Bool) → cond t (clearing demand supply k) ((clearing demand supply k + balancing demand supply k) / 2) ≤ clearing demand supply k
      split true = omega arith
      split false = omega (arith, lowest_within)

-- a part of the list
pub shorter : {demand supply : ℕ → ℕ} {k : ℕ} (i : ℕ) → i ≤ k → Monotone demand supply k → Monotone demand supply i
shorter i le M =
    record {
      demand_falls = λ x y least up most. M.demand_falls x y least up (omega arith);
      supply_rises = λ x y least up most. M.supply_rises x y least up (omega arith);
    }

-- demand is above supply up to an index
pub short_ends : {demand supply : ℕ → ℕ} {k : ℕ} → Monotone demand supply k → Ending (short demand supply) k
unfolding covered
short_ends {demand} {supply} M i j lo le hi e =
    ap not
    (lt-leb (demand i) (supply i)
    (omega (arith, leb-false (demand j) (supply j) (not-true _ e), M.demand_falls i j lo le hi, M.supply_rises i j lo le hi)))

module _ {demand supply : ℕ → ℕ} {k : ℕ} (M : Monotone demand supply k) where
  abbrev i : ℕ
  i = clearing demand supply k

  abbrev j : ℕ
  j = balancing demand supply k

  upto : Monotone demand supply i
  upto = shorter i (clearing_within demand supply k) M

  -- up to i, supply is at least demand exactly from j on
  pub from_lowest : (x : ℕ) → 1 ≤ x → x ≤ i → covered supply demand x ≡ ltb 0 j && leb j x
  unfolding balancing
  from_lowest x least most = passes_by_lowest (covered supply demand) i (short_ends upto) x least most

  at_highest : 0 < i → covered demand supply i ≡ true
  unfolding clearing
  at_highest lt = (highest_law (covered demand supply) k).passing lt

  -- supply is at least demand where the two are equal, and above i
  at_least : (x : ℕ) → demand x ≤ supply x → covered supply demand x ≡ true
  unfolding covered
  at_least x le = le-leb (demand x) (supply x) le

  -- ---- "where demand equals supply at several neighbouring prices"

  pub equal_between : 0 < j → (x : ℕ) → j ≤ x → x ≤ i → demand x ≡ supply x
  equal_between some x from upto_i =
      le_antisymm
      (covered_true supply demand x (from_lowest x (omega arith) upto_i ∙ ap₂ ◌&&◌ (lt-ltb 0 j some) (le-leb j x from)))
      (covered_true demand supply x
      (covered_ends M x i (omega arith) upto_i (clearing_within demand supply k) (at_highest (omega arith))))

  pub equal_nowhere_else : (x : ℕ) → 1 ≤ x → x ≤ k → demand x ≡ supply x → (0 < j) × (j ≤ x) × (x ≤ i)
  equal_nowhere_else x least most e =
      let below : x ≤ i =
      elim (dec_le x i) [
        | yes le ↦ le
        | no gt ↦ absurd (omega (arith, clearing_last demand supply k x (omega arith) most))
      ] in
      let both = and-true (ltb 0 j) (leb j x) (sym (from_lowest x least below) ∙ at_least x (omega arith)) in
      (ltb-true 0 j both.0, leb-true j x both.1, below)

  -- "the middle one is taken, rounded down": as many of them stand below it as above, or one less
  pub middle_taken : 0 < j → (j ≤ price_index i j) × (price_index i j ≤ i) × (price_index i j - j ≤ i - price_index i j) × (i - price_index i j ≤ price_index i j - j + 1)
  unfolding price_index
  middle_taken some =
      let within = lowest_within demand supply k in
      rw (ne_eqb j 0 (λ e. omega arith)) (omega arith, omega arith, omega arith, omega arith)

  -- ---- verdicts

  -- demand is at least supply exactly up to i
  upto_highest : (x : ℕ) → 1 ≤ x → x ≤ k → covered demand supply x ≡ leb x i
  unfolding clearing
  upto_highest x least most = passes_by_highest (covered demand supply) k x (covered_ends M) least most

  -- supply is at least demand above i, and from j on
  above_or_from : (x : ℕ) → 1 ≤ x → x ≤ k → covered supply demand x ≡ ltb i x || (ltb 0 j && leb j x)
  above_or_from x least most =
      elim (dec_le x i) [
        | yes le ↦ from_lowest x least le ∙ ap (λ (t : Bool). t || (ltb 0 j && leb j x)) (sym (le-ltb i x le))
        | no gt ↦
            at_least x (omega (arith, clearing_last demand supply k x (omega arith) most))
            ∙ ap (λ (t : Bool). t || (ltb 0 j && leb j x)) (sym (lt-ltb i x (omega arith)))
      ]

  pub promise_by_answers : (which x : ℕ) → 1 ≤ x → x ≤ k
      → promise demand supply which x ≡ cond (side which (leb x i) (ltb i x || (ltb 0 j && leb j x))) 1 0
  unfolding side verdict covered
  promise_by_answers which x least most = split (eqb which 2)
    where
      split : (t : Bool) → ◌≡◌ {A = ℕ} (cond (leb (cond t (demand x) (supply x)) (cond t (supply x) (demand x))) 1 0)
          (cond (cond t (ltb i x || (ltb 0 j && leb j x)) (leb x i)) 1 0)
      split true = ap (λ (t : Bool). cond t 1 0) (above_or_from x least most)
      split false = ap (λ (t : Bool). cond t 1 0) (upto_highest x least most)

-- ---- where demand equals supply everywhere, as where nobody bids

module _ (demand supply : ℕ → ℕ) (k : ℕ) (some : 1 ≤ k) (equal : (i : ℕ) → demand i ≡ supply i) where
  clearing_last_of_all : clearing demand supply k ≡ k
  clearing_last_of_all =
      elim (dec_le k (clearing demand supply k)) [
        | yes le ↦ le_antisymm (clearing_within demand supply k) le
        | no lt ↦ absurd (omega (arith, clearing_last demand supply k k (omega arith) (omega arith), equal k))
      ]

  balancing_first_of_all : balancing demand supply k ≡ 1
  unfolding balancing covered
  balancing_first_of_all =
      let L = lowest_law (covered supply demand) (clearing demand supply k) in
      let one : covered supply demand 1 ≡ true = le-leb (demand 1) (supply 1) (omega (arith, equal 1)) in
      elim (ℕ_discrete (lowest (covered supply demand) (clearing demand supply k)) 0) [
        | yes none ↦ absurd (true≢false (sym one ∙ L.none none 1 (omega arith) (omega (arith, clearing_last_of_all))))
        | no found ↦
            elim (dec_le (lowest (covered supply demand) (clearing demand supply k)) 1) [
              | yes le ↦ omega (arith, found)
              | no gt ↦ absurd (true≢false (sym one ∙ L.below 1 (omega arith) (omega arith)))
            ]
      ]

  pub all_equal : price_index (clearing demand supply k) (balancing demand supply k) ≡ (k + 1) / 2
  unfolding price_index
  all_equal = rw (clearing_last_of_all, balancing_first_of_all)

-- ---- two auctions with the same i and j have the same verdicts

pub same_promises : {demand supply demand' supply' : ℕ → ℕ} {k : ℕ} → Monotone demand supply k → Monotone demand' supply' k
    → clearing demand supply k ≡ clearing demand' supply' k → balancing demand supply k ≡ balancing demand' supply' k
    → (which x : ℕ) → 1 ≤ x → x ≤ k → promise demand supply which x ≡ promise demand' supply' which x
same_promises M M' e f which x least most =
    promise_by_answers M which x least most
    ∙ ap₂ (λ (i j : ℕ). cond (side which (leb x i) (ltb i x || (ltb 0 j && leb j x))) 1 0) e f
    ∙ sym (promise_by_answers M' which x least most)
