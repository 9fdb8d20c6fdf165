-- Searches that end at a price: it is on the list, and supply is at most demand there. Assumes nothing.
use mathlib.Core.Path.{◌≡◌, refl}
use mathlib.Core.Bool.{Bool, true, false, cond, not, ◌&&◌}
use Prim.Native.Nat.{ℕ, ◌+◌, ◌/◌, ◌≤◌}
use native.Mathlib.Omega.{arith}
use lib.Dec.{leb, eqb}
use borrow.Author.Tests.{leb-true, eqb-false, ne_eqb, not-true}
use Rattle.ranges.proofs.Loops.{and-true}
use Rattle.search.specs.declared.searches.Search.{Search}
use Rattle.search.specs.Clearing.{clearing, balancing, price_index, Monotone}
use Rattle.search.specs.Searches.{first_search, finished, price, clears}
use Rattle.search.proofs.Clearing.{clearing_within, clearing_covered}
use Rattle.search.proofs.Balance.{price_within}
use Rattle.search.proofs.Bounds.{Sound, in_first, in_second, finished_second}

module _ (s : Search) where
  pub clears_finished : clears s ≡ true → finished s ≡ true
  unfolding clears
  clears_finished e = (and-true (finished s) (not (eqb (price s) 0)) e).0

  pub clears_some : clears s ≡ true → 1 ≤ price s
  unfolding clears
  clears_some e = let h = eqb-false (price s) 0 (not-true _ (and-true (finished s) (not (eqb (price s) 0)) e).1) in omega (arith, h)

  pub clears_of : finished s ≡ true → 1 ≤ price s → clears s ≡ true
  unfolding clears
  clears_of f h = rw (f, ne_eqb (price s) 0 (λ e. omega arith))

  pub going_clears : finished s ≡ false → clears s ≡ false
  unfolding clears
  going_clears f = rw f

  pub nought_clears : price s ≡ 0 → clears s ≡ false
  unfolding clears
  nought_clears e = rw e (and_nought (finished s))
    where
      and_nought : (t : Bool) → t && false ≡ false
      and_nought true = refl
      and_nought false = refl

  -- the price is on the list
  pub price_on_list : (k : ℕ) → Sound k s → finished s ≡ true → price s ≤ k
  unfolding price
  price_on_list k S f = split (leb s.bracket.hi s.first) refl
    where
      within : Sound k s → s.first ≤ k
      within (in_first h) = absurd (omega (arith, h.on, finished_second s f))
      within (in_second h) = h.within

      split : (t : Bool) → leb s.bracket.hi s.first ≡ t → cond t ((s.first + s.bracket.hi) / 2) s.first ≤ k
      split true e = omega (arith, leb-true s.bracket.hi s.first e, within S)
      split false e = within S

-- the first search goes on at the start
pub first_going : (k : ℕ) → finished (first_search k) ≡ false
unfolding finished first_search
first_going k = refl

-- "S above D" is never opened at the price: demand falls and supply rises up to the highest index at which demand is at least supply
pub covered_at_price : {demand supply : ℕ → ℕ} {k : ℕ} → Monotone demand supply k
    → 1 ≤ price_index (clearing demand supply k) (balancing demand supply k)
    → supply (price_index (clearing demand supply k) (balancing demand supply k)) ≤ demand (price_index (clearing demand supply k) (balancing demand supply k))
covered_at_price {demand} {supply} {k} M some =
    let i : ℕ = clearing demand supply k in
    let m : ℕ = price_index i (balancing demand supply k) in
    let most : m ≤ i = price_within demand supply k in
    let within : i ≤ k = clearing_within demand supply k in
    omega (
      arith,
      clearing_covered demand supply k (omega arith),
      M.demand_falls m i some most within,
      M.supply_rises m i some most within,
    )
