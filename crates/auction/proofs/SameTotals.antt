-- Two auctions whose pool has the same shares of a total, and whose totals are equal, share it alike: t points and the total fix a polynomial
-- of degree at most t. So the words of rounds 34 and 35 are the same. Assumes nothing.
use mathlib.Core.Path.{◌≡◌, refl, sym, ap, ap₂, ◌∙◌}
use mathlib.Core.Bool.{Bool, true, false, cond}
use mathlib.Core.List.Memᴰ
use mathlib.Core.List.{List, [], ◌∷◌, map}
use mathlib.Core.Logic.{◌⊎◌, inl, inr}
use Prim.Native.Nat.{ℕ, ◌+◌, ◌-◌, ◌≤◌, ◌<◌}
use native.Mathlib.Omega.{arith}
use lib.Dec.{eqb}
use lib.ListN.{get_or}
use borrow.Author.Tests.{eqb-false}
use Rattle.fields.specs.Amount.{p, amounts}
use Rattle.fields.proofs.Fields.{amount_field}
use Rattle.sharing.specs.Polynomial.{value, shares}
use Rattle.sharing.specs.Scheme.{threshold, points}
use Rattle.sharing.proofs.Laws.{at_zero}
use Rattle.sharing.proofs.Points.{with_zero}
use Rattle.comparison.specs.Probe.{secret}
use Rattle.comparison.proofs.Values.{Shared}
use Rattle.comparison.proofs.Agreement.{In, fixed, same_map}
use Rattle.search.proofs.Balance.{price_within}
use Rattle.search.proofs.Clearing.{clearing_within}
use Rattle.auction.specs.Auction.{Auction, IsAuction, Bid, demand, supply, price_answer}
use Rattle.auction.specs.Coins.{Coins, InRange}
use Rattle.auction.specs.Demands.{Pool}
use Rattle.auction.proofs.Closed.{polynomials, demand_at, supply_at, totals_spoken}
use Rattle.auction.proofs.Totals.{demand_secret, supply_secret}
use Rattle.auction.proofs.Comparing.{demand_shared, supply_shared}
use Rattle.auction.proofs.SameProbes.{auction}

secret_at_zero : (t : ℕ) (cs : List ℕ) → Shared p t cs → value amounts cs 0 ≡ secret cs
secret_at_zero t [] h = absurd (omega (arith, h.0))
secret_at_zero t (s ∷ cs) h = at_zero amount_field s cs h.1.0 h.1.1

-- one total
same_total : (n : ℕ) (pool f f' : List ℕ) → n ≤ 9 → Pool n pool → Shared p (threshold n) f → Shared p (threshold n) f'
    → shares amounts f' pool ≡ shares amounts f pool → secret f' ≡ secret f → f' ≡ f
same_total n pool f f' most P h h' seen total =
    fixed amount_field (threshold n) (0 ∷ pool) f' f (with_zero n pool most P.parties) (omega (arith, P.many)) h' h
    (λ x m. at x (Memᴰ.cases_cons m))
  where
    at : (x : ℕ) → (x ≡ 0) ⊎ In x pool → value amounts f' x ≡ value amounts f x
    at x (inl e) =
        ap (value amounts f') e ∙ secret_at_zero (threshold n) f' h' ∙ total ∙ sym (ap (value amounts f) e ∙ secret_at_zero (threshold n) f h)
    at x (inr m) = same_map (value amounts f') (value amounts f) pool seen x m

-- of two auctions of n parties and k prices the totals that are opened
module _ (n k last : ℕ) (bids bids' : List Bid) (A : IsAuction (auction n k last bids)) (B : IsAuction (auction n k last bids')) (pool : List ℕ) (P : Pool n pool)
    (c c' : Coins) (C : InRange (auction n k last bids) c) (C' : InRange (auction n k last bids') c')
    (seen : (e : ℕ) → shares amounts (get_or (polynomials (auction n k last bids') c') e []) pool ≡ shares amounts (get_or (polynomials (auction n k last bids) c) e []) pool) where
  abbrev a : Auction
  a = auction n k last bids

  abbrev b : Auction
  b = auction n k last bids'

  abbrev m : ℕ
  m = price_answer a

  most : m ≤ k
  most = omega (arith, price_within (demand a) (supply a) k, clearing_within (demand a) (supply a) k)

  module _ (least : 1 ≤ m) where
    same_demand : demand b m ≡ demand a m → demand_at b (polynomials b c') m ≡ demand_at a (polynomials a c) m
    same_demand e =
        same_total n pool _ _ A.n_most P (demand_shared a c A C m least most) (demand_shared b c' B C' m least most) (seen (m - 1))
        (demand_secret B C' m least most ∙ e ∙ sym (demand_secret A C m least most))

    same_supply : supply b m ≡ supply a m → supply_at b (polynomials b c') m ≡ supply_at a (polynomials a c) m
    same_supply e =
        same_total n pool _ _ A.n_most P (supply_shared a c A C m least most) (supply_shared b c' B C' m least most) (seen (k + m - 1))
        (supply_secret B C' m least most ∙ e ∙ sym (supply_secret A C m least most))

  pub totals_alike : price_answer b ≡ m → (0 < m → demand b m ≡ demand a m) → (0 < m → supply b m ≡ supply a m)
      → totals_spoken b (polynomials b c') ≡ totals_spoken a (polynomials a c)
  unfolding totals_spoken
  totals_alike e d s =
      ap
      (λ (i : ℕ).
      cond (eqb i 0) [] (map (λ j. value amounts (demand_at b (polynomials b c') i) j ∷ []) (points n) ∷ map (λ j. value amounts (supply_at b (polynomials b c') i) j ∷ []) (points n) ∷ []))
      e
      ∙ split (eqb m 0) refl
    where
      split : (z : Bool) → eqb m 0 ≡ z → ◌≡◌ {A = List (List (List ℕ))}
          (cond z [] (map (λ j. value amounts (demand_at b (polynomials b c') m) j ∷ []) (points n) ∷ map (λ j. value amounts (supply_at b (polynomials b c') m) j ∷ []) (points n) ∷ []))
          (cond z [] (map (λ j. value amounts (demand_at a (polynomials a c) m) j ∷ []) (points n) ∷ map (λ j. value amounts (supply_at a (polynomials a c) m) j ∷ []) (points n) ∷ []))
      split true z = refl
      split false z =
          let other = eqb-false m 0 z in
          let some : 0 < m = omega (arith, other) in
          ap₂ (λ (f g : List ℕ). map (λ j. value amounts f j ∷ []) (points n) ∷ map (λ j. value amounts g j ∷ []) (points n) ∷ [])
          (same_demand some (d some)) (same_supply some (s some))
