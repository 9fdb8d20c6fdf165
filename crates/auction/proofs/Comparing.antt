-- What a probe compares: the totals at its index, in the second search with the sides exchanged. Assumes nothing.
use mathlib.Core.Path.{refl}
use mathlib.Core.Bool.{Bool, true, false, cond}
use Prim.Native.Nat.{ℕ, ◌+◌, ◌-◌, ◌≤◌}
use native.Mathlib.Omega.{arith}
use lib.Dec.{eqb}
use Rattle.fields.specs.Amount.{p}
use Rattle.sharing.specs.Scheme.{threshold}
use Rattle.ways.specs.Way.{way_of}
use Rattle.search.specs.Searches.{side}
use Rattle.comparison.specs.Probe.{SheetCoins, SheetInRange, sheet_polynomials}
use Rattle.comparison.proofs.Values.{Shared}
use Rattle.comparison.proofs.Promise.{Compares}
use Rattle.auction.specs.Auction.{Auction, IsAuction, demand, supply, left_side, right_side}
use Rattle.auction.specs.Coins.{Coins, InRange}
use Rattle.auction.proofs.Closed.{polynomials, demand_at, supply_at, probe_at}
use Rattle.auction.proofs.Totals.{demand_small, supply_small, polynomial_shared, demand_secret, supply_secret}

module _ (a : Auction) (c : Coins) (A : IsAuction a) (C : InRange a c) (i : ℕ) (least : 1 ≤ i) (most : i ≤ a.k) where
  pub demand_shared : Shared p (threshold a.n) (demand_at a (polynomials a c) i)
  demand_shared = polynomial_shared A C (i - 1) (omega arith)

  pub supply_shared : Shared p (threshold a.n) (supply_at a (polynomials a c) i)
  supply_shared = polynomial_shared A C (a.k + i - 1) (omega arith)

  -- a probe compares the totals at its index
  pub compares : (which : ℕ) (s : SheetCoins) → SheetInRange (way_of a.last) (threshold a.n) s
      → Compares (way_of a.last) (threshold a.n) (left_side a which i) (right_side a which i) s (probe_at a (polynomials a c) which i s)
  unfolding probe_at side
  compares which s h = split (eqb which 2)
    where
      split : (t : Bool)
          → Compares (way_of a.last) (threshold a.n) (cond t (supply a i) (demand a i)) (cond t (demand a i) (supply a i)) s
          (record {
            demand = cond t (supply_at a (polynomials a c) i) (demand_at a (polynomials a c) i);
            supply = cond t (demand_at a (polynomials a c) i) (supply_at a (polynomials a c) i);
            sheet = sheet_polynomials s;
          })
      split true =
          record {
            demand_shared = supply_shared;
            supply_shared = demand_shared;
            demand_is = supply_secret A C i least most;
            supply_is = demand_secret A C i least most;
            demand_lt = supply_small A i;
            supply_lt = demand_small A i;
            ranged = h;
            sheet_is = refl;
          }
      split false =
          record {
            demand_shared = demand_shared;
            supply_shared = supply_shared;
            demand_is = demand_secret A C i least most;
            supply_is = supply_secret A C i least most;
            demand_lt = demand_small A i;
            supply_lt = supply_small A i;
            ranged = h;
            sheet_is = refl;
          }
