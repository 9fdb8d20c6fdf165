-- What holds at each turn of the loops of `search`. Assumes nothing.
use mathlib.Core.Path.{◌≡◌}
use mathlib.Core.List.{List}
use Prim.Native.Nat.{◌-◌, ◌≤◌}
use lib.ListN.{length}
use Rattle.search.specs.Searches.{first_search}
use Rattle.auction.specs.Auction.{Bid, IsAuction}
use Rattle.auction.specs.Coins.{Coins, InRange}
use Rattle.auction.proofs.Closed.{fresh_stage}
use Rattle.standing.specs.Numbered.{rehearsed}
use Rattle.standing.proofs.Standing.{Stands}
use Rattle.listing.specs.Lines.{most_listed}
use Rattle.probing.proofs.Leading.{Led}
use Rattle.probing.proofs.searching.search.Given as goal

abbrev pub invariant-loop-done : goal.invariant-loop-done
invariant-loop-done l =
    (l.done ≤ most_listed)
    × (length l.trail ≡ most_listed)
    × (length l.here ≡ 9)
    × ((bids : List Bid) (c : Coins) → IsAuction (rehearsed l.n l.k bids) → InRange (rehearsed l.n l.k bids) c
    → Stands (rehearsed l.n l.k bids) c (fresh_stage (first_search l.k)) l.initial.here l.totals l.sheets
    → Led (rehearsed l.n l.k bids) c l.here l.totals l.sheets l.trail l.done)

abbrev pub decreases-loop-done : goal.decreases-loop-done
decreases-loop-done l = most_listed - l.done
