-- What holds at each turn of the loops of `open_totals`. Assumes nothing.
use mathlib.Core.Path.{◌≡◌}
use mathlib.Core.List.{List}
use lib.ListN.{length}
use Rattle.auction.specs.Auction.{Bid, IsAuction}
use Rattle.auction.specs.Coins.{Coins, InRange}
use Rattle.auction.proofs.Closed.{decided_stage}
use Rattle.auction.proofs.Whole.{last, end}
use Rattle.standing.specs.Numbered.{rehearsed}
use Rattle.standing.proofs.Standing.{Stands}
use Rattle.total_rounds.proofs.Closing.{Closing}
use Rattle.total_rounds.proofs.open_totals.Given as goal

abbrev pub invariant-loop : goal.invariant-loop
invariant-loop l =
    (length l.here ≡ 9)
    × ((bids : List Bid) (c : Coins) → IsAuction (rehearsed l.n l.k bids) → InRange (rehearsed l.n l.k bids) c
    → Stands (rehearsed l.n l.k bids) c (decided_stage (last (rehearsed l.n l.k bids) c)) l.initial.here l.totals l.sheets
    → Closing (rehearsed l.n l.k bids) c (end (rehearsed l.n l.k bids) c) l.here l.totals l.sheets l.counter)
