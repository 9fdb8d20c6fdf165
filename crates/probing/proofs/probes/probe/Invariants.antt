-- What holds at each turn of the loops of `probe`. Assumes nothing.
use mathlib.Core.List.{List}
use Rattle.search.specs.declared.searches.Search.{Search}
use Rattle.ways.specs.Way.{way_of}
use Rattle.comparison.specs.Probe.{SheetCoins}
use Rattle.auction.specs.Auction.{Bid, IsAuction}
use Rattle.auction.specs.Coins.{Coins, InRange}
use Rattle.auction.proofs.Closed.{polynomials, probe_of, fresh_stage}
use Rattle.auction.proofs.Round.{Ready, stage_of}
use Rattle.draws.specs.Draws.{last_rehearsed}
use Rattle.standing.specs.Numbered.{rehearsed}
use Rattle.standing.proofs.Standing.{Stands}
use Rattle.probing.proofs.probes.probe.Given as goal

abbrev pub invariant-loop : goal.invariant-loop
invariant-loop l =
    (bids : List Bid) (c : Coins) → IsAuction (rehearsed l.n l.k bids) → InRange (rehearsed l.n l.k bids) c
    → (here : Search) (s : SheetCoins) (ss : List SheetCoins) → Ready (rehearsed l.n l.k bids) c here s ss
    → Stands (rehearsed l.n l.k bids) c (fresh_stage here) l.initial.after l.totals l.sheets
    → Stands (rehearsed l.n l.k bids) c
    (stage_of (way_of last_rehearsed) here (probe_of (rehearsed l.n l.k bids) (polynomials (rehearsed l.n l.k bids) c) here s) l.counter)
    l.after l.totals l.sheets
