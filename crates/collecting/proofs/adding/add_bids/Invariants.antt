-- What holds at each turn of the loops of `add_bids`. Assumes nothing.
use mathlib.Core.Path.{◌≡◌}
use mathlib.Core.List.{zip}
use Prim.Native.Nat.{◌-◌}
use lib.ListN.{drop}
use Rattle.sharing.specs.Scheme.{threshold}
use Rattle.auction.specs.Auction.{IsAuction}
use Rattle.auction.proofs.Closed.{totals_after, no_totals}
use Rattle.draws.specs.Draws.{bid_coins, after_bids}
use Rattle.sections.specs.Sections.{tables}
use Rattle.roll.specs.Marks.{empty}
use Rattle.standing.specs.Numbered.{numbered}
use Rattle.standing.proofs.Standing.{auction_of, Holds}
use Rattle.draws.proofs.Drawn.{Word}
use Rattle.standing.proofs.Holding.{Bidding}
use Rattle.collecting.proofs.adding.add_bids.Given as goal

abbrev pub invariant-loop-i : goal.invariant-loop-i
invariant-loop-i l =
    Word l.so_far.state
    × (after_bids (threshold l.n) l.k (l.bids - l.i) l.so_far.state ≡ after_bids (threshold l.n) l.k l.bids l.state)
    × (IsAuction (auction_of l.n l.k l.bids (drop l.at l.input))
    → Holds (auction_of l.n l.k l.bids (drop l.at l.input)) empty (no_totals (auction_of l.n l.k l.bids (drop l.at l.input))) l.initial.so_far.parties l.initial.totals
    → Bidding (auction_of l.n l.k l.bids (drop l.at l.input)) l.bids l.input
    (totals_after (zip (numbered 1 (tables l.k l.bids (drop l.at l.input))) (bid_coins (threshold l.n) l.k l.bids l.state)) (no_totals (auction_of l.n l.k l.bids (drop l.at l.input))))
    l.so_far.parties l.totals l.so_far.at l.so_far.state l.i)
