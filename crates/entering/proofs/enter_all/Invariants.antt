-- What holds at each turn of the loop of `enter_all`. Assumes nothing.
use lib.ListN.{drop}
use Rattle.entering.specs.Entries.{hours_told}
use Rattle.entering.proofs.Entering.{Entered}
use Rattle.entering.proofs.enter_all.Given as goal

abbrev pub invariant-loop-bid : goal.invariant-loop-bid
invariant-loop-bid l =
    Entered (hours_told l.party) l.k l.index l.bids (drop l.at l.input) l.into l.bid (drop l.next l.input)
