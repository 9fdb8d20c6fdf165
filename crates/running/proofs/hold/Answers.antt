-- `hold` meets its contract. Assumes nothing.
use native.Mathlib.Omega.{arith}
use lib.ListN.{drop}
use Rattle.auction.specs.Demands.{FleetTold}
use Rattle.probing.specs.Follows.{Follows}
use Rattle.running.proofs.Starting.{held_follows}
use Rattle.running.proofs.hold.Goals as goal

pub returns : goal.returns
returns c =
    let a = c.args in
    let r = c.search.result in
    let both =
    held_follows a.n a.k a.bids a.seed (drop a.at a.input.now) (omega (arith, c.ranges.seed)) c.collect-added.result.parties _ _ _
    (λ x. Follows x r.course × FleetTold x r.party) c.requires.2 c.collect-added.ensures.1 c.collect-added.ensures.0 c.deal_all.ensures
    c.search.ensures.1 in
    (c.search.ensures.0, both.0, both.1)
