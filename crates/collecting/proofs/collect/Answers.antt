-- `collect` meets its contract. Assumes nothing.
use mathlib.Core.Path.{◌≡◌, ap, ◌∙◌}
use lib.ListN.{drop}
use Rattle.sharing.specs.Scheme.{threshold}
use Rattle.draws.specs.Draws.{first_state, after_bids}
use Rattle.standing.proofs.Holding.{opened_holds, collected_holds}
use Rattle.collecting.proofs.collect.Goals as goal

pub returns : goal.returns
returns c =
    let a = c.args in
    let e : c.first_state.result ≡ first_state a.seed = c.first_state.ensures in (
      c.add_bids.ensures.0 ∙ ap (after_bids (threshold a.n) a.k a.bids) e,
      collected_holds a.n a.k a.bids a.seed (drop a.at a.input.now) _ e c.open_all-parties.result c.add_bids.result.parties _ _ c.requires.2 c.add_bids.ensures.1
          (opened_holds c.requires.2 _ _ c.open_all-parties.result c.requires.3 c.open_all-parties.ensures),
    )
