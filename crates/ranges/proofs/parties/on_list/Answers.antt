-- `on_list` meets its contract. Assumes nothing.
use Rattle.std.proofs.Common.{Bool, ◌&&◌, ap}
use Rattle.ranges.specs.Sizes.{listed}
use Rattle.ranges.proofs.parties.on_list.Goals as goal

pub returns : goal.returns
unfolding listed
returns c = ap (λ (b : Bool). b && listed c.args.k) c.is_party.ensures
