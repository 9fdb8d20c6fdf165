-- `is_party` meets its contract. Assumes nothing.
use Rattle.std.proofs.Common.{refl}
use Rattle.ranges.specs.Sizes.{party}
use Rattle.ranges.proofs.parties.is_party.Goals as goal

pub returns : goal.returns
unfolding party
returns c = refl
