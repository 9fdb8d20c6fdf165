-- `in_round` meets its contract. Assumes nothing.
use mathlib.Core.Path.{refl}
use Rattle.record.specs.Updates.{in_round}
use Rattle.stepping.proofs.in_round.Goals as goal

pub returns : goal.returns
unfolding in_round
returns c = refl
