-- `after_level` meets its contract. Assumes nothing.
use mathlib.Core.Path.{refl}
use Rattle.record.specs.Updates.{in_round}
use Rattle.stepping.specs.After.{after_level}
use Rattle.stepping.proofs.after_level.Goals as goal

pub returns : goal.returns
unfolding after_level in_round
returns c = refl
