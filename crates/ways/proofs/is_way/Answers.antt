-- `is_way` meets its contract. Assumes nothing.
use mathlib.Core.Path.{refl}
use Rattle.ways.specs.Way.{is_way}
use Rattle.ways.proofs.is_way.Goals as goal

pub returns : goal.returns
unfolding is_way
returns c = refl
