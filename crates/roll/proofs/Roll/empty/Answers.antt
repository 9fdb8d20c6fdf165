-- `empty` meets its contract. Assumes nothing.
use mathlib.Core.Path.{refl}
use Rattle.roll.specs.Marks.{empty}
use Rattle.roll.proofs.Roll.empty.Goals as goal

pub returns : goal.returns
unfolding empty
returns c = refl
