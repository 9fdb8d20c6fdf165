-- `counted` meets its contract. Assumes nothing.
use mathlib.Core.Path.{refl}
use Rattle.openings.proofs.opening.counted.Goals as goal

pub returns : goal.returns
returns c = refl
