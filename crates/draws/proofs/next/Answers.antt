-- `next` meets its contract. Assumes nothing.
use mathlib.Core.Path.{refl}
use Rattle.draws.specs.Draws.{next}
use Rattle.draws.proofs.next.Goals as goal

pub returns : goal.returns
unfolding next
returns c = refl
