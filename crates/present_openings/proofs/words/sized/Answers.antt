-- `sized` meets its contract. Assumes nothing.
use mathlib.Core.Path.{refl}
use Rattle.present_openings.specs.Present.{sized}
use Rattle.present_openings.proofs.words.sized.Goals as goal

pub returns : goal.returns
unfolding sized
returns c = refl
