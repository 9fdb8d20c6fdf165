-- `none` meets its contract. Assumes nothing.
use mathlib.Core.Path.{refl}
use Rattle.kept_pairs.specs.Pairs.{none}
use Rattle.kept_pairs.proofs.Pairs.none.Goals as goal

pub returns : goal.returns
unfolding none
returns c = refl
