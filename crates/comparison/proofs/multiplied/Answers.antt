-- `multiplied` meets its contract. Assumes nothing.
use Rattle.comparison.specs.Pairs.{multiplied}
use Rattle.comparison.proofs.multiplied.Goals as goal

pub returns : goal.returns
unfolding multiplied
returns c = cc
