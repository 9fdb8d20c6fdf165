-- `factors` meets its contract. Assumes nothing.
use Rattle.comparison.specs.Rounds.{left, right, differing}
use Rattle.comparison.proofs.factors.Goals as goal

pub returns : goal.returns
unfolding left right differing
returns c = cc
