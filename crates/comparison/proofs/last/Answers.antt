-- `last` meets its contract. Assumes nothing.
use Rattle.comparison.specs.Rounds.{last}
use Rattle.comparison.proofs.last.Goals as goal

pub returns : goal.returns
unfolding last
returns c = cc
