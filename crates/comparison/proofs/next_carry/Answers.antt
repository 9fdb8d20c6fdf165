-- `next_carry` meets its contract. Assumes nothing.
use Rattle.comparison.specs.Pairs.{multiplied}
use Rattle.comparison.specs.Rounds.{next_carry}
use Rattle.comparison.proofs.next_carry.Goals as goal

pub returns : goal.returns
unfolding next_carry multiplied
returns c = cc
