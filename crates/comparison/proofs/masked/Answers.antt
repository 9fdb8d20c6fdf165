-- `masked` meets its contract. Assumes nothing.
use Rattle.comparison.specs.Rounds.{masked}
use Rattle.comparison.proofs.masked.Goals as goal

pub returns : goal.returns
unfolding masked
returns c = cc
