-- `raise` meets its contract: the index is the one that `middle` gives. Assumes nothing.
use Rattle.search.specs.Bracket.{raise}
use Rattle.search.proofs.bracket.raise.Goals as goal

pub returns : goal.returns
unfolding raise
returns c = rw c.middle.ensures
