-- `lower` meets its contract: the index is the one that `middle` gives. Assumes nothing.
use Rattle.search.specs.Bracket.{lower}
use Rattle.search.proofs.bracket.lower.Goals as goal

pub returns : goal.returns
unfolding lower
returns c = rw c.middle.ensures
