-- `finished` meets its contract. Assumes nothing.
use Rattle.search.specs.Searches.{finished}
use Rattle.search.proofs.searches.finished.Goals as goal

pub returns : goal.returns
unfolding finished
returns c = rw c.over.ensures
