-- `readable` meets its contract. Assumes nothing.
use Rattle.openings.specs.Opening.{readable}
use Rattle.openings.proofs.opening.readable.Goals as goal

pub returns : goal.returns
unfolding readable
returns c = rw (c.counted.ensures, c.all_below.ensures)
