-- `totalled` meets its contract. Assumes nothing.
use Rattle.record.specs.Updates.{totalled}
use Rattle.stepping.proofs.totalled.Goals as goal

pub returns : goal.returns
unfolding totalled
returns c = rw (c.either-2.ensures, c.either.ensures)
