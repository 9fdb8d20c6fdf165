-- `decided` meets its contract. Assumes nothing.
use Rattle.record.specs.Updates.{decided}
use Rattle.stepping.proofs.decided.Goals as goal

pub returns : goal.returns
unfolding decided
returns c = rw (c.either.ensures, c.clears.ensures, c.none.ensures)
