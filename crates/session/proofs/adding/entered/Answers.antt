-- `entered` meets its contract: two fields are new. Assumes nothing.
use Rattle.record.specs.Updates.{entered}
use Rattle.session.proofs.adding.entered.Goals as goal

pub returns : goal.returns
unfolding entered
returns c = rw c.mark-next.ensures
