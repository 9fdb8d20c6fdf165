-- `blank` meets its contract: its roll is empty. Assumes nothing.
use Rattle.record.proofs.blank.Goals as goal

pub returns : goal.returns
returns c = rw (c.empty.ensures, c.none.ensures)
