-- `going` meets its contract. Assumes nothing.
use mathlib.Core.Path.{ap}
use mathlib.Core.Bool.{not}
use Rattle.probing.proofs.searching.going.Goals as goal

pub returns : goal.returns
returns c = ap not c.finished.ensures
