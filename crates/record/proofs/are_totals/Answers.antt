-- `are_totals` meets its contract: each test is the definition's. Assumes nothing.
use mathlib.Core.Path.{refl}
use Rattle.record.specs.Record.{are_totals}
use Rattle.record.proofs.are_totals.Goals as goal

pub returns : goal.returns
unfolding are_totals
returns c = refl
