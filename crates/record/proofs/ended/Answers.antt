-- `ended` meets its contract. Assumes nothing.
use mathlib.Core.Path.{sym, ◌∙◌}
use Rattle.record.specs.Record.{ended}
use Rattle.record.proofs.ended.Goals as goal

pub returns-then-clears : goal.returns-then-clears
unfolding ended
returns-then-clears c = rw (sym c.clears.ensures ∙ c.if-clears.true)

pub returns : goal.returns
unfolding ended
returns c = rw (sym c.clears.ensures ∙ c.if-clears.false) c.finished.ensures
