-- `round_sound` meets its contract. Assumes nothing.
use mathlib.Core.Path.{sym, ◌∙◌}
use Rattle.record.specs.Record.{round_sound}
use Rattle.record.proofs.round_sound.Goals as goal

pub returns-then-clears : goal.returns-then-clears
unfolding round_sound
returns-then-clears c = rw (sym c.clears.ensures ∙ c.if-clears.true)

pub returns : goal.returns
unfolding round_sound
returns c = rw (sym c.clears.ensures ∙ c.if-clears.false)
