-- `clears` meets its contract. Assumes nothing.
use mathlib.Core.Path.{sym, ◌∙◌}
use borrow.Author.Tests.{not-true, not-false}
use Rattle.search.specs.Searches.{clears}
use Rattle.search.proofs.searches.clears.Goals as goal

pub returns-then-not-finished : goal.returns-then-not-finished
unfolding clears
returns-then-not-finished c = rw (sym c.finished.ensures ∙ not-true _ c.if-not-finished.true-raw)

pub returns : goal.returns
unfolding clears
returns c = rw (sym c.finished.ensures ∙ not-false _ c.if-not-finished.false-raw, c.price.ensures)
