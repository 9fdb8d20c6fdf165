-- `sheet_words` meets its contract. Assumes nothing.
use mathlib.Core.Path.{sym, ap, ◌∙◌}
use Rattle.ways.specs.Way.{sheet_size}
use Rattle.ways.proofs.Laws.{way_tree, way_chain, sheet_tree, sheet_chain}
use Rattle.ways.proofs.sheet_words.Goals as goal

pub returns-then-last-eq7 : goal.returns-then-last-eq7
returns-then-last-eq7 c = sym (ap sheet_size (way_tree _ c.if-last-eq7.true) ∙ sheet_tree)

pub returns-else-last-eq7 : goal.returns-else-last-eq7
returns-else-last-eq7 c = sym (ap sheet_size (way_chain _ c.if-last-eq7.false) ∙ sheet_chain)
