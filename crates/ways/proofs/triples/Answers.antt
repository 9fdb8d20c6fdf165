-- `triples` meets its contract. Assumes nothing.
use mathlib.Core.Path.{sym, ap, ◌∙◌}
use Rattle.ways.specs.Way.{triples_of}
use Rattle.ways.proofs.Laws.{way_tree, way_chain, triples_tree, triples_chain}
use Rattle.ways.proofs.triples.Goals as goal

pub returns-then-last-eq7 : goal.returns-then-last-eq7
returns-then-last-eq7 c = sym (ap triples_of (way_tree _ c.if-last-eq7.true) ∙ triples_tree)

pub returns-else-last-eq7 : goal.returns-else-last-eq7
returns-else-last-eq7 c = sym (ap triples_of (way_chain _ c.if-last-eq7.false) ∙ triples_chain)
