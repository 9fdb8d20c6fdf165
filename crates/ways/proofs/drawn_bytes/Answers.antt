-- `drawn_bytes` meets its contract. Assumes nothing.
use mathlib.Core.Path.{sym, ap, ◌∙◌}
use Rattle.ways.specs.Way.{Way, drawn_size}
use Rattle.ways.proofs.Laws.{way_tree, way_chain, drawn_tree, drawn_chain}
use Rattle.ways.proofs.drawn_bytes.Goals as goal

pub returns-then-last-eq7 : goal.returns-then-last-eq7
returns-then-last-eq7 c = sym (ap (λ (w : Way). drawn_size w c.args.t) (way_tree _ c.if-last-eq7.true) ∙ drawn_tree c.args.t)

pub returns-else-last-eq7 : goal.returns-else-last-eq7
returns-else-last-eq7 c = sym (ap (λ (w : Way). drawn_size w c.args.t) (way_chain _ c.if-last-eq7.false) ∙ drawn_chain c.args.t)
