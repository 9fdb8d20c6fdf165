-- `width` meets its contract. Assumes nothing.
use mathlib.Core.Path.{refl, ap, ◌∙◌}
use Rattle.ways.specs.Way.{width}
use Rattle.ways.proofs.Laws.{way_tree}
use Rattle.level.proofs.Level.width.Goals as goal

pub returns : goal.returns
returns c = c.width.ensures ∙ ap (λ w. width w c.args.self.now.round) (way_tree 7 refl)
