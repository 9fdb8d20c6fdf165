-- `is_line` meets its contract. Assumes nothing.
use mathlib.Core.Path.{ap, ◌∙◌}
use Rattle.ranges.specs.Lists.{same}
use Rattle.settlement_page.proofs.line.is_line.Goals as goal

pub returns : goal.returns
returns c = c.same.ensures ∙ ap (same _) c.put_amounts.ensures
