-- `heard` counts the probe. Assumes nothing.
use mathlib.Core.Path.{ap, ◌∙◌}
use Rattle.search.specs.declared.searches.Search.{Search}
use Rattle.search.proofs.Bounds.{next_probes}
use Rattle.worked_values.proofs.of_search.heard.Goals as goal

pub returns : goal.returns
returns c = ap (λ (s : Search). s.probes) c.next-after.ensures ∙ next_probes _ _
