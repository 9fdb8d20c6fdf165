-- `read_seeds` meets its contract: the seeds that were read are mixed. Assumes nothing.
use mathlib.Core.Path.{ap, ◌∙◌}
use Rattle.sections.specs.Sections.{xor_of}
use Rattle.sections.proofs.reading.read_seeds.Goals as goal

pub returns : goal.returns
returns c =
    let r = c.read_numbers-read in
    (r.ensures.2, c.xor_of.ensures ∙ ap xor_of r.ensures.0, r.ensures.1)
