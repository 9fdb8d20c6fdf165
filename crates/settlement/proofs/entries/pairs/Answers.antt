-- `pairs` meets its contract: there are half as many. Assumes nothing.
use Rattle.std.proofs.Common.{ap, ◌∙◌, ◌/◌}
use Rattle.std.specs.Simd.{first_chunks}
use Rattle.settlement.proofs.entries.pairs.Goals as goal

pub returns : goal.returns
returns c = c.as_chunks.ensures.front ∙ ap (λ n. first_chunks 2 (n / 2) c.args.entries.now) c.requires
