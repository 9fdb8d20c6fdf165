-- `most_probes` meets its contract: the limit of a u64 is at most 64. Assumes nothing.
use native.Mathlib.Omega.{arith}
use Rattle.search.specs.Limit.{most_probes}
use Rattle.search.proofs.Logarithm.{limit_least}
use Rattle.search.proofs.bracket.most_probes.Goals as goal

pub overflow_mul-result : goal.overflow_mul-result
overflow_mul-result c = omega (arith, c.limit.ensures, limit_least c.args.k 64 (omega arith))

pub returns : goal.returns
unfolding most_probes
returns c = omega (arith, c.limit.ensures)
