-- `limit` meets its contract: the digits of k and the zeros before them make 64. Assumes nothing.
use native.Mathlib.Omega.{arith}
use Rattle.search.proofs.Logarithm.{limit_and_zeros}
use Rattle.search.proofs.bracket.limit.Goals as goal

pub overflow_cast-result : goal.overflow_cast-result
overflow_cast-result c = omega (arith, limit_and_zeros c.args.k (omega arith))

pub overflow_sub-result : goal.overflow_sub-result
overflow_sub-result c = omega (arith, limit_and_zeros c.args.k (omega arith))

pub returns : goal.returns
returns c = omega (arith, limit_and_zeros c.args.k (omega arith))
