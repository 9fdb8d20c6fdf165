-- `product_word` meets its contract. Assumes nothing.
use mathlib.Core.Path.{subst}
use Prim.Native.Nat.{◌<◌}
use native.Mathlib.Omega.{arith}
use Rattle.level_round.specs.Words.{IsByte}
use Rattle.level_round.proofs.product_word.Goals as goal
use Rattle.level_round.proofs.product_word.Goals.{In-Some-Some}

-- what was opened are bytes
low_byte : (c : In-Some-Some) → c.in-Some-Some.d < 256
low_byte c = subst IsByte c.in-Some-Some.is-0 c.requires.0

high_byte : (c : In-Some-Some) → c.in-Some-Some.e < 256
high_byte c = subst IsByte c.in-Some-Some.is-1 c.requires.1

pub overflow_mul-result : goal.overflow_mul-result
overflow_mul-result c = omega (arith, high_byte c)

pub overflow_add-result : goal.overflow_add-result
overflow_add-result c = omega (arith, low_byte c, high_byte c)
