-- `share_out` meets its contract: the product is below 2^54. Assumes nothing.
use native.Mathlib.Nat.{mul-le-mul}
use native.Mathlib.Omega.{arith}
use borrow.Author.Tests.{eq-eqb, ne_eqb}
use Rattle.filling.specs.Fill.{hours, remainder}
use Rattle.filling.proofs.share_out.Goals as goal

pub returns-then-demand-eq0 : goal.returns-then-demand-eq0
unfolding hours remainder
returns-then-demand-eq0 c = rw (eq-eqb c.args.demand 0 c.if-demand-eq0.true)

pub overflow_mul-product : goal.overflow_mul-product
overflow_mul-product c =
    omega (arith, mul-le-mul c.requires.0 c.requires.1)

pub returns : goal.returns
unfolding hours remainder
returns c = rw (ne_eqb c.args.demand 0 c.if-demand-eq0.false)
