-- `low` meets its contract. Assumes nothing.
use Rattle.std.proofs.Common.{arith}
use Rattle.fields.proofs.Wide.{bounds, low_law}
use Rattle.fields.proofs.amount.low.Goals as goal

pub overflow_mul-w : goal.overflow_mul-w
overflow_mul-w c = omega (arith, bounds c.args.a c.args.b c.ranges.a.fits c.ranges.b.fits)

pub overflow_mul-m : goal.overflow_mul-m
overflow_mul-m c = omega (arith, bounds c.args.a c.args.b c.ranges.a.fits c.ranges.b.fits)

pub overflow_mul-m-2 : goal.overflow_mul-m-2
overflow_mul-m-2 c = omega (arith, bounds c.args.a c.args.b c.ranges.a.fits c.ranges.b.fits)

pub overflow_add-m-2 : goal.overflow_add-m-2
overflow_add-m-2 c = omega (arith, bounds c.args.a c.args.b c.ranges.a.fits c.ranges.b.fits)

pub returns : goal.returns
returns c = low_law c.args.a c.args.b
