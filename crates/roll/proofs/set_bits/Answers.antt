-- `set_bits` meets its contract: the machine's count is that of the bits. Assumes nothing.
use mathlib.Core.Path.{sym}
use native.Mathlib.Omega.{arith}
use lib.Count.{ones-le}
use Rattle.roll.proofs.Bits.{bits_set}
use Rattle.roll.proofs.set_bits.Goals as goal

pub overflow_cast-result : goal.overflow_cast-result
overflow_cast-result c = omega (arith, ones-le 64 c.args.word c.ranges.word.fits)

pub returns : goal.returns
returns c = (sym (bits_set 64 c.args.word c.ranges.word.fits), ones-le 64 c.args.word c.ranges.word.fits)
