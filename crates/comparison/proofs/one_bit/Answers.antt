-- `one_bit` meets its contract: a mask of 1 leaves the remainder by 2. Assumes nothing.
use Prim.Native.Nat.{◌/◌, ◌^◌}
use native.Mathlib.Omega.{arith}
use lib.Bits.{and_mask}
use Rattle.comparison.proofs.one_bit.Goals as goal

pub overflow_cast-result : goal.overflow_cast-result
overflow_cast-result c = record { fits = rw (and_mask (c.args.sum / 2 ^ c.args.place) 1) (omega arith) }

pub returns : goal.returns
returns c = and_mask (c.args.sum / 2 ^ c.args.place) 1
