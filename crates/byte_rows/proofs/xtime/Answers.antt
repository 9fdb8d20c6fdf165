-- `xtime` meets its contract: the high bit of a byte is its quotient by 128. Assumes nothing.
use Prim.Native.Nat.{ℕ, ◌*◌, ◌%◌}
use mathlib.Core.Path.{sym, ap}
use native.Mathlib.Nat.{mod-eq_of_lt}
use native.Mathlib.Omega.{arith}
use lib.Bits.{bit_xor}
use Rattle.fields.specs.Byte.{xor, rest, xtimes}
use Rattle.byte_rows.proofs.xtime.Goals as goal

pub returns : goal.returns
unfolding xtimes xor
returns c =
    ap (λ (x : ℕ). bit_xor (c.args.a * 2 % 256) (x * rest)) (sym (mod-eq_of_lt (omega arith)))
