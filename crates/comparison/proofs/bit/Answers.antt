-- `bit` meets its contract: a u64 has no bit past 64. Assumes nothing.
use mathlib.Core.Path.{◌≡◌, sym, ap, ◌∙◌}
use Prim.Native.Nat.{ℕ, ◌-◌, ◌/◌, ◌%◌, ◌^◌, ◌≤◌, ◌<◌}
use native.Mathlib.Nat.{div-eq_of_lt, pow-le-pow_right, lt_of_lt_of_le}
use native.Mathlib.Omega.{arith}
use lib.Dec.{lit<}
use Rattle.fields.specs.Bits.{bit}
use Rattle.comparison.proofs.bit.Goals as goal

pub returns-then-i-eq0 : goal.returns-then-i-eq0
unfolding bit
returns-then-i-eq0 c =
    let a = c.args in
    let e : 0 ≡ a.i - 1 = omega arith in
    c.one_bit.ensures ∙ ap (λ (k : ℕ). a.sum / 2 ^ k % 2) e

none : (sum i : ℕ) → sum < 2 ^ 64 → 64 < i → sum / 2 ^ (i - 1) % 2 ≡ 0
none sum i fits h =
    let l : 64 ≤ i - 1 = omega arith in
    ap (λ (q : ℕ). q % 2) (div-eq_of_lt (lt_of_lt_of_le fits (pow-le-pow_right (lit< tt) l)))

pub returns-then-i-gt64 : goal.returns-then-i-gt64
unfolding bit
returns-then-i-gt64 c = sym (none c.args.sum c.args.i c.ranges.sum.fits c.if-i-gt64.true)

pub returns : goal.returns
unfolding bit
returns c = c.one_bit-2.ensures
