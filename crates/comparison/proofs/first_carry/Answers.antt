-- `first_carry` meets its contract: T_1 is 0 or 1. Assumes nothing.
use mathlib.Core.Path.{◌≡◌, sym, ap, ◌∙◌}
use Prim.Native.Nat.{ℕ, ◌<◌}
use native.Mathlib.Nat.{mod-lt}
use native.Mathlib.Omega.{arith}
use lib.Dec.{lit<}
use Rattle.fields.specs.Byte.{xor, product, bytes}
use Rattle.fields.specs.Bits.{bit}
use Rattle.fields.proofs.Bytes.{zero_product, one_product}
use Rattle.fields.proofs.Xor as xors
use Rattle.comparison.specs.Local.{on_shares}
use Rattle.comparison.specs.Rounds.{first_carry, differing}
use Rattle.comparison.proofs.first_carry.Goals as goal

-- c_1 T_1 + T_1 where T_1 is 0, and where it is 1
module _ (sum b : ℕ) where
  at_0 : bit 1 sum ≡ 0 → 0 ≡ first_carry (on_shares bytes) sum b
  unfolding first_carry differing
  at_0 e = sym (ap (λ (t : ℕ). xor t (product t (xor t b))) e ∙ ap (xor 0) (zero_product (xor 0 b)) ∙ xors.self 0)

  at_1 : b < 256 → bit 1 sum ≡ 1 → b ≡ first_carry (on_shares bytes) sum b
  unfolding first_carry differing
  at_1 h e =
      sym (ap (λ (t : ℕ). xor t (product t (xor t b))) e ∙ ap (xor 1) (one_product (xor 1 b) (xors.small 1 b (lit< tt) h))
      ∙ sym (xors.assoc 1 1 b) ∙ ap (λ (x : ℕ). xor x b) (xors.self 1) ∙ xors.comm 0 b ∙ xors.right_zero b)

bit_lt : (sum : ℕ) → bit 1 sum < 2
unfolding bit
bit_lt sum = mod-lt _ (lit< tt)

pub returns-then-bit-eq0 : goal.returns-then-bit-eq0
returns-then-bit-eq0 c = let a = c.args in at_0 a.sum _ (sym c.bit.ensures ∙ c.if-bit-eq0.true)

pub returns : goal.returns
returns c =
    let b = c.bit in
    let a = c.args in
    at_1 a.sum _ (omega arith) (omega (arith, bit_lt a.sum, b.ensures, c.if-bit-eq0.false))
