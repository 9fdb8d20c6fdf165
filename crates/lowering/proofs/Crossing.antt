-- A line's value at 0, as the code has it. Assumes nothing.
use mathlib.Core.Path.{◌≡◌, refl, sym, ap, ap₂, ◌∙◌}
use mathlib.Core.Bool.{Bool, cond}
use Prim.Native.Nat.{ℕ, zero, suc, ◌-◌, ◌*◌, ◌%◌, ◌≤◌, ◌<◌}
use native.Mathlib.Nat.{mul_assoc}
use native.Mathlib.Omega.{arith}
use lib.Bits.{xor_lt}
use lib.Dec.{T, eqb, eqb→eq}
use lib.ListN.{get_or}
use borrow.Author.Tests.{lt-ltb}
use Rattle.fields.specs.Amount.{p, amounts}
use Rattle.fields.specs.Ring.{sub}
use Rattle.fields.specs.Byte.{xor, product, bytes}
use Rattle.fields.specs.Gap.{amount_inverses, amount_gap, byte_inverses, byte_gap}
use Rattle.fields.specs.Table.{logarithms, powers, added}
use Rattle.fields.proofs.Amounts.{mul_mod}
use Rattle.fields.proofs.Bytes.{zero_product, product_zero}
use Rattle.fields.proofs.Fields.{byte_field}
use Rattle.fields.proofs.Tables.{power, power_entry, power_log, power_added}
use Rattle.fields.proofs.Test.{below, at}
use Rattle.fields.proofs.Xor as xors
use Rattle.lowering.specs.Lines.{step, along, line}

-- ---- amounts

inverse_after : (r x : ℕ) → r < x → amount_gap x r ≡ get_or amount_inverses (x - r) 0
unfolding amount_gap
inverse_after r x h =
    ap (λ (b : Bool). cond b (get_or amount_inverses (x - r) 0) (amounts.neg (get_or amount_inverses (r - x) 0))) (lt-ltb r x h)

pub amount_line : (r y x z d : ℕ) → r < x → d ≡ amounts.add y (amounts.neg z)
    → amounts.add y (amounts.mul (d * r) (get_or amount_inverses (x - r) 0)) ≡ line amounts amount_gap r y x z
amount_line r y x z d h e =
    let g : ℕ = get_or amount_inverses (x - r) 0 in
    ap (amounts.add y)
    (ap (λ (n : ℕ). n % p) (mul_assoc d r g) ∙ sym (mul_mod d (r * g))
    ∙ ap₂ (λ (a b : ℕ). amounts.mul a (amounts.mul r b)) e (sym (inverse_after r x h)))

-- ---- bytes

-- the exponent of an inverse is what is missing to 255, tested for every difference of points
has_inverse : ℕ → Bool
has_inverse k = eqb (get_or powers (255 - get_or logarithms (suc k) 0) 0) (get_or byte_inverses (suc k) 0)

inverses_rule : T (below has_inverse 15)
unfolding has_inverse logarithms powers
inverses_rule = tt

inverse_power : (d : ℕ) → (d ≡ 0 → ⊥) → d < 16 → power (255 - get_or logarithms d 0) ≡ get_or byte_inverses d 0
unfolding has_inverse
inverse_power zero h k = absurd (h refl)
inverse_power (suc d) h k =
    sym (power_entry (255 - get_or logarithms (suc d) 0) (omega arith))
    ∙ eqb→eq (get_or powers (255 - get_or logarithms (suc d) 0) 0) (get_or byte_inverses (suc d) 0) (at has_inverse 15 inverses_rule d (omega arith))

-- a line through a word at 0 has that word there
pub at_nought : (y x z : ℕ) → line bytes byte_gap 0 y x z ≡ y
at_nought y x z =
    ap (λ (s : ℕ). xor y (product (sub bytes y z) s)) (zero_product (byte_gap x 0)) ∙ ap (xor y) (product_zero (sub bytes y z)) ∙ xors.right_zero y

module _ (r x : ℕ) (r_some : 0 < r) (after : r < x) (most : x ≤ 9) where
  apart : xor x r ≡ 0 → ⊥
  apart e =
      let o : product (xor x r) (byte_gap x r) ≡ 1 = byte_field.gap_inverse x r most (omega arith) (λ e. omega arith) in
      let n : ◌≡◌ {A = ℕ} 0 1 = sym (ap (λ (d : ℕ). product d (byte_gap x r)) e ∙ zero_product (byte_gap x r)) ∙ o in
      omega (arith, n)

  near : xor x r < 16
  unfolding xor
  near = xor_lt 4 x r (omega arith) (omega arith)

  -- r / (x - r), by exponents
  pub byte_step : (n : ℕ) → n < 256 → n ≡ added (get_or logarithms r 0) (255 - get_or logarithms (xor x r) 0)
      → get_or powers n 0 ≡ step bytes byte_gap r x
  unfolding byte_gap
  byte_step n h e =
      power_entry n h ∙ ap power e ∙ power_added (get_or logarithms r 0) (255 - get_or logarithms (xor x r) 0)
      ∙ ap₂ product (power_log r (omega arith) (λ e. omega arith)) (inverse_power (xor x r) apart near)

-- the value at 0 by the exponent of that: the same words give the same word, and of others the difference has an exponent
pub same_word : (s y z : ℕ) → xor y z ≡ 0 → y ≡ along bytes s y z
same_word s y z e = sym (ap (xor y) (ap (λ (d : ℕ). product d s) e ∙ zero_product s) ∙ xors.right_zero y)

pub other_words : (by y z n : ℕ) → by < 256 → y < 256 → z < 256 → (xor y z ≡ 0 → ⊥) → n < 256 → n ≡ added (get_or logarithms (xor y z) 0) by
    → xor y (get_or powers n 0) ≡ along bytes (get_or powers by 0) y z
other_words by y z n hb hy hz some hn e =
    ap (xor y)
    (power_entry n hn ∙ ap power e ∙ power_added (get_or logarithms (xor y z) 0) by
    ∙ ap₂ product (power_log (xor y z) (xors.small y z hy hz) some) (sym (power_entry by hb)))
