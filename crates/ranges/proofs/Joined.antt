-- Words joined by or, so that several are tested at once: each is at most the whole, and the whole is below a power of two exactly
-- where each is. Assumes nothing.
use Rattle.std.proofs.Common.{◌≡◌, ℕ, ◌^◌, ◌≤◌, Bool, true, false, ◌&&◌, ltb, refl, arith, ltb-false, ltb-true, le-ltb, lt-ltb}
use lib.Bits.{bit_or, or_add_and, and_le_l, and_le_r, or_lt}

pub left_le : (a b : ℕ) → a ≤ bit_or a b
left_le a b = omega (arith, or_add_and a b, and_le_r a b)

pub right_le : (a b : ℕ) → b ≤ bit_or a b
right_le a b = omega (arith, or_add_and a b, and_le_l a b)

pub both_below : (k a b : ℕ) → ltb (bit_or a b) (2 ^ k) ≡ ltb a (2 ^ k) && ltb b (2 ^ k)
both_below k a b = by (ltb a (2 ^ k)) (ltb b (2 ^ k)) refl refl
  where
    by : (x y : Bool) → ltb a (2 ^ k) ≡ x → ltb b (2 ^ k) ≡ y → ltb (bit_or a b) (2 ^ k) ≡ x && y
    by true true f g = lt-ltb (bit_or a b) (2 ^ k) (or_lt k a b (ltb-true a (2 ^ k) f) (ltb-true b (2 ^ k) g))
    by true false f g = le-ltb (bit_or a b) (2 ^ k) (omega (arith, right_le a b, ltb-false b (2 ^ k) g))
    by false y f g = le-ltb (bit_or a b) (2 ^ k) (omega (arith, left_le a b, ltb-false a (2 ^ k) f))
