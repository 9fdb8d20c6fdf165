-- Words of two bytes that are lowered: their low bytes are lowered, and their high ones. Assumes nothing.
use mathlib.Core.Path.{◌≡◌, refl, ap, ap₂, ◌∙◌}
use mathlib.Core.List.{List, [], ◌∷◌, map}
use Prim.Native.Nat.{ℕ, zero, suc, ◌+◌, ◌*◌, ◌/◌, ◌%◌, ◌≤◌, ◌<◌}
use native.Mathlib.Nat.{mod-lt}
use native.Mathlib.Omega.{arith}
use lib.Dec.{lit<}
use Rattle.fields.specs.Byte.{bytes}
use Rattle.fields.specs.Gap.{byte_gap}
use Rattle.fields.proofs.Fields.{byte_field}
use Rattle.lowering.specs.Lines.{line, lowered, descended, lowered_by, descended_by, pair_line, Rising}
use Rattle.lowering.proofs.Lowering.{rising_less}

abbrev pub low : ℕ → ℕ
low w = w % 256

abbrev pub high : ℕ → ℕ
high w = w / 256 % 256

-- what a line comes to is a byte
line_lt : (r y x z : ℕ) → r ≤ 9 → x ≤ 9 → y < 256 → z < 256 → line bytes byte_gap r y x z < 256
line_lt r y x z hr hx hy hz =
    let R = byte_field.ring in
    R.add_lt y _ hy
    (R.mul_lt _ _ (R.add_lt y _ hy (R.neg_lt z hz)) (R.mul_lt r _ (omega arith) (byte_field.gap_lt x r hx hr)))

low_of : (a b : ℕ) → a < 256 → low (a + 256 * b) ≡ a
low_of a b h = omega arith

high_of : (a b : ℕ) → a < 256 → b < 256 → high (a + 256 * b) ≡ b
high_of a b h k = omega arith

module _ (r y x z : ℕ) (hr : r ≤ 9) (hx : x ≤ 9) where
  low_lt : line bytes byte_gap r (low y) x (low z) < 256
  low_lt = line_lt r (low y) x (low z) hr hx (mod-lt y (lit< tt)) (mod-lt z (lit< tt))

  high_lt : line bytes byte_gap r (high y) x (high z) < 256
  high_lt = line_lt r (high y) x (high z) hr hx (mod-lt (y / 256) (lit< tt)) (mod-lt (z / 256) (lit< tt))

  low_line : low (pair_line r y x z) ≡ line bytes byte_gap r (low y) x (low z)
  low_line = low_of _ _ low_lt

  high_line : high (pair_line r y x z) ≡ line bytes byte_gap r (high y) x (high z)
  high_line = high_of _ _ low_lt high_lt

module _ (part : ℕ → ℕ) (parts : (r y x z : ℕ) → r ≤ 9 → x ≤ 9 → part (pair_line r y x z) ≡ line bytes byte_gap r (part y) x (part z)) where
  part_lowered : (r y : ℕ) (xs zs : List ℕ) → Rising r xs
      → map part (lowered_by pair_line r y xs zs) ≡ lowered bytes byte_gap r (part y) xs (map part zs)
  unfolding lowered lowered_by
  part_lowered r y [] zs h = refl
  part_lowered r y (x ∷ xs) [] h = refl
  part_lowered r y (x ∷ xs) (z ∷ zs) h =
      ap₂ (λ (a : ℕ) (l : List ℕ). a ∷ l) (parts r y x z (omega (arith, h.0, h.1)) h.1)
      (part_lowered r y xs zs (rising_less x r xs (omega (arith, h.0)) h.2))

  part_descended : (t : ℕ) (xs ys : List ℕ) → Rising 0 xs
      → map part (descended_by pair_line t xs ys) ≡ descended bytes byte_gap t xs (map part ys)
  unfolding descended descended_by
  part_descended zero xs ys h = refl
  part_descended (suc t) [] ys h = refl
  part_descended (suc t) (x ∷ xs) [] h = refl
  part_descended (suc t) (x ∷ xs) (y ∷ ys) h =
      part_descended t xs (lowered_by pair_line x y xs ys) (rising_less x 0 xs (omega arith) h.2)
      ∙ ap (descended bytes byte_gap t xs) (part_lowered x y xs ys h.2)

-- of both
pub low_descended : (t : ℕ) (xs ys : List ℕ) → Rising 0 xs → map low (descended_by pair_line t xs ys) ≡ descended bytes byte_gap t xs (map low ys)
low_descended = part_descended low low_line

pub high_descended : (t : ℕ) (xs ys : List ℕ) → Rising 0 xs → map high (descended_by pair_line t xs ys) ≡ descended bytes byte_gap t xs (map high ys)
high_descended = part_descended high high_line
