-- Two lists compared number by number: they pass exactly where they are equal. Assumes nothing.
use Rattle.std.proofs.Common.{◌≡◌, ℕ, Bool, true, false, ◌&&◌, eqb, List, [], ◌∷◌, ◌++◌, length, take, drop, refl, ap, ◌∙◌, ap₂, arith, eq-eqb, ne_eqb, eqb-true, sym}
use mathlib.Core.Logic.{◌⊎◌, ⊎_elim}
use Rattle.std.proofs.lemmas.List.{nil_from_length}
use lib.Bits.{bit_or, bit_xor, xor_add_and, and_le_l, and_le_r, xor_self}
use borrow.Author.Tests.{eqb-false}
use Rattle.ranges.specs.Lists.{same}
use Rattle.ranges.proofs.Joined.{left_le, right_le}
use Rattle.ranges.proofs.Loops.{and-true, and_one, and_assoc}

pub same_self : (xs : List ℕ) → same xs xs ≡ true
unfolding same
same_self [] = refl
same_self (x ∷ xs) = ap₂ ◌&&◌ (eq-eqb x x refl) (same_self xs)

pub same_equal : (xs ys : List ℕ) → same xs ys ≡ true → xs ≡ ys
unfolding same
same_equal [] [] e = refl
same_equal [] (y ∷ ys) e = cc
same_equal (x ∷ xs) [] e = cc
same_equal (x ∷ xs) (y ∷ ys) e =
    let w = and-true (eqb x y) (same xs ys) e in
    ap₂ (λ (z : ℕ) (zs : List ℕ). z ∷ zs) (eqb-true x y w.0) (same_equal xs ys w.1)

pub same_differ : (xs ys : List ℕ) → (xs ≡ ys → ⊥) → same xs ys ≡ false
same_differ xs ys apart = split (same xs ys) refl
  where
    split : (t : Bool) → same xs ys ≡ t → t ≡ false
    split true e = absurd (apart (same_equal xs ys e))
    split false e = refl

-- part by part
pub same_append : (zs xs ys : List ℕ) → same zs (xs ++ ys) ≡ same (take (length xs) zs) xs && same (drop (length xs) zs) ys
unfolding same
same_append zs [] ys = refl
same_append [] (x ∷ xs) ys = refl
same_append (z ∷ zs) (x ∷ xs) ys = ap (λ (t : Bool). eqb z x && t) (same_append zs xs ys) ∙ and_assoc (eqb z x) _ _

-- ---- compared from the left, what differs being joined

joined_same : (differ x y : ℕ) → eqb (bit_or differ (bit_xor x y)) 0 ≡ eqb differ 0 && eqb x y
joined_same differ x y = split (eqb differ 0) (eqb x y) refl refl
  where
    split : (a b : Bool) → eqb differ 0 ≡ a → eqb x y ≡ b → eqb (bit_or differ (bit_xor x y)) 0 ≡ a && b
    split true true f g = rw (eqb-true differ 0 f, eqb-true x y g, xor_self y)
    split true false f g =
        ne_eqb (bit_or differ (bit_xor x y)) 0
        (λ e. eqb-false x y g (omega (arith, right_le differ (bit_xor x y), xor_add_and x y, and_le_l x y, and_le_r x y)))
    split false b f g =
        ne_eqb (bit_or differ (bit_xor x y)) 0 (λ e. eqb-false differ 0 f (omega (arith, left_le differ (bit_xor x y))))

-- of what is left of two lists that are as long
module _ (differ : ℕ) (xs ys : List ℕ) where
  pub same_next : (x y : ℕ) → eqb differ 0 && same (x ∷ xs) (y ∷ ys) ≡ eqb (bit_or differ (bit_xor x y)) 0 && same xs ys
  unfolding same
  same_next x y = rw (joined_same differ x y) (and_assoc (eqb differ 0) _ _)

  pub same_over : length xs ≡ length ys → (length xs ≡ 0) ⊎ (length ys ≡ 0) → eqb differ 0 && same xs ys ≡ eqb differ 0
  unfolding same
  same_over e over =
      let none : length xs ≡ 0 = ⊎_elim (λ h. h) (λ h. e ∙ h) over in
      rw (nil_from_length xs none, nil_from_length ys (sym e ∙ none)) (and_one (eqb differ 0))
