-- The 60 columns of a line: none of them is a newline. Assumes nothing.
use mathlib.Core.Path.{◌≡◌, refl, ap, ap₂}
use mathlib.Core.Bool.{Bool, true, false, cond, not, ◌&&◌}
use mathlib.Core.List.{List, [], ◌∷◌, ◌++◌, append_assoc}
use Prim.Native.Nat.{ℕ, ◌+◌, ◌-◌, ◌*◌, ◌/◌, ◌%◌, ◌≤◌, ◌<◌}
use native.Mathlib.Omega.{arith}
use lib.Dec.{eqb}
use lib.ListN.{length, replicate, length-append}
use borrow.Author.Tests.{ne_eqb}
use Rattle.decimal.specs.Decimal.{decimal}
use Rattle.decimal.proofs.Digits.{by_digits, decimal_digit, decimal_more}
use Rattle.ranges.specs.Lists.{every}
use Rattle.ranges.specs.Sizes.{highest_price}
use Rattle.ranges.proofs.Loops.{and-true, every_replicate}
use Rattle.settlement_page.specs.Page.{right, in_tenths, hours_shown, pence_due, bidder, title, amounts, line, in_range}
use Rattle.settlement_page.proofs.Lines.{length_line}

abbrev pub plain : List ℕ → Bool
plain bytes = every (λ b. not (eqb b 10)) bytes

pub plain_append : (xs ys : List ℕ) → plain xs ≡ true → plain ys ≡ true → plain (xs ++ ys) ≡ true
unfolding every
plain_append [] ys a b = b
plain_append (x ∷ xs) ys a b =
    let w = and-true (not (eqb x 10)) (plain xs) a in
    ap₂ ◌&&◌ w.0 (plain_append xs ys w.1 b)

plain_byte : (b : ℕ) → 10 < b → plain (b ∷ []) ≡ true
unfolding every
plain_byte b h = rw (ne_eqb b 10 (λ e. omega arith))

plain_decimal : (n : ℕ) → plain (decimal n) ≡ true
plain_decimal =
    by_digits (λ n. plain (decimal n) ≡ true) (λ n one. rw (decimal_digit n one) (plain_byte (48 + n % 10) (omega arith)))
    (λ n big e. rw (decimal_more n big) (plain_append (decimal (n / 10)) _ e (plain_byte (48 + n % 10) (omega arith))))

plain_right : (w : ℕ) (text : List ℕ) → plain text ≡ true → plain (right w text) ≡ true
unfolding right
plain_right w text e = plain_append (replicate (w - length text) 32) text (every_replicate (λ b. not (eqb b 10)) 32 (w - length text) refl) e

plain_tenths : (mark n : ℕ) → 10 < mark → plain (in_tenths mark n) ≡ true
unfolding in_tenths
plain_tenths mark n h =
    plain_append (decimal (n / 10)) _ (plain_decimal (n / 10)) (plain_append (mark ∷ []) _ (plain_byte mark h) (plain_byte (48 + n % 10) (omega arith)))

-- the 60 columns of a line
pub row : (price pair wanted got : ℕ) → List ℕ
row price pair wanted got = title pair ++ (right 12 (hours_shown wanted) ++ (right 12 (hours_shown got) ++ right 26 (pence_due price got)))

module _ (price pair wanted got : ℕ) where
  pub line_row : (more : List ℕ) → line price pair wanted got ++ more ≡ row price pair wanted got ++ (10 ∷ more)
  unfolding amounts row
  line_row more = simp append_assoc

  pub row_plain : plain (row price pair wanted got) ≡ true
  unfolding row title every
  row_plain =
      plain_append (title pair) _
      (plain_append (right 4 (decimal (bidder pair))) _ (plain_right 4 _ (plain_decimal (bidder pair))) (plain_right 6 _ (side_plain (eqb (pair % 2) 0))))
      (plain_append (right 12 (hours_shown wanted)) _ (plain_right 12 _ (plain_tenths 46 wanted (omega arith)))
      (plain_append (right 12 (hours_shown got)) _ (plain_right 12 _ (plain_tenths 46 got (omega arith)))
      (plain_right 26 _ (plain_tenths 32 (got * price) (omega arith)))))
    where
      side_plain : (t : Bool) → plain (cond t (98 ∷ 117 ∷ 121 ∷ []) (115 ∷ 101 ∷ 108 ∷ 108 ∷ [])) ≡ true
      side_plain true = refl
      side_plain false = refl

  pub length_row : price ≤ highest_price → pair < 2000 → in_range wanted got ≡ true → length (row price pair wanted got) ≡ 60
  length_row p real good =
      omega (
        arith,
        length_line price wanted got p good pair real,
        length-append (line price pair wanted got) [],
        length-append (row price pair wanted got) (10 ∷ []),
        ap length (line_row []),
      )
