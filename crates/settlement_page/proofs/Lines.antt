-- One line of the page: how long it is, that it is read back, and that no other line begins as it does. Assumes nothing.
use mathlib.Core.Path.{◌≡◌, refl, sym, ap, ap₂, ◌∙◌}
use mathlib.Core.Bool.{Bool, true, false, cond}
use mathlib.Core.List.{List, [], ◌∷◌, ◌++◌, append_assoc}
use Prim.Native.Nat.{ℕ, suc, ◌+◌, ◌*◌, ◌/◌, ◌%◌, ◌^◌, ◌≤◌, ◌<◌}
use native.Mathlib.Nat.{mul-le-mul}
use native.Mathlib.Omega.{arith}
use lib.Dec.{leb, eqb}
use lib.ListN.{length, take, drop, get_or, length-append}
use lib.Seq.{take_all, take_at, drop_at}
use borrow.Author.Tests.{leb-true, eq-eqb, ne_eqb, eqb-true, eqb-false}
use Rattle.decimal.specs.Decimal.{decimal}
use Rattle.decimal.proofs.Digits.{decimal_fits}
use Rattle.ranges.specs.Sizes.{highest_price}
use Rattle.ranges.proofs.Loops.{and_left, and_right}
use Rattle.ranges.proofs.Compared.{same_self, same_differ}
use Rattle.bid.specs.Table.{most}
use Rattle.settlement_page.specs.Page.{right, in_tenths, hours_shown, pence_due, bidder, side, title, amounts, line, line_of, in_range}
use Rattle.settlement_page.specs.Line.{number_after, tenths_in, wanted_on, got_on, begins}
use Rattle.settlement_page.proofs.Aligned.{before_last, right_number, length_right, length_tenths, number_of, tenths_of}

-- ---- nothing is too long for its columns

tenths_fit : (w mark n : ℕ) → n / 10 < 10 ^ suc w → length (in_tenths mark n) ≤ suc w + 2
tenths_fit w mark n h = omega (arith, length_tenths mark n, decimal_fits w (n / 10) h)

module _ (pair : ℕ) (real : pair < 2000) where
  pub bidder_fits : length (decimal (bidder pair)) ≤ 4
  bidder_fits = decimal_fits 3 (bidder pair) (omega arith)

  pub length_title : length (title pair) ≡ 10
  unfolding title
  length_title =
      length-append (right 4 (decimal (bidder pair))) (right 6 (side pair))
      ∙ ap₂ ◌+◌ (length_right 4 (decimal (bidder pair)) bidder_fits) (length_right 6 (side pair) (side_fits (eqb (pair % 2) 0)))
    where
      side_fits : (t : Bool) → length {A = ℕ} (cond t (98 ∷ 117 ∷ 121 ∷ []) (115 ∷ 101 ∷ 108 ∷ 108 ∷ [])) ≤ 6
      side_fits true = omega arith
      side_fits false = omega arith

pub hours_fit : (n : ℕ) → n ≤ most → length (hours_shown n) ≤ 12
hours_fit n h = omega (arith, tenths_fit 5 46 n (omega arith))

-- a week of one side, at the highest price
pub due_most : (price got : ℕ) → price ≤ highest_price → got ≤ most → got * price ≤ most * highest_price
due_most price got p g = mul-le-mul g p

pub pence_fit : (price got : ℕ) → price ≤ highest_price → got ≤ most → length (pence_due price got) ≤ 26
pence_fit price got p g = omega (arith, tenths_fit 12 32 (got * price) (omega (arith, due_most price got p g)))

-- a page with no room for a title begins with none
pub too_short : (pair : ℕ) (page : List ℕ) → pair < 2000 → length page < 10 → begins pair page ≡ false
unfolding begins
too_short pair page real h =
    same_differ (take 10 page) (title pair) (λ e. omega (arith, ap length e, ap length (take_all 10 page (omega arith)), length_title pair real))

-- nobody gets more than is wanted
pub got_within : (wanted got : ℕ) → in_range wanted got ≡ true → got ≤ wanted
got_within wanted got good = leb-true got wanted (and_right (leb wanted most) (leb got wanted) good)

-- ---- the parts of a line

-- what stands after a, in as many columns as b has
part : (a b c : List ℕ) (m n : ℕ) → length a ≡ m → length b ≡ n → take n (drop m (a ++ (b ++ c))) ≡ b
part a b c m n e f = ap (take n) (drop_at a (b ++ c) m e) ∙ take_at b c n f

module _ (price wanted got : ℕ) (p : price ≤ highest_price) (good : in_range wanted got ≡ true) where
  pub wanted_most : wanted ≤ most
  wanted_most = leb-true wanted most (and_left (leb wanted most) (leb got wanted) good)

  pub got_most : got ≤ most
  got_most = omega (arith, wanted_most, got_within wanted got good)

  abbrev wanted_text : List ℕ
  wanted_text = right 12 (hours_shown wanted)

  abbrev got_text : List ℕ
  got_text = right 12 (hours_shown got)

  length_wanted : length wanted_text ≡ 12
  length_wanted = length_right 12 (hours_shown wanted) (hours_fit wanted wanted_most)

  length_got : length got_text ≡ 12
  length_got = length_right 12 (hours_shown got) (hours_fit got got_most)

  length_pence : length (right 26 (pence_due price got)) ≡ 26
  length_pence = length_right 26 (pence_due price got) (pence_fit price got p got_most)

  pub length_amounts : length (amounts price wanted got) ≡ 51
  unfolding amounts
  length_amounts =
      let pence = right 26 (pence_due price got) in
      omega (
        arith,
        length-append wanted_text (got_text ++ (pence ++ (10 ∷ []))),
        length-append got_text (pence ++ (10 ∷ [])),
        length-append pence (10 ∷ []),
        length_wanted,
        length_got,
        length_pence,
      )

  -- 60 bytes and a newline
  pub length_line : (pair : ℕ) → pair < 2000 → length (line price pair wanted got) ≡ 61
  length_line pair real = length-append (title pair) (amounts price wanted got) ∙ ap₂ ◌+◌ (length_title pair real) length_amounts

-- ---- a pair has a line, unless it wants 0

module _ (price pair wanted got : ℕ) where
  pub no_line : wanted ≡ 0 → line_of price pair wanted got ≡ []
  unfolding line_of
  no_line e = rw (eq-eqb wanted 0 e)

  pub one_line : (wanted ≡ 0 → ⊥) → line_of price pair wanted got ≡ line price pair wanted got
  unfolding line_of
  one_line e = rw (ne_eqb wanted 0 e)

module _ (price pair wanted got : ℕ) (p : price ≤ highest_price) (real : pair < 2000) (good : in_range wanted got ≡ true) where
  pub length_line_of : length (line_of price pair wanted got) ≡ 61 * cond (eqb wanted 0) 0 1
  unfolding line_of
  length_line_of = split (eqb wanted 0)
    where
      split : (t : Bool) → length (cond t [] (line price pair wanted got)) ≡ 61 * cond t 0 1
      split true = refl
      split false = length_line price wanted got p good pair real

-- ---- the title, column by column

module _ (pair : ℕ) (real : pair < 2000) where
  abbrev shown_digit : ℕ → ℕ
  shown_digit rest = cond (eqb rest 0) 32 (48 + rest % 10)

  pub title_columns : (a b c d : ℕ) (columns : List ℕ) → a ≡ shown_digit (bidder pair / 10 / 10 / 10) → b ≡ shown_digit (bidder pair / 10 / 10)
      → c ≡ shown_digit (bidder pair / 10) → d ≡ 48 + bidder pair % 10 → columns ≡ right 6 (side pair) → a ∷ b ∷ c ∷ d ∷ columns ≡ title pair
  unfolding title before_last
  title_columns a b c d columns ea eb ec ed e =
      rw (right_number 3 (bidder pair) (omega arith), ea, eb, ec, ed, e)

pub right_buy : (pair : ℕ) → pair % 2 ≡ 0 → 32 ∷ 32 ∷ 32 ∷ 98 ∷ 117 ∷ 121 ∷ [] ≡ right 6 (side pair)
unfolding right
right_buy pair e = rw (eq-eqb (pair % 2) 0 e)

pub right_sell : (pair : ℕ) → (pair % 2 ≡ 0 → ⊥) → 32 ∷ 32 ∷ 115 ∷ 101 ∷ 108 ∷ 108 ∷ [] ≡ right 6 (side pair)
unfolding right
right_sell pair e = rw (ne_eqb (pair % 2) 0 e)

-- ---- a line is read back, whatever follows it

module _ (price pair wanted got : ℕ) (more : List ℕ) (real : pair < 2000) where
  pub starts : take 10 (line price pair wanted got ++ more) ≡ title pair
  starts = ap (take 10) (append_assoc (title pair) (amounts price wanted got) more) ∙ take_at (title pair) (amounts price wanted got ++ more) 10 (length_title pair real)

  pub begins_line : begins pair (line price pair wanted got ++ more) ≡ true
  unfolding begins
  begins_line = rw starts (same_self (title pair))

  module _ (p : price ≤ highest_price) (good : in_range wanted got ≡ true) where
    abbrev rest : List ℕ
    rest = (right 26 (pence_due price got) ++ (10 ∷ [])) ++ more

    pub wanted_back : wanted_on (line price pair wanted got ++ more) ≡ wanted
    unfolding amounts
    wanted_back =
        let text = right 12 (hours_shown wanted) in
        let all : line price pair wanted got ++ more ≡ title pair ++ (text ++ (right 12 (hours_shown got) ++ rest)) = simp append_assoc in
        ap (λ (l : List ℕ). tenths_in (take 12 (drop 10 l))) all
        ∙ ap tenths_in (part (title pair) text _ 10 12 (length_title pair real) (length_wanted price wanted got p good))
        ∙ tenths_of 46 wanted (omega (arith, wanted_most price wanted got p good))

    pub got_back : got_on (line price pair wanted got ++ more) ≡ got
    unfolding amounts
    got_back =
        let front = title pair ++ right 12 (hours_shown wanted) in
        let text = right 12 (hours_shown got) in
        let all : line price pair wanted got ++ more ≡ front ++ (text ++ rest) = simp append_assoc in
        let size : length front ≡ 22 = length-append (title pair) (right 12 (hours_shown wanted)) ∙ ap₂ ◌+◌ (length_title pair real) (length_wanted price wanted got p good) in
        ap (λ (l : List ℕ). tenths_in (take 12 (drop 22 l))) all
        ∙ ap tenths_in (part front text rest 22 12 size (length_got price wanted got p good))
        ∙ tenths_of 46 got (omega (arith, got_most price wanted got p good))

-- ---- and is no other pair's

module _ (pair : ℕ) (real : pair < 2000) where
  abbrev bidder_text : List ℕ
  bidder_text = right 4 (decimal (bidder pair))

  title_bidder : number_after 0 (take 4 (title pair)) ≡ bidder pair
  unfolding title
  title_bidder =
      ap (number_after 0) (take_at bidder_text (right 6 (side pair)) 4 (length_right 4 (decimal (bidder pair)) (bidder_fits pair real)))
      ∙ number_of 4 (bidder pair)

  -- the last letter of the side
  title_side : get_or (drop 4 (title pair)) 5 0 ≡ cond (eqb (pair % 2) 0) 121 108
  unfolding title right
  title_side =
      ap (λ (l : List ℕ). get_or l 5 0) (drop_at bidder_text (right 6 (side pair)) 4 (length_right 4 (decimal (bidder pair)) (bidder_fits pair real)))
      ∙ letter (eqb (pair % 2) 0)
    where
      letter : (t : Bool) → get_or (right 6 (cond t (98 ∷ 117 ∷ 121 ∷ []) (115 ∷ 101 ∷ 108 ∷ 108 ∷ []))) 5 0 ≡ cond t 121 108
      letter true = refl
      letter false = refl

same_half : (a b : ℕ) → ◌≡◌ {A = ℕ} (cond (eqb (a % 2) 0) 121 108) (cond (eqb (b % 2) 0) 121 108) → a % 2 ≡ b % 2
same_half a b e = split (eqb (a % 2) 0) (eqb (b % 2) 0) refl refl e
  where
    split : (s t : Bool) → eqb (a % 2) 0 ≡ s → eqb (b % 2) 0 ≡ t → ◌≡◌ {A = ℕ} (cond s 121 108) (cond t 121 108) → a % 2 ≡ b % 2
    split true true f g h = omega (arith, eqb-true (a % 2) 0 f, eqb-true (b % 2) 0 g)
    split true false f g h = absurd (omega arith)
    split false true f g h = absurd (omega arith)
    split false false f g h = omega (arith, eqb-false (a % 2) 0 f, eqb-false (b % 2) 0 g)

-- a title tells its pair
pub titles_differ : (pair other : ℕ) → pair < 2000 → other < 2000 → title pair ≡ title other → pair ≡ other
titles_differ pair other a b e =
    omega (
      arith,
      sym (title_bidder pair a) ∙ ap (λ (l : List ℕ). number_after 0 (take 4 l)) e ∙ title_bidder other b,
      same_half pair other (sym (title_side pair a) ∙ ap (λ (l : List ℕ). get_or (drop 4 l) 5 0) e ∙ title_side other b),
    )

pub begins_other : (price pair other wanted got : ℕ) (more : List ℕ) → pair < 2000 → other < 2000 → (pair ≡ other → ⊥)
    → begins pair (line price other wanted got ++ more) ≡ false
unfolding begins
begins_other price pair other wanted got more a b apart =
    rw (starts price other wanted got more b) (same_differ (title other) (title pair) (λ e. apart (titles_differ pair other a b (sym e))))
