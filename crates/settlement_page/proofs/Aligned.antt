-- Right-aligned numbers: how they are written from the last column on, how long they are, and that they are read back. Assumes nothing.
use mathlib.Core.Path.{◌≡◌, refl, sym, ap, ap₂, ◌∙◌}
use mathlib.Core.Bool.{Bool, cond}
use mathlib.Core.Logic.{⊎_elim}
use mathlib.Core.List.{List, [], ◌∷◌, ◌++◌, append_assoc, append-nil}
use Prim.Native.Nat.{ℕ, zero, suc, ◌+◌, ◌-◌, ◌*◌, ◌/◌, ◌%◌, ◌^◌, ◌≤◌, ◌<◌}
use native.Mathlib.Nat.{pow-zero, pow-suc}
use native.Mathlib.Numerals.{add-one}
use native.Mathlib.Omega.{arith}
use lib.Dec.{eqb}
use lib.ListN.{length, take, drop, set, get_or, length-drop, replicate, length-append, length-replicate, replicate-append-replicate, length-set, drop_of_length-le}
use lib.Seq.{length-take-le, drop-cons, drop-set-lt, get_or-set_same, set_at, take_at, drop_at, get_or_at}
use borrow.Author.Tests.{ne_eqb}
use Rattle.decimal.specs.Decimal.{decimal}
use Rattle.decimal.proofs.Digits.{one_or_more, by_digits, decimal_digit, decimal_more, decimal_fits}
use Rattle.settlement_page.specs.Page.{right, in_tenths}
use Rattle.settlement_page.specs.Line.{number_after, tenths_in}

-- ---- written from the last column on

-- the columns before the last digit: what is left of the number, and spaces once nothing is
unfoldable pub before_last : (columns rest : ℕ) → List ℕ
before_last zero rest = []
before_last (suc w) rest = before_last w (rest / 10) ++ (cond (eqb rest 0) 32 (48 + rest % 10) ∷ [])

replicate_more : (m b : ℕ) → replicate m b ++ (b ∷ []) ≡ replicate (suc m) b
replicate_more zero b = refl
replicate_more (suc m) b = ap (λ (l : List ℕ). b ∷ l) (replicate_more m b)

before_last_blank : (w : ℕ) → before_last w 0 ≡ replicate w 32
unfolding before_last
before_last_blank zero = refl
before_last_blank (suc w) = ap (λ (l : List ℕ). l ++ (32 ∷ [])) (before_last_blank w) ∙ replicate_more w 32

-- text with one byte more takes one column more
right_more : (w : ℕ) (text : List ℕ) (b : ℕ) → right (suc w) (text ++ (b ∷ [])) ≡ right w text ++ (b ∷ [])
unfolding right
right_more w text b =
    let e : suc w - length (text ++ (b ∷ [])) ≡ w - length text = omega (arith, length-append text (b ∷ [])) in
    ap (λ (m : ℕ). replicate m 32 ++ (text ++ (b ∷ []))) e ∙ sym (append_assoc (replicate (w - length text) 32) text (b ∷ []))

right_blank : (w : ℕ) → right w [] ≡ replicate w 32
unfolding right
right_blank w = let e : w - 0 ≡ w = omega arith in ap (λ (m : ℕ). replicate m 32 ++ []) e ∙ append-nil (replicate w 32)

right_digit : (w n : ℕ) → n < 10 → right (suc w) (decimal n) ≡ before_last w (n / 10) ++ ((48 + n % 10) ∷ [])
right_digit w n one =
    let none : n / 10 ≡ 0 = omega arith in
    ap (right (suc w)) (decimal_digit n one)
    ∙ right_more w [] (48 + n % 10)
    ∙ ap (λ (l : List ℕ). l ++ ((48 + n % 10) ∷ [])) (right_blank w ∙ sym (ap (before_last w) none ∙ before_last_blank w))

pub right_number : (w n : ℕ) → n < 10 ^ suc w → right (suc w) (decimal n) ≡ before_last w (n / 10) ++ ((48 + n % 10) ∷ [])
unfolding before_last
right_number zero n h = right_digit 0 n (omega (arith, pow-suc 10 0, pow-zero 10))
right_number (suc w) n h =
    ⊎_elim (right_digit (suc w) n)
    (λ big.
    ap (right (suc (suc w))) (decimal_more n big)
    ∙ right_more (suc w) (decimal (n / 10)) (48 + n % 10)
    ∙ ap (λ (l : List ℕ). l ++ ((48 + n % 10) ∷ []))
    (right_number w (n / 10) (omega (arith, pow-suc 10 (suc w)))
    ∙ ap (λ (t : Bool). before_last w (n / 10 / 10) ++ (cond t 32 (48 + n / 10 % 10) ∷ [])) (sym (ne_eqb (n / 10) 0 (λ e. omega arith)))))
    (one_or_more n)

-- a number of tenths takes two columns more than its whole ones
pub right_tenths : (w mark n : ℕ) → right (suc (suc w)) (in_tenths mark n) ≡ right w (decimal (n / 10)) ++ (mark ∷ (48 + n % 10) ∷ [])
unfolding in_tenths
right_tenths w mark n =
    ap (right (suc (suc w))) (sym (append_assoc (decimal (n / 10)) (mark ∷ []) ((48 + n % 10) ∷ [])))
    ∙ right_more (suc w) (decimal (n / 10) ++ (mark ∷ [])) (48 + n % 10)
    ∙ ap (λ (l : List ℕ). l ++ ((48 + n % 10) ∷ [])) (right_more w (decimal (n / 10)) mark)
    ∙ append_assoc (right w (decimal (n / 10))) (mark ∷ []) ((48 + n % 10) ∷ [])

-- ---- the columns that are stored

drop_set : (xs : List ℕ) (i b : ℕ) → i < length xs → drop i (set xs i b) ≡ b ∷ drop (suc i) xs
drop_set xs i b h =
    drop-cons (set xs i b) i 0 (omega (arith, length-set xs i b))
    ∙ ap₂ (λ (x : ℕ) (l : List ℕ). x ∷ l) (get_or-set_same xs i b 0 h) (drop-set-lt (suc i) xs i b (omega arith))

-- the last one
pub stored_last : (xs : List ℕ) (n b : ℕ) → 1 ≤ length xs → n < 10 ^ length xs → b ≡ 48 + n % 10
    → right (length xs) (decimal n) ≡ before_last (length xs - 1) (n / 10) ++ drop (length xs - 1) (set xs (length xs - 1) b)
stored_last xs n b some fits e =
    let w = length xs - 1 in
    let size : length xs ≡ suc w = omega arith in
    ap (λ (m : ℕ). right m (decimal n)) size
    ∙ right_number w n (rw size at fits)
    ∙ ap (λ (l : List ℕ). before_last w (n / 10) ++ l)
    (ap₂ (λ (x : ℕ) (l : List ℕ). x ∷ l) (sym e) (sym (drop_of_length-le xs {i = suc w} (omega arith))) ∙ sym (drop_set xs w b (omega arith)))

-- and one more before it
pub stored : (xs : List ℕ) (i rest b : ℕ) → i < length xs → b ≡ cond (eqb rest 0) 32 (48 + rest % 10)
    → before_last (suc i) rest ++ drop (suc i) xs ≡ before_last i (rest / 10) ++ drop i (set xs i b)
unfolding before_last
stored xs i rest b h e =
    append_assoc (before_last i (rest / 10)) (cond (eqb rest 0) 32 (48 + rest % 10) ∷ []) (drop (suc i) xs)
    ∙ ap (λ (l : List ℕ). before_last i (rest / 10) ++ l) (ap (λ (x : ℕ). x ∷ drop (suc i) xs) (sym e) ∙ sym (drop_set xs i b h))

-- until all are
pub all_stored : (xs : List ℕ) (i rest : ℕ) → i ≡ 0 → before_last i rest ++ drop i xs ≡ xs
unfolding before_last
all_stored xs i rest e = rw e

-- ---- how long they are

pub length_right : (w : ℕ) (text : List ℕ) → length text ≤ w → length (right w text) ≡ w
unfolding right
length_right w text h = length-append (replicate (w - length text) 32) text ∙ omega (arith, length-replicate {A = ℕ} (w - length text) 32)

pub length_tenths : (mark n : ℕ) → length (in_tenths mark n) ≡ length (decimal (n / 10)) + 2
unfolding in_tenths
length_tenths mark n = length-append (decimal (n / 10)) (mark ∷ (48 + n % 10) ∷ [])

-- ---- tenths, stored after the whole ones

module _ (xs front : List ℕ) (mark n : ℕ) (some : 3 ≤ length xs) (fits : n / 10 < 10 ^ (length xs - 2))
    (whole : front ≡ right (length (take (length xs - 2) xs)) (decimal (n / 10))) where
  abbrev w : ℕ
  w = length xs - 2

  front_is : front ≡ right w (decimal (n / 10))
  front_is = whole ∙ ap (λ (m : ℕ). right m (decimal (n / 10))) (length-take-le w xs (omega arith))

  length_whole : length front ≡ w
  length_whole =
      let e : w ≡ suc (w - 1) = omega arith in
      ap length front_is ∙ length_right w (decimal (n / 10)) (omega (arith, decimal_fits (w - 1) (n / 10) (rw e at fits)))

  pub tenths_room : w + 1 < length (set (front ++ drop w xs) w mark)
  tenths_room = omega (arith, length-set (front ++ drop w xs) w mark, length-append front (drop w xs), length-drop w xs, length_whole)

  pub tenths_stored : (d : ℕ) → d ≡ 48 + n % 10 → set (set (front ++ drop w xs) w mark) (w + 1) d ≡ right (length xs) (in_tenths mark n)
  tenths_stored d e =
      let a = get_or xs w 0 in
      let b = get_or xs (suc w) 0 in
      let two : drop w xs ≡ a ∷ b ∷ [] =
      drop-cons xs w 0 (omega arith)
      ∙ ap (λ (l : List ℕ). a ∷ l) (drop-cons xs (suc w) 0 (omega arith) ∙ ap (λ (l : List ℕ). b ∷ l) (drop_of_length-le xs {i = suc (suc w)} (omega arith))) in
      let size : length xs ≡ suc (suc w) = omega arith in
      ap (λ (l : List ℕ). set (set (front ++ l) w mark) (w + 1) d) two
      ∙ ap (λ (l : List ℕ). set l (w + 1) d) (set_at front a (b ∷ []) mark w length_whole ∙ sym (append_assoc front (mark ∷ []) (b ∷ [])))
      ∙ set_at (front ++ (mark ∷ [])) b [] d (w + 1) (omega (arith, length-append front (mark ∷ []), length_whole))
      ∙ append_assoc front (mark ∷ []) (d ∷ [])
      ∙ ap₂ (λ (l : List ℕ) (x : ℕ). l ++ (mark ∷ x ∷ [])) front_is e
      ∙ sym (ap (λ (m : ℕ). right m (in_tenths mark n)) size ∙ right_tenths w mark n)

-- ---- more columns than a text reaches

pub right_wider : (a w : ℕ) (text : List ℕ) → length text ≤ w → right (a + w) text ≡ replicate a 32 ++ right w text
unfolding right
right_wider a w text h =
    let e : a + w - length text ≡ a + (w - length text) = omega arith in
    ap (λ (m : ℕ). replicate m 32 ++ text) e
    ∙ ap (λ (l : List ℕ). l ++ text) (sym (replicate-append-replicate a (w - length text) 32))
    ∙ append_assoc (replicate a 32) (replicate (w - length text) 32) text

-- ---- read back

-- one column more, from the left
pub number_more : (n : ℕ) (xs : List ℕ) (i : ℕ) {m : ℕ} → i < length xs → m ≡ 10 * n + get_or xs i 0 % 16
    → number_after n (drop i xs) ≡ number_after m (drop (i + 1) xs)
unfolding number_after
number_more n xs i h e = rw (add-one, drop-cons xs i 0 h, e)

pub number_all : (n : ℕ) (xs : List ℕ) (i : ℕ) → length xs ≤ i → number_after n (drop i xs) ≡ n
unfolding number_after
number_all n xs i h = ap (number_after n) (drop_of_length-le xs h)

number_append : (n : ℕ) (xs ys : List ℕ) → number_after n (xs ++ ys) ≡ number_after (number_after n xs) ys
unfolding number_after
number_append n [] ys = refl
number_append n (x ∷ xs) ys = number_append (10 * n + x % 16) xs ys

number_blank : (m : ℕ) → number_after 0 (replicate m 32) ≡ 0
unfolding number_after
number_blank zero = refl
number_blank (suc m) = number_blank m

-- a digit more
number_digit : (n d : ℕ) → d < 10 → number_after n ((48 + d) ∷ []) ≡ 10 * n + d
unfolding number_after
number_digit n d h = omega arith

number_decimal : (n : ℕ) → number_after 0 (decimal n) ≡ n
number_decimal =
    by_digits (λ n. number_after 0 (decimal n) ≡ n)
    (λ n one. rw (decimal_digit n one) (number_digit 0 (n % 10) (omega arith) ∙ omega arith))
    (λ n big e.
    rw (decimal_more n big)
    (number_append 0 (decimal (n / 10)) ((48 + n % 10) ∷ [])
    ∙ ap (λ (m : ℕ). number_after m ((48 + n % 10) ∷ [])) e
    ∙ number_digit (n / 10) (n % 10) (omega arith)
    ∙ omega arith))

pub number_of : (w n : ℕ) → number_after 0 (right w (decimal n)) ≡ n
unfolding right
number_of w n =
    let m = w - length (decimal n) in
    number_append 0 (replicate m 32) (decimal n) ∙ ap (λ (k : ℕ). number_after k (decimal n)) (number_blank m) ∙ number_decimal n

-- four columns that are passed over, six, a mark and a digit
tenths_columns : (unreached whole : List ℕ) (mark d : ℕ) → length unreached ≡ 4 → length whole ≡ 6
    → tenths_in (unreached ++ (whole ++ (mark ∷ d ∷ []))) ≡ 10 * number_after 0 whole + d % 16
unfolding tenths_in
tenths_columns unreached whole mark d e f =
    let text = unreached ++ (whole ++ (mark ∷ d ∷ [])) in
    let front = unreached ++ (whole ++ (mark ∷ [])) in
    let split : text ≡ front ++ (d ∷ []) = simp append_assoc in
    let size : length front ≡ 11 = length-append unreached (whole ++ (mark ∷ [])) ∙ omega (arith, length-append whole (mark ∷ [])) in
    ap₂ (λ (l : List ℕ) (x : ℕ). 10 * number_after 0 l + x % 16)
    (ap (take 6) (drop_at unreached (whole ++ (mark ∷ d ∷ [])) 4 e) ∙ take_at whole (mark ∷ d ∷ []) 6 f)
    (ap (λ (l : List ℕ). get_or l 11 0) split ∙ get_or_at front d [] 0 11 size)

pub tenths_of : (mark n : ℕ) → n / 10 < 10 ^ 6 → tenths_in (right 12 (in_tenths mark n)) ≡ n
tenths_of mark n h =
    let fits = decimal_fits 5 (n / 10) h in
    let whole = right 6 (decimal (n / 10)) in
    let d = 48 + n % 10 in
    ap tenths_in
    (right_tenths 10 mark n
    ∙ ap (λ (l : List ℕ). l ++ (mark ∷ d ∷ [])) (right_wider 4 6 (decimal (n / 10)) fits)
    ∙ append_assoc (replicate 4 32) whole (mark ∷ d ∷ []))
    ∙ tenths_columns (replicate 4 32) whole mark d refl (length_right 6 (decimal (n / 10)) fits)
    ∙ omega (arith, number_of 6 (n / 10))
