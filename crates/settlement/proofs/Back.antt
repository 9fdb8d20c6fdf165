-- Pages read back: entries that are laid out are those that stand on the page, and the page is judged line by line. Assumes nothing.
use mathlib.Core.Path.{◌≡◌, refl, sym, ap, ap₂, ◌∙◌}
use mathlib.Core.Bool.{Bool, true, false, cond, not, ◌&&◌, ◌||◌}
use mathlib.Core.List.{List, [], ◌∷◌, ◌++◌, append_assoc}
use Prim.Native.Nat.{ℕ, zero, suc, ◌+◌, ◌*◌, ◌≤◌, ◌<◌}
use native.Mathlib.Omega.{arith}
use lib.Dec.{ltb, eqb}
use lib.ListN.{length, take, drop, length-drop, drop_of_length-le}
use lib.Seq.{drop_at, drop-drop}
use borrow.Author.Tests.{eqb-true, eqb-false, ltb-true, ltb-false}
use Rattle.ranges.specs.Lists.{same}
use Rattle.ranges.specs.Sizes.{highest_price}
use Rattle.ranges.proofs.Loops.{and-true, and_false}
use Rattle.ranges.proofs.Compared.{same_differ, same_append}
use Rattle.settlement_page.specs.Page.{title, amounts, line, line_of, lines, in_range, all_in_range}
use Rattle.settlement_page.specs.Line.{wanted_on, got_on, begins, fits}
use Rattle.settlement.specs.Read.{shown}
use Rattle.settlement_page.proofs.Lines.{no_line, one_line, got_within, length_title, length_amounts, length_line, too_short, begins_line, begins_other, wanted_back, got_back}
use Rattle.settlement_page.proofs.Fits.{taken}

-- ---- the lines of later pairs do not begin as a pair's line does

pub begins_later : (price pair other : ℕ) (entries : List ℕ) → pair < other → pair < 2000 → 2 * other + length entries ≤ 4000
    → begins pair (lines price other entries) ≡ false
unfolding lines
begins_later price pair other [] l real h = too_short pair [] real (omega arith)
begins_later price pair other (x ∷ []) l real h = too_short pair [] real (omega arith)
begins_later price pair other (wanted ∷ got ∷ more) l real h =
    split (eqb wanted 0) refl (begins_later price pair (suc other) more (omega arith) real (omega arith))
  where
    split : (t : Bool) → eqb wanted 0 ≡ t → begins pair (lines price (suc other) more) ≡ false
        → begins pair (line_of price other wanted got ++ lines price (suc other) more) ≡ false
    split true e later = ap (λ (l : List ℕ). begins pair (l ++ lines price (suc other) more)) (no_line price other wanted got (eqb-true wanted 0 e)) ∙ later
    split false e later =
        ap (λ (l : List ℕ). begins pair (l ++ lines price (suc other) more)) (one_line price other wanted got (eqb-false wanted 0 e))
        ∙ begins_other price pair other wanted got (lines price (suc other) more) real (omega arith) (λ e. omega arith)

-- ---- the entries of one pair

module _ (m pair : ℕ) (page : List ℕ) where
  pub shown_line : begins pair page ≡ true → shown (suc m) pair page ≡ wanted_on page ∷ got_on page ∷ shown m (suc pair) (drop 61 page)
  unfolding shown
  shown_line e = rw e

  pub shown_none : begins pair page ≡ false → shown (suc m) pair page ≡ 0 ∷ 0 ∷ shown m (suc pair) page
  unfolding shown
  shown_none e = rw e

pub shown_more : (m pair : ℕ) (page : List ℕ) → shown (suc m) pair page
    ≡ cond (begins pair page) (wanted_on page) 0 ∷ cond (begins pair page) (got_on page) 0 ∷ shown m (suc pair) (drop (taken pair page) page)
unfolding shown
shown_more m pair page = split (begins pair page)
  where
    split : (t : Bool) → cond t (wanted_on page ∷ got_on page ∷ shown m (suc pair) (drop 61 page)) (0 ∷ 0 ∷ shown m (suc pair) page)
        ≡ cond t (wanted_on page) 0 ∷ cond t (got_on page) 0 ∷ shown m (suc pair) (drop (cond t 61 0) page)
    split true = refl
    split false = refl

pub shown_end : (m pair : ℕ) (page : List ℕ) → m ≡ 0 → shown m pair page ≡ []
unfolding shown
shown_end m pair page e = rw e

pub length_shown : (m pair : ℕ) (page : List ℕ) → length (shown m pair page) ≡ 2 * m
unfolding shown
length_shown zero pair page = refl
length_shown (suc m) pair page = split (begins pair page) _ _ (length_shown m (suc pair) (drop 61 page)) (length_shown m (suc pair) page)
  where
    split : (t : Bool) (xs ys : List ℕ) → length xs ≡ 2 * m → length ys ≡ 2 * m
        → length (cond t (wanted_on page ∷ got_on page ∷ xs) (0 ∷ 0 ∷ ys)) ≡ 2 * suc m
    split true xs ys f g = omega arith
    split false xs ys f g = omega arith

-- ---- what is laid out is read back

pub shown_back : (price m pair : ℕ) (entries : List ℕ) → price ≤ highest_price → pair + m ≤ 2000 → length entries ≡ 2 * m → all_in_range entries ≡ true
    → shown m pair (lines price pair entries) ≡ entries
unfolding lines shown all_in_range
shown_back price zero pair [] p h size good = refl
shown_back price zero pair (x ∷ more) p h size good = absurd (omega arith)
shown_back price (suc m) pair [] p h size good = absurd (omega arith)
shown_back price (suc m) pair (x ∷ []) p h size good = absurd (omega arith)
shown_back price (suc m) pair (wanted ∷ got ∷ more) p h size good =
    let ranges = and-true (in_range wanted got) (all_in_range more) good in
    split (eqb wanted 0) refl ranges.0 (shown_back price m (suc pair) more p (omega arith) (omega arith) ranges.1)
  where
    split : (t : Bool) → eqb wanted 0 ≡ t → in_range wanted got ≡ true → shown m (suc pair) (lines price (suc pair) more) ≡ more
        → shown (suc m) pair (line_of price pair wanted got ++ lines price (suc pair) more) ≡ wanted ∷ got ∷ more
    split true e good back =
        let others = lines price (suc pair) more in
        let none : wanted ≡ 0 = eqb-true wanted 0 e in
        let nothing : got ≡ 0 = omega (arith, got_within wanted got good) in
        ap (λ (l : List ℕ). shown (suc m) pair (l ++ others)) (no_line price pair wanted got none)
        ∙ shown_none m pair others (begins_later price pair (suc pair) more (omega arith) (omega arith) (omega arith))
        ∙ ap (λ (l : List ℕ). 0 ∷ 0 ∷ l) back
        ∙ ap₂ (λ (a b : ℕ). a ∷ b ∷ more) (sym none) (sym nothing)
    split false e good back =
        let others = lines price (suc pair) more in
        let text = line price pair wanted got in
        ap (λ (l : List ℕ). shown (suc m) pair (l ++ others)) (one_line price pair wanted got (eqb-false wanted 0 e))
        ∙ shown_line m pair (text ++ others) (begins_line price pair wanted got others (omega arith))
        ∙ ap₂ (λ (a b : ℕ). a ∷ b ∷ shown m (suc pair) (drop 61 (text ++ others))) (wanted_back price pair wanted got others (omega arith) p good)
        (got_back price pair wanted got others (omega arith) p good)
        ∙ ap (λ (l : List ℕ). wanted ∷ got ∷ l)
        (ap (shown m (suc pair)) (drop_at text others 61 (length_line price wanted got p good pair (omega arith))) ∙ back)

-- ---- the page is judged line by line

-- from a pair on, the page has the lines of the entries that stand on it, and nothing else
unfoldable pub laid : (price m pair : ℕ) → (page : List ℕ) → Bool
laid price m pair page = all_in_range (shown m pair page) && same page (lines price pair (shown m pair page))

module _ (price m pair : ℕ) (page : List ℕ) (p : price ≤ highest_price) (h : pair + suc m ≤ 2000) where
  abbrev Step : Type 0
  Step = laid price (suc m) pair page ≡ fits price pair page && laid price m (suc pair) (drop (taken pair page) page)

  abbrev wanted : ℕ
  wanted = wanted_on page

  abbrev got : ℕ
  got = got_on page

  abbrev text : List ℕ
  text = amounts price wanted got

  abbrev others : List ℕ
  others = shown m (suc pair) (drop 61 page)

  -- what a line has to be, where there is one
  abbrev exact : Bool
  exact = ltb 0 wanted && (in_range wanted got && same (take 51 (drop 10 page)) text)

  turned : (t : Bool) → begins pair page ≡ t → (not t || exact) && laid price m (suc pair) (drop (cond t 61 0) page)
      ≡ fits price pair page && laid price m (suc pair) (drop (taken pair page) page)
  unfolding fits
  turned t e = ap (λ (s : Bool). (not s || exact) && laid price m (suc pair) (drop (cond s 61 0) page)) (sym e)

  no_step : begins pair page ≡ false → Step
  unfolding laid all_in_range lines line_of
  no_step e = ap (λ (xs : List ℕ). all_in_range xs && same page (lines price pair xs)) (shown_none m pair page e) ∙ turned false e

  -- a line that wants 0 is on no page
  idle : begins pair page ≡ true → wanted ≡ 0 → same page (line_of price pair wanted got ++ lines price (suc pair) others) ≡ false
  idle e none =
      same_differ page _
      (λ f.
      let g : begins pair page ≡ false =
      ap (begins pair) (f ∙ ap (λ (l : List ℕ). l ++ lines price (suc pair) others) (no_line price pair wanted got none))
      ∙ begins_later price pair (suc pair) others (omega arith) (omega arith) (omega (arith, length_shown m (suc pair) (drop 61 page))) in
      let z : ◌≡◌ {A = ℕ} 0 1 = cc in
      omega arith)

  shuffled : (a b c : Bool) → a && (b && c) ≡ b && (a && c)
  shuffled true b c = refl
  shuffled false true c = refl
  shuffled false false c = refl

  -- a page that begins with the pair's title is compared from there on
  after_title : begins pair page ≡ true → in_range wanted got ≡ true → (more : List ℕ)
      → same page (line price pair wanted got ++ more) ≡ same (take 51 (drop 10 page)) text && same (drop 61 page) more
  unfolding begins
  after_title e g more =
      ap (same page) (append_assoc (title pair) text more)
      ∙ same_append page (title pair) (text ++ more)
      ∙ ap (λ (k : ℕ). same (take k page) (title pair) && same (drop k page) (text ++ more)) (length_title pair (omega arith))
      ∙ ap (λ (t : Bool). t && same (drop 10 page) (text ++ more)) e
      ∙ same_append (drop 10 page) text more
      ∙ ap (λ (k : ℕ). same (take k (drop 10 page)) text && same (drop k (drop 10 page)) more) (length_amounts price wanted got p g)
      ∙ ap (λ (l : List ℕ). same (take 51 (drop 10 page)) text && same l more) (drop-drop 51 10 page)

  split : begins pair page ≡ true → (s t : Bool) → ltb 0 wanted ≡ s → in_range wanted got ≡ t
      → (t && all_in_range others) && same page (line_of price pair wanted got ++ lines price (suc pair) others)
      ≡ (s && (t && same (take 51 (drop 10 page)) text)) && (all_in_range others && same (drop 61 page) (lines price (suc pair) others))
  split e false t f g = and_false (t && all_in_range others) _ (idle e (omega (arith, ltb-false 0 wanted f)))
  split e true false f g = refl
  split e true true f g =
      let more = lines price (suc pair) others in
      ap (λ (l : List ℕ). all_in_range others && same page (l ++ more)) (one_line price pair wanted got (λ z. omega (arith, ltb-true 0 wanted f)))
      ∙ ap (λ (t : Bool). all_in_range others && t) (after_title e g more)
      ∙ shuffled (all_in_range others) (same (take 51 (drop 10 page)) text) (same (drop 61 page) more)

  step : begins pair page ≡ true → Step
  unfolding laid all_in_range lines
  step e =
      ap (λ (xs : List ℕ). all_in_range xs && same page (lines price pair xs)) (shown_line m pair page e)
      ∙ split e (ltb 0 wanted) (in_range wanted got) refl refl
      ∙ turned true e

  pub laid_step : Step
  laid_step = cases (begins pair page) refl
    where
      cases : (t : Bool) → begins pair page ≡ t → Step
      cases true e = step e
      cases false e = no_step e

-- at the last pair no byte is left
pub laid_end : (price pair at : ℕ) (page : List ℕ) → at ≤ length page → laid price 0 pair (drop at page) ≡ eqb at (length page)
unfolding laid shown all_in_range lines same
laid_end price pair at page h = cases (eqb at (length page)) refl
  where
    cases : (t : Bool) → eqb at (length page) ≡ t → same (drop at page) [] ≡ t
    cases true e = ap (λ (l : List ℕ). same l []) (drop_of_length-le page {i = at} (omega (arith, eqb-true at (length page) e)))
    cases false e =
        same_differ (drop at page) [] (λ f. eqb-false at (length page) e (omega (arith, ap length f, length-drop at page)))
