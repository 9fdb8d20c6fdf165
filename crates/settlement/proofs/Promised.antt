-- Pages are what is promised of them. Assumes nothing.
use Rattle.std.specs.Prelude.{Ok}
use mathlib.Core.Path.{◌≡◌, refl, sym, ap, ap₂, ◌∙◌}
use mathlib.Core.Bool.{Bool, true, false, not, ◌&&◌}
use mathlib.Core.List.{List, [], ◌∷◌, ◌++◌}
use Prim.Native.Nat.{ℕ, suc, ◌+◌, ◌*◌, ◌≤◌, ◌<◌}
use native.Mathlib.Omega.{arith}
use lib.Dec.{leb, eqb}
use lib.ListN.{length, take, drop}
use lib.Seq.{take_at}
use borrow.Author.Tests.{eqb-true, eqb-false, eq-eqb, leb-true, not-false}
use Rattle.ranges.specs.Lists.{same}
use Rattle.ranges.specs.Sizes.{highest_price}
use Rattle.ranges.proofs.Loops.{and-true, and_right}
use Rattle.ranges.proofs.Compared.{same_self, same_equal}
use Rattle.refusal.proofs.Judging.{passes, passed, all_passed, kept_new}
use Rattle.settlement_page.specs.Page.{line_of, lines, layout, is_price, in_range, all_in_range}
use Rattle.settlement_page.proofs.Lines.{no_line, one_line, wanted_most, got_most, bidder_fits, hours_fit, pence_fit}
use Rattle.settlement_page.proofs.Rows.{line_row, row, row_plain, length_row}
use Rattle.settlement.specs.Write.{write_judgement, write_left}
use Rattle.settlement.specs.Read.{entries_on, laid_out, read_judgement, read_left}
use Rattle.settlement.specs.Pages.{Entries, Rows, Fit, Pages}
use Rattle.settlement.proofs.Back.{length_shown, shown_back}

-- ---- lines

columns_fit : (price pair wanted got : ℕ) → price ≤ highest_price → pair < 2000 → in_range wanted got ≡ true → Fit price pair wanted got
columns_fit price pair wanted got p real good =
    let w = wanted_most price wanted got p good in
    let g = got_most price wanted got p good in
    record {
      bidder_number = bidder_fits pair real;
      hours_wanted = hours_fit wanted w;
      hours_got = hours_fit got g;
      pence = pence_fit price got p g;
    }

rows : (price pair : ℕ) (entries : List ℕ) → price ≤ highest_price → 2 * pair + length entries ≤ 4000 → all_in_range entries ≡ true → Rows (lines price pair entries)
unfolding lines all_in_range
rows price pair [] p h good = Rows.none
rows price pair (x ∷ []) p h good = Rows.none
rows price pair (wanted ∷ got ∷ more) p h good =
    let ranges = and-true (in_range wanted got) (all_in_range more) good in
    split (eqb wanted 0) refl ranges.0 (rows price (suc pair) more p (omega arith) ranges.1)
  where
    split : (t : Bool) → eqb wanted 0 ≡ t → in_range wanted got ≡ true → Rows (lines price (suc pair) more)
        → Rows (line_of price pair wanted got ++ lines price (suc pair) more)
    split true e fair others = rw (no_line price pair wanted got (eqb-true wanted 0 e)) others
    split false e fair others =
        rw (one_line price pair wanted got (eqb-false wanted 0 e), line_row price pair wanted got (lines price (suc pair) more))
        (Rows.more (row price pair wanted got) (lines price (suc pair) more) (length_row price pair wanted got p (omega arith) fair)
        (row_plain price pair wanted got) others)

-- ---- pages

module _ (price : ℕ) (priced : is_price price ≡ true) where
  small : price ≤ highest_price
  small = leb-true price highest_price (and_right (leb 1 price) (leb price highest_price) priced)

  back : (entries : List ℕ) → Entries entries → entries_on (layout price entries) ≡ entries
  back entries e = shown_back price 2000 0 entries small (omega arith) e.size e.ranges

  are_laid_out : (entries : List ℕ) → Entries entries → laid_out price (layout price entries) ≡ true
  unfolding laid_out
  are_laid_out entries e =
      ap₂ ◌&&◌ (ap all_in_range (back entries e) ∙ e.ranges)
      (ap (λ (l : List ℕ). same (layout price entries) (layout price l)) (back entries e) ∙ same_self (layout price entries))

  read_accepted : (page lent : List ℕ) → laid_out price page ≡ true → length lent ≡ 4000 → read_judgement price page lent ≡ Ok tt
  unfolding read_judgement
  read_accepted page lent e size =
      passes _ _ _ (ap not priced) ∙ passes _ _ _ (ap not (eq-eqb (length lent) 4000 size)) ∙ passes _ _ _ (ap not e) ∙ all_passed

  -- what a call that is accepted was given
  read_was : (page lent : List ℕ) → read_judgement price page lent ≡ Ok tt → laid_out price page ≡ true
  unfolding read_judgement
  read_was page lent e = not-false _ (passed _ _ _ (passed _ _ _ (passed _ _ _ e).1).1).0

  write_was : (entries page : List ℕ) → write_judgement price entries page ≡ Ok tt → Entries entries
  unfolding write_judgement
  write_was entries page e =
      let size = passed _ _ _ (passed _ _ _ e).1 in
      record { size = eqb-true (length entries) 4000 (not-false _ size.0); ranges = not-false _ (passed _ _ _ size.1).0 }

  left : (page lent : List ℕ) → read_judgement price page lent ≡ Ok tt → read_left price page lent ≡ entries_on page
  left page lent e = kept_new _ (entries_on page) lent e

  shown_entries : (page : List ℕ) → laid_out price page ≡ true → Entries (entries_on page) × (layout price (entries_on page) ≡ page)
  unfolding laid_out
  shown_entries page e =
      let w = and-true (all_in_range (entries_on page)) (same page (layout price (entries_on page))) e in
      (record { size = length_shown 2000 0 page; ranges = w.0 }, sym (same_equal page (layout price (entries_on page)) w.1))

  back_again : (entries lent : List ℕ) → Entries entries → length lent ≡ 4000
      → (read_judgement price (layout price entries) lent ≡ Ok tt) × (read_left price (layout price entries) lent ≡ entries)
  back_again entries lent e size =
      let accepted = read_accepted (layout price entries) lent (are_laid_out entries e) size in
      (accepted, left (layout price entries) lent accepted ∙ back entries e)

  -- the lines that were written
  cut : (entries page : List ℕ) → write_judgement price entries page ≡ Ok tt → take (length (layout price entries)) (write_left price entries page) ≡ layout price entries
  cut entries page e =
      let text = layout price entries in
      ap (take (length text)) (kept_new _ (text ++ drop (length text) page) page e) ∙ take_at text (drop (length text) page) (length text) refl

  pub pages : Pages price
  pages = record {
    fit = λ pair wanted got real good. columns_fit price pair wanted got small real good;
    sixty_bytes = λ entries e. rows price 0 entries small (omega (arith, e.size)) e.ranges;
    read_back = λ entries page lent e size. rw (cut entries page e) (back_again entries lent (write_was entries page e) size);
    accepted = λ page lent e. rw (left page lent e) (shown_entries page (read_was page lent e));
    laid_out = λ entries lent e size. (back_again entries lent e size).0;
    unique = λ a b e f same_page. sym (back a e) ∙ ap entries_on same_page ∙ back b f;
  }
