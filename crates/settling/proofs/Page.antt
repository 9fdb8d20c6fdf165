-- A page of good bids is not refused. Assumes nothing.
use Rattle.std.specs.Prelude.{Ok}
use mathlib.Core.Path.{◌≡◌, refl, sym, ap, ap₂, ◌∙◌}
use mathlib.Core.Bool.{Bool, true, false, cond}
use mathlib.Core.List.{List, [], ◌∷◌, ◌++◌}
use Prim.Native.Nat.{ℕ, zero, suc, ◌+◌, ◌-◌, ◌*◌, ◌≤◌, ◌<◌}
use native.Mathlib.Nat.{zero-add, sub-zero, zero-sub, suc-sub-suc}
use native.Mathlib.Omega.{arith}
use lib.Dec.{eqb}
use lib.ListN.{length, drop, get_or, replicate, length-append}
use borrow.Author.Tests.{ltb-false, le-ltb, le-leb, eq-eqb}
use Rattle.refusal.specs.Judging.{judged, kept}
use Rattle.refusal.specs.Refusal.{Judgement}
use Rattle.refusal.proofs.Judging.{passed}
use Rattle.ranges.specs.Sizes.{highest_price}
use Rattle.ranges.proofs.Loops.{and_left, and_right}
use Rattle.bid.specs.Table.{most}
use Rattle.comparison.specs.Probe.{Each}
use Rattle.settlement_page.specs.Page.{line_of, layout, entries_size, in_range, all_in_range}
use Rattle.settlement_page.specs.Page as page
use Rattle.settlement.specs.Write.{write_judgement, write_left}
use Rattle.settlement_page.proofs.Lines.{length_line_of}
use Rattle.auction.specs.Auction.{GoodTable}
use Rattle.auction.proofs.Totals.{amount_most}
use Rattle.entering.specs.Entries.{entries}
use Rattle.listing.specs.Text.{Wrote}

-- ---- the entries of good tables

zeros_in_range : (r : ℕ) → all_in_range (replicate r 0) ≡ true
unfolding all_in_range
zeros_in_range zero = refl
zeros_in_range (suc zero) = refl
zeros_in_range (suc (suc r)) = zeros_in_range r

pair_in_range : (wanted got : ℕ) → wanted ≤ most → got ≤ wanted → in_range wanted got ≡ true
pair_in_range wanted got h g = rw (le-leb wanted most h, le-leb got wanted g)

module _ (k i : ℕ) where
  pub length_entries : (got : ℕ → ℕ) (tables : List (List ℕ)) → length (entries got k i tables) ≡ 4 * length tables
  unfolding entries
  length_entries got [] = refl
  length_entries got (t ∷ tables) = omega (arith, length_entries got tables)

  -- no more than the largest amount is ever asked for
  pub same_entries : (got told : ℕ → ℕ) → ((a : ℕ) → a ≤ most → got a ≡ told a) → (tables : List (List ℕ)) → Each (GoodTable k) tables
      → entries got k i tables ≡ entries told k i tables
  unfolding entries
  same_entries got told same [] G = refl
  same_entries got told same (t ∷ tables) G =
      ap₂ (λ (x : ℕ) (l : List ℕ). get_or t (i - 1) 0 ∷ x ∷ get_or t (k + i - 1) 0 ∷ get_or t (k + i - 1) 0 ∷ l)
      (same (get_or t (i - 1) 0) (amount_most k t G.0 (i - 1))) (same_entries got told same tables G.1)

  pub entries_in_range : (got : ℕ → ℕ) → ((a : ℕ) → got a ≤ a) → (tables : List (List ℕ)) → Each (GoodTable k) tables
      → (r : ℕ) → all_in_range (entries got k i tables ++ replicate r 0) ≡ true
  unfolding entries all_in_range
  entries_in_range got within [] G r = zeros_in_range r
  entries_in_range got within (t ∷ tables) G r =
      rw (
        pair_in_range (get_or t (i - 1) 0) (got (get_or t (i - 1) 0)) (amount_most k t G.0 (i - 1)) (within (get_or t (i - 1) 0)),
        pair_in_range (get_or t (k + i - 1) 0) (get_or t (k + i - 1) 0) (amount_most k t G.0 (k + i - 1)) (omega arith),
      ) (entries_in_range got within tables G.1 r)

-- the entries past those that are told
pub zeros_left : (n m : ℕ) → drop m (replicate {A = ℕ} n 0) ≡ replicate (n - m) 0
zeros_left n zero = sym (ap (λ (j : ℕ). replicate j 0) (sub-zero n))
zeros_left zero (suc m) = sym (ap (λ (j : ℕ). replicate j 0) (zero-sub (suc m)))
zeros_left (suc n) (suc m) = zeros_left n m ∙ ap (λ (j : ℕ). replicate j 0) (sym (suc-sub-suc n m))

-- ---- the page

one_most : (t : Bool) → cond t 0 1 ≤ 1
one_most true = omega arith
one_most false = omega arith

-- 2,000 lines of 61 bytes
module _ (price : ℕ) (p : price ≤ highest_price) where
  lines_fit : (pair : ℕ) (es : List ℕ) → length es + 2 * pair ≤ entries_size → all_in_range es ≡ true → length (page.lines price pair es) + 61 * pair ≤ 122000
  unfolding page.lines all_in_range
  lines_fit pair [] h good = omega arith
  lines_fit pair (x ∷ []) h good = omega arith
  lines_fit pair (wanted ∷ got ∷ more) h good =
      omega (
        arith,
        length-append (line_of price pair wanted got) (page.lines price (suc pair) more),
        length_line_of price pair wanted got p (omega arith) (and_left (in_range wanted got) (all_in_range more) good),
        one_most (eqb wanted 0),
        lines_fit (suc pair) more (omega arith) (and_right (in_range wanted got) (all_in_range more) good),
      )

  pub page_fits : (es : List ℕ) → length es ≡ entries_size → all_in_range es ≡ true → length (layout price es) ≤ 122000
  page_fits es h good = omega (arith, lines_fit 0 es (omega arith) good)

pub not_refused : (price : ℕ) (es out : List ℕ) → 0 < price → price ≤ highest_price → length es ≡ entries_size → all_in_range es ≡ true → length out ≡ 122000
    → write_judgement price es out ≡ Ok tt
unfolding write_judgement judged
not_refused price es out some most long good room =
    rw (
      le-leb 1 price some,
      le-leb price highest_price most,
      eq-eqb (length es) entries_size long,
      good,
      le-ltb (length out) (length (layout price es)) (omega (arith, page_fits price most es long good)),
    )

-- what is then written
module _ (price : ℕ) (es out : List ℕ) (ok : write_judgement price es out ≡ Ok tt) where
  room : length (layout price es) ≤ length out
  unfolding write_judgement
  room = ltb-false (length out) (length (layout price es)) (passed _ _ _ (passed _ _ _ (passed _ _ _ (passed _ _ _ ok).1).1).1).0

  pub page_wrote : (after : List ℕ) (r : ℕ) → after ≡ write_left price es out → r ≡ length (layout price es) → Wrote out 0 (layout price es) after r
  unfolding kept
  page_wrote after r e f =
      let text = layout price es in
      record {
        held = e ∙ ap (λ (j : Judgement). kept j (text ++ drop (length text) out) out) ok ∙ ap (λ (m : ℕ). text ++ drop m out) (sym (zero-add (length text)));
        place = f ∙ sym (zero-add (length text));
        inside = omega (arith, room);
      }
