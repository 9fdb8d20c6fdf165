-- `write` meets its contract: each early return is one entry of its list of tests. Assumes nothing.
use Rattle.std.specs.Prelude.{Err, Ok}
use mathlib.Core.Path.{◌≡◌, sym, ap, ap₂, ◌∙◌}
use mathlib.Core.Bool.{false, not}
use mathlib.Core.List.{List, ◌++◌}
use Prim.Native.Nat.{ℕ, ◌≤◌}
use native.Mathlib.Omega.{arith}
use lib.Dec.{leb, eqb}
use lib.ListN.{length, drop}
use lib.Seq.{length-take-le}
use borrow.Author.Tests.{not-false, lt-ltb, le-ltb, leb-true, eq-eqb, ne_eqb}
use Rattle.ranges.specs.Sizes.{highest_price}
use Rattle.ranges.proofs.Loops.{and_right}
use Rattle.refusal.specs.declared.Refusal.{Refusal}
use Rattle.refusal.proofs.Judging.{refuses, passes, all_passed, kept_new, kept_old}
use Rattle.settlement_page.specs.Page.{layout, is_price, all_in_range}
use Rattle.settlement.specs.Write.{write_judgement, write_reply, write_left}
use Rattle.settlement.proofs.Replies.{written_accepted, written_refused}
use Rattle.settlement.proofs.writing.write.Goals as goal
use Rattle.settlement.proofs.writing.write.Goals.{Else-entries-ne-ENTRIES, Else-not-all_in_range, Else-not-is_price, Start}

-- a refused call leaves the page
refused : (s : Start) → (why : Refusal) → write_judgement s.args.price s.args.entries.now s.args.page.now ≡ Err why → (Err why ≡ write_reply s.args.price s.args.entries.now s.args.page.now)
    × (s.args.page.now ≡ write_left s.args.price s.args.entries.now s.args.page.now)
refused s why e = (sym (written_refused _ _ _ why e), sym (kept_old _ _ _ why e))

-- the call in the facts that its tests leave

priced : (c : Else-not-is_price) → not (is_price c.args.price) ≡ false
priced c = ap not (sym c.is_price.ensures ∙ c.if-not-is_price.false)

price_small : (c : Else-not-is_price) → c.args.price ≤ highest_price
price_small c = let price = c.args.price in leb-true price highest_price (and_right (leb 1 price) _ (not-false _ (priced c)))

sized : (c : Else-entries-ne-ENTRIES) → not (eqb (length c.args.entries.now) 4000) ≡ false
sized c = ap not (eq-eqb _ 4000 c.if-entries-ne-ENTRIES.false)

ranged : (c : Else-not-all_in_range) → not (all_in_range c.args.entries.now) ≡ false
ranged c = ap not (sym c.all_in_range.ensures ∙ c.if-not-all_in_range.false)

pub returns-then-not-is_price : goal.returns-then-not-is_price
unfolding write_judgement
returns-then-not-is_price c =
    refused (goal.at.returns-then-not-is_price c).Start _ (refuses _ _ _ (ap not (sym c.is_price.ensures ∙ c.if-not-is_price.true)))

pub returns-then-entries-ne-ENTRIES : goal.returns-then-entries-ne-ENTRIES
unfolding write_judgement
returns-then-entries-ne-ENTRIES c =
    refused (goal.at.returns-then-entries-ne-ENTRIES c).Start _ (passes _ _ _ (priced (goal.at.returns-then-entries-ne-ENTRIES c).Else-not-is_price) ∙ refuses _ _ _ (ap not (ne_eqb _ 4000 c.if-entries-ne-ENTRIES.true)))

pub returns-then-not-all_in_range : goal.returns-then-not-all_in_range
unfolding write_judgement
returns-then-not-all_in_range c =
    refused (goal.at.returns-then-not-all_in_range c).Start _
    (passes _ _ _ (priced (goal.at.returns-then-not-all_in_range c).Else-not-is_price) ∙ passes _ _ _ (sized (goal.at.returns-then-not-all_in_range c).Else-entries-ne-ENTRIES) ∙ refuses _ _ _ (ap not (sym c.all_in_range.ensures ∙ c.if-not-all_in_range.true)))

pub line_count-bytes-requires : goal.line_count-bytes-requires
line_count-bytes-requires c = (c.if-entries-ne-ENTRIES.false, not-false _ (ranged c))

pub returns-then-page-bytes : goal.returns-then-page-bytes
unfolding write_judgement
returns-then-page-bytes c =
    let bytes = c.line_count-bytes.ensures.1 c.args.price (price_small (goal.at.returns-then-page-bytes c).Else-not-is_price) in
    refused (goal.at.returns-then-page-bytes c).Start _
    (passes _ _ _ (priced (goal.at.returns-then-page-bytes c).Else-not-is_price) ∙ passes _ _ _ (sized (goal.at.returns-then-page-bytes c).Else-entries-ne-ENTRIES) ∙ passes _ _ _ (ranged (goal.at.returns-then-page-bytes c).Else-not-all_in_range) ∙ refuses _ _ _ (lt-ltb (length c.args.page.now) (length (layout c.args.price c.args.entries.now)) (omega (arith, bytes, c.if-page-bytes.true))))

pub slice_bounds-write_lines-end-2 : goal.slice_bounds-write_lines-end-2
slice_bounds-write_lines-end-2 c = sym (length-take-le _ _ c.if-page-bytes.false)

pub write_lines-requires : goal.write_lines-requires
write_lines-requires c = (
  price_small (goal.at.write_lines-requires c).Else-not-is_price,
  c.if-entries-ne-ENTRIES.false,
  not-false _ (ranged (goal.at.write_lines-requires c).Else-not-all_in_range),
  length-take-le _ _ c.if-page-bytes.false ∙ sym (c.line_count-bytes.ensures.1 _ (price_small (goal.at.write_lines-requires c).Else-not-is_price)),
)

pub returns : goal.returns
unfolding write_judgement
returns c =
    let price = c.args.price in
    let entries = c.args.entries.now in
    let page = c.args.page.now in
    let bytes = c.line_count-bytes.ensures.1 price (price_small (goal.at.returns c).Else-not-is_price) in
    let accepted : write_judgement price entries page ≡ Ok tt =
    passes _ _ _ (priced (goal.at.returns c).Else-not-is_price)
    ∙ passes _ _ _ (sized (goal.at.returns c).Else-entries-ne-ENTRIES)
    ∙ passes _ _ _ (ranged (goal.at.returns c).Else-not-all_in_range)
    ∙ passes _ _ _ (le-ltb (length page) (length (layout price entries)) (omega (arith, bytes, c.if-page-bytes.false)))
    ∙ all_passed in (
      ap Ok (sym bytes) ∙ sym (written_accepted _ price entries accepted),
      ap₂ (λ (l : List ℕ) (m : ℕ). l ++ drop m page) c.write_lines.ensures (sym bytes) ∙ sym (kept_new _ _ page accepted),
    )
