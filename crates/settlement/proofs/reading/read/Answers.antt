-- `read` meets its contract: each early return is one entry of its list of tests. Assumes nothing.
use Rattle.std.specs.Prelude.{Err}
use mathlib.Core.Path.{◌≡◌, refl, sym, ap, ◌∙◌}
use mathlib.Core.Bool.{false, not}
use Prim.Native.Nat.{◌≤◌}
use lib.Dec.{leb, eqb}
use lib.ListN.{length}
use borrow.Author.Tests.{not-false, leb-true, eq-eqb, ne_eqb}
use Rattle.ranges.specs.Sizes.{highest_price}
use Rattle.ranges.proofs.Loops.{and_right}
use Rattle.refusal.specs.declared.Refusal.{Refusal}
use Rattle.refusal.proofs.Judging.{refuses, passes, all_passed, kept_new, kept_old}
use Rattle.settlement_page.specs.Page.{is_price}
use Rattle.settlement.specs.Read.{read_judgement, read_left}
use Rattle.settlement.proofs.reading.read.Goals as goal
use Rattle.settlement.proofs.reading.read.Goals.{Else-entries-ne-ENTRIES, Else-not-is_price, Start}

-- a refused call leaves the entries
refused : (s : Start) → (why : Refusal) → read_judgement s.args.price s.args.page.now s.args.entries.now ≡ Err why → (Err why ≡ read_judgement s.args.price s.args.page.now s.args.entries.now)
    × (s.args.entries.now ≡ read_left s.args.price s.args.page.now s.args.entries.now)
refused s why e = (sym e, sym (kept_old _ _ _ why e))

priced : (c : Else-not-is_price) → not (is_price c.args.price) ≡ false
priced c = ap not (sym c.is_price.ensures ∙ c.if-not-is_price.false)

price_small : (c : Else-not-is_price) → c.args.price ≤ highest_price
price_small c = let price = c.args.price in leb-true price highest_price (and_right (leb 1 price) _ (not-false _ (priced c)))

sized : (c : Else-entries-ne-ENTRIES) → not (eqb (length c.args.entries.now) 4000) ≡ false
sized c = ap not (eq-eqb _ 4000 c.if-entries-ne-ENTRIES.false)

pub returns-then-not-is_price : goal.returns-then-not-is_price
unfolding read_judgement
returns-then-not-is_price c =
    refused (goal.at.returns-then-not-is_price c).Start _ (refuses _ _ _ (ap not (sym c.is_price.ensures ∙ c.if-not-is_price.true)))

pub returns-then-entries-ne-ENTRIES : goal.returns-then-entries-ne-ENTRIES
unfolding read_judgement
returns-then-entries-ne-ENTRIES c =
    refused (goal.at.returns-then-entries-ne-ENTRIES c).Start _ (passes _ _ _ (priced (goal.at.returns-then-entries-ne-ENTRIES c).Else-not-is_price) ∙ refuses _ _ _ (ap not (ne_eqb _ 4000 c.if-entries-ne-ENTRIES.true)))

pub read_lines-requires : goal.read_lines-requires
read_lines-requires c = (price_small (goal.at.read_lines-requires c).Else-not-is_price, refl)

pub returns-then-not-read_lines : goal.returns-then-not-read_lines
unfolding read_judgement
returns-then-not-read_lines c =
    refused (goal.at.returns-then-not-read_lines c).Start _
    (passes _ _ _ (priced (goal.at.returns-then-not-read_lines c).Else-not-is_price) ∙ passes _ _ _ (sized (goal.at.returns-then-not-read_lines c).Else-entries-ne-ENTRIES) ∙ refuses _ _ _ (ap not (sym c.read_lines.ensures.0 ∙ c.if-not-read_lines.true)))

pub returns : goal.returns
unfolding read_judgement
returns c =
    let laid = c.if-not-read_lines.false in
    let accepted =
    passes _ _ _ (priced (goal.at.returns c).Else-not-is_price) ∙ passes _ _ _ (sized (goal.at.returns c).Else-entries-ne-ENTRIES) ∙ passes _ _ _ (ap not (sym c.read_lines.ensures.0 ∙ c.if-not-read_lines.false)) ∙ all_passed in (
      sym accepted,
      c.copy_from_slice.ensures.after ∙ c.read_lines.ensures.1 laid ∙ sym (kept_new _ _ _ accepted),
    )
