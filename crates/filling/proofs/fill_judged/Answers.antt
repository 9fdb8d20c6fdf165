-- `fill_judged` meets its contract: each early return is one entry of its list of tests. Assumes nothing.
use mathlib.Core.Path.{◌≡◌, sym, ap, ◌∙◌}
use mathlib.Core.Bool.{false, not}
use native.Mathlib.Omega.{arith}
use Rattle.std.proofs.Common.{Ok}
use borrow.Author.Tests.{not-false, lt-ltb, le-ltb}
use Rattle.refusal.proofs.Judging.{refuses, passes, all_passed}
use Rattle.record.specs.Record.{sound}
use Rattle.record.proofs.Soundness.{Sound, sound_facts}
use Rattle.filling.specs.Fill.{fill_judgement}
use Rattle.filling.proofs.Replies.{filled_accepted, filled_refused}
use Rattle.filling.proofs.Laws.{opened, unopened}
use Rattle.filling.proofs.fill_judged.Goals as goal
use Rattle.filling.proofs.fill_judged.Goals.{Else-not-whole}

pub returns-then-not-whole : goal.returns-then-not-whole
unfolding fill_judgement
returns-then-not-whole c = sym (filled_refused _ _ _ _ (refuses _ _ _ (ap not (sym c.requires ∙ c.if-not-whole.true))))

-- the record passed
whole : (c : Else-not-whole) → not (sound c.args.q) ≡ false
whole c = ap not (sym c.requires ∙ c.if-not-whole.false)

facts : (c : Else-not-whole) → Sound c.args.q
facts c = sound_facts _ (not-false _ (whole c))

pub returns-then-q-ne-OPEN : goal.returns-then-q-ne-OPEN
unfolding fill_judgement
returns-then-q-ne-OPEN c =
    let q = c.args.q in
    sym (filled_refused _ q _ _ (passes _ _ _ (whole (goal.at.returns-then-q-ne-OPEN c).Else-not-whole) ∙ refuses _ _ _ (unopened q c.if-q-ne-OPEN.true)))

pub returns-then-amount-gt-MOST : goal.returns-then-amount-gt-MOST
unfolding fill_judgement
returns-then-amount-gt-MOST c =
    sym (filled_refused _ _ _ _
    (passes _ _ _ (whole (goal.at.returns-then-amount-gt-MOST c).Else-not-whole) ∙ passes _ _ _ (opened _ (facts (goal.at.returns-then-amount-gt-MOST c).Else-not-whole) c.if-q-ne-OPEN.false) ∙ refuses _ _ _ (lt-ltb _ _ c.if-amount-gt-MOST.true)))

pub share_out-requires : goal.share_out-requires
share_out-requires c =
    (omega (arith, c.if-amount-gt-MOST.false), omega (arith, (facts (goal.at.share_out-requires c).Else-not-whole).totals))

pub returns : goal.returns
unfolding fill_judgement
returns c =
    ap Ok c.share_out.ensures
    ∙ sym (filled_accepted _ _ _
    (passes _ _ _ (whole (goal.at.returns c).Else-not-whole) ∙ passes _ _ _ (opened _ (facts (goal.at.returns c).Else-not-whole) c.if-q-ne-OPEN.false) ∙ passes _ _ _ (le-ltb _ _ c.if-amount-gt-MOST.false) ∙ all_passed))
