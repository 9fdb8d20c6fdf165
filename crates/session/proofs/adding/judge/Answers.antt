-- `judge` of a bid meets its contract: each return answers one test of the list. Assumes nothing.
use mathlib.Core.Path.{◌≡◌, sym, ap, ap₂, ◌∙◌}
use mathlib.Core.Bool.{Bool, false, not, ◌&&◌}
use Prim.Native.Nat.{◌≤◌}
use native.Mathlib.Omega.{arith}
use borrow.Author.Tests.{not-false}
use Rattle.ranges.proofs.Loops.{and_left}
use Rattle.roll.specs.Marks.{is_bidder}
use Rattle.record.specs.Record.{sound}
use Rattle.session.specs.Add.{amounts_below, add_judgement}
use Rattle.refusal.proofs.Judging.{refuses, passes, all_passed}
use Rattle.record.proofs.Soundness.{sound_facts}
use Rattle.session.proofs.adding.judge.Lts.View as view
use Rattle.session.proofs.adding.judge.Goals as goal
use Rattle.session.proofs.adding.judge.Goals.{After-all_below-2, After-is_bidder, Else-not-whole-is_bidder}

-- the test of the ranges, and what has passed where it did
ranges : (c : After-is_bidder) → not (c.args.whole && c.is_bidder.result) ≡ not (sound c.args.q && is_bidder c.args.bidder)
ranges c = ap₂ (λ (a b : Bool). not (a && b)) c.requires c.is_bidder.ensures

whole : (c : Else-not-whole-is_bidder) → not (sound c.args.q && is_bidder c.args.bidder) ≡ false
whole c = sym (ranges (view.up-After-is_bidder _ _ _ c.before.before)) ∙ c.if-not-whole-is_bidder.false-raw

few : (c : Else-not-whole-is_bidder) → c.args.q.k ≤ 1024
few c = (sound_facts _ (and_left _ _ (not-false _ (whole c)))).listed.prices_most

below : (c : After-all_below-2) → let a = c.args in
    c.all_below.result && c.all_below-2.result ≡ amounts_below a.totals.now && amounts_below a.shares.now
below c = ap₂ ◌&&◌ c.all_below.ensures c.all_below-2.ensures

pub returns-then-not-whole-is_bidder : goal.returns-then-not-whole-is_bidder
unfolding add_judgement
returns-then-not-whole-is_bidder c =
    sym (refuses _ _ _ (sym (ranges (goal.at.returns-then-not-whole-is_bidder c).After-is_bidder) ∙ c.if-not-whole-is_bidder.true-raw))

pub overflow_mul-words : goal.overflow_mul-words
overflow_mul-words c = omega (arith, few c)

pub returns-then-not-totals-words : goal.returns-then-not-totals-words
unfolding add_judgement
returns-then-not-totals-words c =
    sym (passes _ _ _ (whole (goal.at.returns-then-not-totals-words c).Else-not-whole-is_bidder) ∙ refuses _ _ _ c.if-not-totals-words.true-raw)

pub returns-then-q : goal.returns-then-q
unfolding add_judgement
returns-then-q c =
    sym (passes _ _ _ (whole (goal.at.returns-then-q c).Else-not-whole-is_bidder) ∙ passes _ _ _ c.if-not-totals-words.false-raw ∙ refuses _ _ _ c.if-q.true)

pub returns-then-marked : goal.returns-then-marked
unfolding add_judgement
returns-then-marked c =
    sym
    (passes _ _ _ (whole (goal.at.returns-then-marked c).Else-not-whole-is_bidder) ∙ passes _ _ _ c.if-not-totals-words.false-raw ∙ passes _ _ _ c.if-q.false
    ∙ refuses _ _ _ (sym c.marked.ensures ∙ c.if-marked.true))

pub returns-then-not-all_below : goal.returns-then-not-all_below
unfolding add_judgement
returns-then-not-all_below c =
    sym
    (passes _ _ _ (whole (goal.at.returns-then-not-all_below c).Else-not-whole-is_bidder) ∙ passes _ _ _ c.if-not-totals-words.false-raw ∙ passes _ _ _ c.if-q.false
    ∙ passes _ _ _ (sym c.marked.ensures ∙ c.if-marked.false)
    ∙ refuses _ _ _ (ap not (sym (below (goal.at.returns-then-not-all_below c).After-all_below-2)) ∙ c.if-not-all_below.true-raw))

pub returns : goal.returns
unfolding add_judgement
returns c =
    sym
    (passes _ _ _ (whole (goal.at.returns c).Else-not-whole-is_bidder) ∙ passes _ _ _ c.if-not-totals-words.false-raw ∙ passes _ _ _ c.if-q.false
    ∙ passes _ _ _ (sym c.marked.ensures ∙ c.if-marked.false)
    ∙ passes _ _ _ (ap not (sym (below (goal.at.returns c).After-all_below-2)) ∙ c.if-not-all_below.false-raw) ∙ all_passed)
