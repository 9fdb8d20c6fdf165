-- `judge` meets its contract: each return answers one test of the opening. Assumes nothing.
use mathlib.Core.Path.{◌≡◌, sym, ap₂, ◌∙◌}
use mathlib.Core.Bool.{false, ◌||◌}
use Rattle.round.specs.Round.{unopened, sum_outside, verdict_outside}
use Rattle.listening.specs.Listen.{total_outside}
use Rattle.refusal.proofs.Judging.{refuses, passes, all_passed}
use Rattle.listening.proofs.judge.Goals as goal
use Rattle.listening.proofs.judge.Goals.{After-total_outside, Else-unopened, Else-verdict_outside}

-- each test that was passed
straight : (c : Else-unopened) → unopened c.args.opened ≡ false
straight c = sym c.unopened.ensures ∙ c.if-unopened.false

-- T and totals, where they are looked at
ranges : (c : After-total_outside) → let a = c.args in
    sum_outside a.opened || total_outside a.round a.demand a.supply a.opened ≡ c.sum_outside.result || c.total_outside.result
ranges c = sym (ap₂ ◌||◌ c.sum_outside.ensures c.total_outside.ensures)

whole : (c : Else-verdict_outside) → verdict_outside c.args.opened ≡ false
whole c = sym c.verdict_outside.ensures ∙ c.if-verdict_outside.false

pub returns-then-unopened : goal.returns-then-unopened
returns-then-unopened c = sym (refuses _ _ _ (sym c.unopened.ensures ∙ c.if-unopened.true))

pub returns-then-sum_outside-total_outside : goal.returns-then-sum_outside-total_outside
returns-then-sum_outside-total_outside c =
    sym (passes _ _ _ (straight (goal.at.returns-then-sum_outside-total_outside c).Else-unopened) ∙ refuses _ _ _ (ranges (goal.at.returns-then-sum_outside-total_outside c).After-total_outside ∙ c.if-sum_outside-total_outside.true))

pub returns-then-verdict_outside : goal.returns-then-verdict_outside
returns-then-verdict_outside c =
    sym
    (passes _ _ _ (straight (goal.at.returns-then-verdict_outside c).Else-unopened) ∙ passes _ _ _ (ranges (goal.at.returns-then-verdict_outside c).After-total_outside ∙ c.if-sum_outside-total_outside.false)
    ∙ refuses _ _ _ (sym c.verdict_outside.ensures ∙ c.if-verdict_outside.true))

pub returns : goal.returns
returns c =
    sym
    (passes _ _ _ (straight (goal.at.returns c).Else-unopened) ∙ passes _ _ _ (ranges (goal.at.returns c).After-total_outside ∙ c.if-sum_outside-total_outside.false) ∙ passes _ _ _ (whole c)
    ∙ all_passed)
