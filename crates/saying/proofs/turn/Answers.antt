-- `turn` meets its contract: each return answers one test of the list. Assumes nothing.
use mathlib.Core.Path.{◌≡◌, sym, ap, ◌∙◌}
use mathlib.Core.Bool.{Bool, not, ◌&&◌}
use Prim.Native.Nat.{◌*◌}
use Rattle.ranges.specs.Sizes.{long}
use Rattle.saying.specs.Say.{sheets_long, turn_judgement}
use Rattle.refusal.proofs.Judging.{refuses, passes, all_passed}
use Rattle.saying.proofs.turn.Goals as goal
use Rattle.saying.proofs.turn.Goals.{After-are_long}

-- where the lengths are judged
judges : (c : After-are_long) → let a = c.args in
    long (2 * a.q.k) a.totals.now && long (sheets_long a.q.k a.q.last) a.sheets.now && a.else_long ≡ c.are_long.result && a.else_long
judges c = ap (λ (b : Bool). b && c.args.else_long) (sym c.are_long.ensures)

pub returns-then-not-whole : goal.returns-then-not-whole
unfolding turn_judgement
returns-then-not-whole c = sym (refuses _ _ _ (ap not c.if-not-whole.true))

pub returns-then-not-are_long-else_long : goal.returns-then-not-are_long-else_long
unfolding turn_judgement
returns-then-not-are_long-else_long c =
    sym (passes _ _ _ (ap not c.if-not-whole.false) ∙ refuses _ _ _ (ap not (judges (goal.at.returns-then-not-are_long-else_long c).After-are_long ∙ c.if-not-are_long-else_long.true)))

pub returns-then-ended : goal.returns-then-ended
unfolding turn_judgement
returns-then-ended c =
    let over = sym c.ended.ensures ∙ c.if-ended.true in
    sym (passes _ _ _ (ap not c.if-not-whole.false) ∙ passes _ _ _ (ap not (judges (goal.at.returns-then-ended c).After-are_long ∙ c.if-not-are_long-else_long.false)) ∙ refuses _ _ _ over)

pub returns : goal.returns
unfolding turn_judgement
returns c =
    let going = sym c.ended.ensures ∙ c.if-ended.false in
    sym (passes _ _ _ (ap not c.if-not-whole.false) ∙ passes _ _ _ (ap not (judges (goal.at.returns c).After-are_long ∙ c.if-not-are_long-else_long.false)) ∙ passes _ _ _ going ∙ all_passed)
