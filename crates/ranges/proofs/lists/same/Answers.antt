-- `same` meets its contract: what was joined is 0 where the bytes before are the same. Assumes nothing.
use Rattle.std.proofs.Common.{◌&&◌, eqb, length, sym, ap, ap₂, ◌∙◌, arith}
use mathlib.Core.Logic.{⊎_elim, inl, inr}
use Rattle.ranges.specs.Lists.{same}
use Rattle.ranges.proofs.Compared.{same_differ, same_next, same_over}
use Rattle.ranges.proofs.lists.same.Goals as goal

pub returns-then-left-right : goal.returns-then-left-right
returns-then-left-right c = sym (same_differ _ _ (λ e. c.if-left-right.true (ap length e)))

pub loop-x-preserved : goal.loop-x-preserved
loop-x-preserved c =
    let l = c.loop-x in
    let e = c.in-Some.ensures.steps in (
      omega (arith, sym (ap length e.0) ∙ l.invariant.0 ∙ ap length e.1),
      l.invariant.1 ∙ ap (λ b. eqb l.differ 0 && b) (ap₂ same e.0 e.1) ∙ same_next l.differ _ _ _ _,
    )

pub returns : goal.returns
returns c =
    let l = c.loop-x in
    sym (l.invariant.1 ∙ same_over l.differ _ _ l.invariant.0 (⊎_elim (λ w. inl w.1.0) (λ w. inr w.1.0) c.in-None.ensures.steps))
