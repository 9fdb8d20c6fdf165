-- `first_bend` meets its contract: each step passes, or each before i does. Assumes nothing.
use Rattle.std.proofs.Common.{length, sym, ap, arith}
use mathlib.Core.Logic.{⊎_elim, inl, inr}
use Rattle.ranges.specs.Steps.{in_order}
use Rattle.ranges.proofs.Bends.{behind_next, bend_more, bend_fails, bend_ends, steps_short, steps_bend, broken, in_step}
use Rattle.ranges.proofs.steps.first_bend.Goals as goal

pub returns-then-none_bends : goal.returns-then-none_bends
returns-then-none_bends c = sym (steps_bend _ _ (c.none_bends.ensures c.if-none_bends.true))

pub returns-in_default : goal.returns-in_default
returns-in_default c = sym (steps_bend _ _ (steps_short _ _ c.in_default.len_below))

pub returns-then-rising-y : goal.returns-then-rising-y
returns-then-rising-y c =
    let l = c.loop-i in
    let e = c.in-Some.ensures.steps in
    let bent = bend_fails _ _ l.invariant.0 _ _ _ _ e.0.0 e.0.1 (in_order c.args.rising) (broken c.args.rising _ _ c.if-rising-y.true) in
    omega (arith, l.invariant.2, bent, e.1)

pub loop-i-preserved : goal.loop-i-preserved
loop-i-preserved c =
    let l = c.loop-i in
    let e = c.in-Some.ensures.steps in
    let h = l.invariant.0 in
    let straight = bend_more _ _ h _ _ _ _ e.0.0 e.0.1 (in_order c.args.rising) (in_step c.args.rising _ _ c.if-rising-y.false) in (
      (_, behind_next _ _ h _ _ _ _ e.0.0 e.0.1),
      omega (arith, l.invariant.1, ap length e.0.0, e.2),
      omega (arith, l.invariant.2, straight, e.2),
    )

pub returns : goal.returns
returns c =
    let l = c.loop-i in
    let over = ⊎_elim (λ w. inl w.1.0) (λ w. inr w.1.0) c.in-None.ensures.steps.0 in
    omega (arith, l.invariant.1, l.invariant.2, bend_ends _ _ l.invariant.0 over (in_order c.args.rising))
