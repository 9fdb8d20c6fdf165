-- `gather` meets its contract: of the parties so far those who were present stand in the two lists. Assumes nothing.
use Rattle.std.proofs.Common.{◌<◌, length, ap, ◌∙◌, arith, length-set}
use Rattle.presence.proofs.Loops.{chosen_next, not_chosen, number_next}
use Rattle.presence.proofs.gathering.gather.Goals as goal

pub loop-i-preserved-then-mark-eq1 : goal.loop-i-preserved-then-mark-eq1
loop-i-preserved-then-mark-eq1 c =
    let l = c.loop-i in
    let v = l.invariant in
    let e = c.in-Some.ensures.steps in
    let m = c.if-mark-eq1.true in
    let long : l.count < 9 = omega (arith, v.0, v.2, ap length e.0.0, c.requires) in
    let number = number_next _ _ _ _ _ _ e.0.0 e.1 e.2 in (
      omega (arith, v.0, ap length e.0.0, e.2),
      omega (arith, v.1, ap length e.0.0, ap length e.0.1),
      omega (arith, v.2, e.2),
      simp length-set v.3,
      simp length-set v.4,
      v.5 ∙ chosen_next _ _ _ e.0.0 _ _ _ number l.parties l.count (omega (arith, long, v.3)) m,
      v.6 ∙ chosen_next _ _ _ e.0.0 _ _ _ e.0.1 l.chosen l.count (omega (arith, long, v.4)) m,
    )

pub loop-i-preserved : goal.loop-i-preserved
loop-i-preserved c =
    let l = c.loop-i in
    let v = l.invariant in
    let e = c.in-Some.ensures.steps in
    let m = c.if-mark-eq1.false in
    let long : l.count < 9 = omega (arith, v.0, v.2, ap length e.0.0, c.requires) in
    let number = number_next _ _ _ _ _ _ e.0.0 e.1 e.2 in (
      omega (arith, v.0, ap length e.0.0, e.2),
      omega (arith, v.1, ap length e.0.0, ap length e.0.1),
      omega (arith, v.2, e.2),
      simp length-set v.3,
      simp length-set v.4,
      v.5 ∙ not_chosen _ _ _ e.0.0 _ _ _ number l.parties l.count (omega (arith, long, v.3)) m,
      v.6 ∙ not_chosen _ _ _ e.0.0 _ _ _ e.0.1 l.chosen l.count (omega (arith, long, v.4)) m,
    )
