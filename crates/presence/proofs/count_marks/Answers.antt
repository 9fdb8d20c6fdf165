-- `count_marks` meets its contract: so far all are marks, and those that are 1 are counted. Assumes nothing.
use Rattle.std.proofs.Common.{◌≡◌, ℕ, ◌+◌, Bool, true, cond, List, [], drop, Some, None, sym, ap, ◌∙◌, arith, drop_of_length-le, le-leb}
use borrow.Author.Tests.{lt-leb}
use Rattle.ranges.specs.Lists.{every}
use Rattle.ranges.proofs.Loops.{every_more, every_fails}
use Rattle.presence.specs.Presence.{are_marks, how_many}
use Rattle.presence.proofs.Loops.{counted}
use Rattle.presence.proofs.count_marks.Goals as goal

pub returns-then-mark-gt1 : goal.returns-then-mark-gt1
returns-then-mark-gt1 c =
    let odd = c.loop-mark.invariant.1 ∙ every_fails _ _ _ c.loop-mark-test.true (lt-leb _ _ c.if-mark-gt1.true) in
    sym (ap (λ (b : Bool). cond b (Some (how_many c.args.present.now)) None) odd)

pub loop-mark-preserved : goal.loop-mark-preserved
loop-mark-preserved c =
    let l = c.loop-mark in
    let marks = c.args.present.now in
    let h = c.loop-mark-test.true in (
      omega (arith, l.invariant.0, c.if-mark-gt1.false),
      l.invariant.1 ∙ every_more _ _ _ h (le-leb _ _ c.if-mark-gt1.false),
      omega (arith, l.invariant.2, counted marks l.mark-index h c.if-mark-gt1.false),
    )

pub returns : goal.returns
unfolding every
returns c =
    let l = c.loop-mark in
    let marks = c.args.present.now in
    let none : drop l.mark-index marks ≡ [] = drop_of_length-le _ c.loop-mark-test.false in
    let all : are_marks marks ≡ true = l.invariant.1 ∙ ap are_marks none in
    let count : l.count ≡ how_many marks = omega (arith, l.invariant.2 ∙ ap (λ (ms : List ℕ). l.count + how_many ms) none) in
    ap Some count ∙ sym (ap (λ (b : Bool). cond b (Some (how_many marks)) None) all)
