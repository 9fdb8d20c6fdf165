-- `width` meets its contract. Assumes nothing.
use mathlib.Core.Path.{sym, ap, ◌∙◌}
use mathlib.Core.Bool.{Bool, cond}
use native.Mathlib.Omega.{arith}
use lib.Dec.{eqb, leb}
use borrow.Author.Tests.{leb-true}
use Prim.Native.Nat.{◌/◌, ◌^◌}
use Rattle.ways.specs.Way.{way_of}
use Rattle.ways.proofs.Laws.{width_by, and-true}
use Rattle.ways.proofs.width.Goals as goal

pub overflow_shr-result : goal.overflow_shr-result
overflow_shr-result c =
    let a = c.args in let e = and-true (leb 2 a.round) (leb a.round 7) (and-true (eqb a.last 7) _ c.if-last-round.true).1 in omega (arith, leb-true c.args.round 7 e.1)

pub returns-then-last-round : goal.returns-then-last-round
unfolding way_of
returns-then-last-round c =
    let a = c.args in sym (width_by (eqb a.last 7) a.round ∙ ap (λ (b : Bool). cond b (128 / 2 ^ a.round) 1) c.if-last-round.true)

pub returns-else-last-round : goal.returns-else-last-round
unfolding way_of
returns-else-last-round c =
    let a = c.args in sym (width_by (eqb a.last 7) a.round ∙ ap (λ (b : Bool). cond b (128 / 2 ^ a.round) 1) c.if-last-round.false)
