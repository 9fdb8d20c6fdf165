-- `descend` meets its contract: after i steps what is left of the words comes to what all of them come to. Assumes nothing.
use native.Mathlib.Omega.{arith}
use Rattle.lowering.proofs.Steps.{step, last}
use Rattle.lowering.proofs.words.descend.Goals as goal

pub loop-i-preserved : goal.loop-i-preserved
loop-i-preserved g c =
    let l = c.loop-i in
    let a = c.args in
    step g.L.Lines.line a.t a.points.now a.words.now l.words l.i l.invariant c.requires.1 (omega arith) _ c.loop-i-test.true c.lower.auto.words c.lower.ensures

pub returns : goal.returns
returns g c =
    let l = c.loop-i in
    let a = c.args in
    last g.L.Lines.line a.t a.points.now a.words.now l.words l.i l.invariant (omega arith)
