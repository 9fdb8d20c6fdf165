-- What holds at each turn of the loops of `descend`. Assumes nothing.
use Rattle.lowering.proofs.Steps.{Stepped}
use Rattle.lowering.proofs.words.descend.Given as goal

abbrev pub invariant-loop-i : goal.invariant-loop-i
invariant-loop-i g l = Stepped g.L.Lines.line l.t l.points l.initial.words l.words l.i
