-- What holds at each turn of the loops of `lower`. Assumes nothing.
use mathlib.Core.Path.{◌≡◌}
use lib.ListN.{take, drop}
use Rattle.lowering.specs.Lines.{lowered_by}
use Rattle.lowering.proofs.words.lower.Given as goal

abbrev pub invariant-loop-i : goal.invariant-loop-i
invariant-loop-i g l =
    (drop l.i l.words ≡ drop l.i l.initial.words)
    × (take l.i l.words ≡ take l.i (lowered_by g.L.Lines.line l.point l.word l.points l.initial.words))
