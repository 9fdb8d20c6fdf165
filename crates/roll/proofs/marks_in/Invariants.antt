-- What holds at each turn of the loops of `marks_in`. Assumes nothing.
use Rattle.std.proofs.Common.{◌≡◌, ◌*◌, ◌≤◌}
use Rattle.ranges.specs.Lists.{count}
use Rattle.roll.specs.Marks.{marked}
use Rattle.roll.proofs.marks_in.Given as goal

abbrev pub invariant-loop-i : goal.invariant-loop-i
invariant-loop-i l =
    (l.i ≤ 16) × (l.sum ≤ 64 * l.i) × (l.sum ≡ count (marked (record { words = l.words })) (64 * l.i))
