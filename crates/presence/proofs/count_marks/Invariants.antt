-- What holds at each turn of the loops of `count_marks`. Assumes nothing.
use Rattle.std.proofs.Common.{◌≡◌, ◌+◌, ◌≤◌, drop}
use Rattle.presence.specs.Presence.{are_marks, how_many}
use Rattle.presence.proofs.count_marks.Given as goal

abbrev pub invariant-loop-mark : goal.invariant-loop-mark
invariant-loop-mark l =
    let left = drop l.mark-index l.present in
    (l.count ≤ l.mark-index) × (are_marks l.present ≡ are_marks left) × (how_many l.present ≡ l.count + how_many left)
