-- What holds at each turn of the loops of `first_bend`: later words are those that are left but for one. Assumes nothing.
use Rattle.std.proofs.Common.{◌≡◌, ◌+◌, length}
use Rattle.ranges.specs.Steps.{bend, in_order}
use Rattle.ranges.proofs.Bends.{Behind}
use Rattle.ranges.proofs.steps.first_bend.Given as goal

abbrev pub invariant-loop-i : goal.invariant-loop-i
invariant-loop-i l =
    let left = l.i-iterator.iter.a.rest.now in
    let test = in_order l.rising in
    let i = l.i-iterator.count in
    Behind left l.i-iterator.iter.b.rest.now × (length l.words ≡ i + length left) × (bend test l.words ≡ i + bend test left)
