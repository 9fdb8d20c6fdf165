-- What holds at each turn of the loops of `same`. Assumes nothing.
use Rattle.std.proofs.Common.{◌≡◌, ◌&&◌, eqb, length}
use Rattle.ranges.specs.Lists.{same}
use Rattle.ranges.proofs.lists.same.Given as goal

abbrev pub invariant-loop-x : goal.invariant-loop-x
invariant-loop-x l =
    let xs = l.x-iterator.a.rest.now in
    let ys = l.x-iterator.b.rest.now in
    (length xs ≡ length ys) × (same l.left l.right ≡ eqb l.differ 0 && same xs ys)
