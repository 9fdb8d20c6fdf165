-- What holds at each turn of the loops of `gather`. Assumes nothing.
use Rattle.std.proofs.Common.{◌≡◌, ◌+◌, ◌≤◌, ◌++◌, length, take}
use Rattle.ranges.specs.Lists.{from}
use Rattle.presence.specs.Presence.{of_present}
use Rattle.presence.proofs.gathering.gather.Given as goal

abbrev pub invariant-loop-i : goal.invariant-loop-i
invariant-loop-i l =
    let left = l.i-iterator.iter.a.rest.now in
    let said = l.i-iterator.iter.b.rest.now in
    let i = l.i-iterator.count in
    (length l.present ≡ i + length left) × (length said ≡ length left) × (l.count ≤ i) × (length l.parties ≡ 9) × (length l.chosen ≡ 9)
    × (of_present l.present (from 1 (length l.present)) ≡ take l.count l.parties ++ of_present left (from (i + 1) (length left)))
    × (of_present l.present l.words ≡ take l.count l.chosen ++ of_present left said)
