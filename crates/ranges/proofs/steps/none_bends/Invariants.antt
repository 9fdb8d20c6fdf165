-- What holds at each turn of the loop of `none_bends`. Assumes nothing.
use Rattle.std.proofs.Common.{◌≡◌, ◌-◌, ◌^◌, ◌<◌, ◌≤◌, true, drop}
use Rattle.ranges.specs.Steps.{steps, in_order}
use Rattle.ranges.proofs.steps.none_bends.Given as goal

abbrev pub invariant-loop-i : goal.invariant-loop-i
invariant-loop-i l =
    let test = in_order l.rising in
    (1 ≤ l.i) × (l.seen < 2 ^ 63 → steps test (drop (l.i - 1) l.words) ≡ true → steps test l.words ≡ true)
