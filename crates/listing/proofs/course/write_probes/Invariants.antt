-- What holds at each turn of the loop of `write_probes`. Assumes nothing.
use Prim.Native.Nat.{◌*◌, ◌≤◌}
use Rattle.listing.specs.Text.{Wrote}
use Rattle.listing.specs.Lines.{probe_lines, course_trail}
use Rattle.listing.proofs.course.write_probes.Given as goal

abbrev pub invariant-loop-i : goal.invariant-loop-i
invariant-loop-i l = Wrote l.initial.out 0 (probe_lines 1 (course_trail l.probe-items l.i)) l.out l.at × (l.at ≤ 83 * l.i)
