-- What holds at each turn of the loop of `read_line`. Assumes nothing.
use mathlib.Core.Path.{◌≡◌}
use Prim.Native.Nat.{◌+◌, ◌≤◌, max}
use lib.ListN.{length, drop}
use Rattle.lines.specs.Lines.{line_after, first_line, line_length}
use Rattle.lines.proofs.line.read_line.Given as goal

abbrev pub invariant-loop-i : goal.invariant-loop-i
invariant-loop-i l =
    (line_after l.part (drop l.i l.input) ≡ first_line (drop l.at l.input))
    × (l.i + line_length (drop l.i l.input) ≡ l.at + line_length (drop l.at l.input))
    × (l.i ≤ max l.at (length l.input))
