-- What holds at each turn of the loop of `read_numbers`. Assumes nothing.
use mathlib.Core.Path.{◌≡◌}
use Prim.Native.Nat.{◌+◌}
use lib.ListN.{take, drop}
use Rattle.lines.specs.Lines.{numbers, bytes_of, formed as formed-of}
use Rattle.lines.proofs.numbers.read_numbers.Given as goal

abbrev pub invariant-loop-i : goal.invariant-loop-i
invariant-loop-i l =
    (take l.i l.into ≡ numbers l.i (drop l.at l.input))
    × (l.next ≡ l.at + bytes_of l.i (drop l.at l.input)) × (l.formed ≡ formed-of l.i (drop l.at l.input))
