-- What holds at each turn of the loop of `read_bids`. Assumes nothing.
use mathlib.Core.Path.{◌≡◌}
use Prim.Native.Nat.{◌+◌, ◌-◌, ◌*◌}
use lib.ListN.{drop}
use Rattle.lines.specs.Lines.{bytes_of}
use Rattle.sections.specs.Sections.{bids_fault}
use Rattle.sections.proofs.reading.read_bids.Given as goal

abbrev pub invariant-loop-i : goal.invariant-loop-i
invariant-loop-i l =
    (l.next ≡ l.at + bytes_of (l.i * (2 * l.k)) (drop l.at l.input))
    × (bids_fault l.k l.bids l.line (drop l.at l.input) ≡ bids_fault l.k (l.bids - l.i) (l.line + l.i * (2 * l.k)) (drop l.next l.input))
