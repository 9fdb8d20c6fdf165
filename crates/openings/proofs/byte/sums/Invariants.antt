-- What holds at each turn of the loops of `sums`. Assumes nothing.
use mathlib.Core.Path.{◌≡◌}
use Rattle.fields.specs.Byte.{xor}
use Rattle.openings.proofs.Parts.{lows, highs}
use Rattle.openings.proofs.Weighted.{left}
use Rattle.openings.proofs.byte.sums.Given as goal

abbrev pub invariant-loop-i : goal.invariant-loop-i
invariant-loop-i l =
    (xor l.low (left l.n (lows l.words) l.i) ≡ left l.n (lows l.words) 0)
    × (xor l.high (left l.n (highs l.words) l.i) ≡ left l.n (highs l.words) 0)
