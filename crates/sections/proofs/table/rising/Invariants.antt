-- What holds at each turn of the loop of `rising`. Assumes nothing.
use mathlib.Core.Path.{◌≡◌}
use Prim.Native.Nat.{◌+◌}
use lib.ListN.{drop}
use Rattle.sections.specs.Sections.{rising}
use Rattle.sections.proofs.table.rising.Given as goal

abbrev pub invariant-loop-i : goal.invariant-loop-i
invariant-loop-i l = rising 0 l.prices ≡ l.i + rising l.last (drop l.i l.prices)
