-- What holds at each turn of the loop of `read_lines`. Assumes nothing.
use mathlib.Core.Path.{◌≡◌}
use mathlib.Core.List.{◌++◌}
use Prim.Native.Nat.{◌-◌, ◌*◌, ◌≤◌}
use lib.ListN.{length, take, drop}
use Rattle.settlement.specs.Read.{shown, entries_on, laid_out}
use Rattle.settlement.proofs.Back.{laid}
use Rattle.settlement.proofs.reading.read_lines.Given as goal

abbrev pub invariant-loop-pair : goal.invariant-loop-pair
invariant-loop-pair l =
    (l.at ≤ length l.page) × (laid_out l.price l.page ≡ laid l.price (2000 - l.pair) l.pair (drop l.at l.page))
    × (entries_on l.page ≡ take (2 * l.pair) l.shown ++ shown (2000 - l.pair) l.pair (drop l.at l.page))
