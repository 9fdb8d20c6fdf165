-- What holds at each turn of the loop of `write_lines`. Assumes nothing.
use mathlib.Core.Path.{◌≡◌}
use mathlib.Core.Bool.{true}
use mathlib.Core.List.{◌++◌}
use Prim.Native.Nat.{◌+◌, ◌*◌}
use lib.ListN.{length, take, drop}
use Rattle.settlement_page.specs.Page.{lines, layout, all_in_range}
use Rattle.settlement.proofs.writing.write_lines.Given as goal

abbrev pub invariant-loop-pair : goal.invariant-loop-pair
invariant-loop-pair l =
    (all_in_range (drop (2 * l.pair) l.entries) ≡ true)
    × (l.at + length (lines l.price l.pair (drop (2 * l.pair) l.entries)) ≡ length l.page)
    × (layout l.price l.entries ≡ take l.at l.page ++ lines l.price l.pair (drop (2 * l.pair) l.entries))
