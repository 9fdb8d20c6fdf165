-- What holds at each turn of the loop of `all_in_range`. Assumes nothing.
use mathlib.Core.Path.{◌≡◌}
use Prim.Native.Nat.{◌*◌}
use lib.ListN.{drop}
use Rattle.settlement_page.specs.Page.{all_in_range}
use Rattle.settlement.proofs.entries.all_in_range.Given as goal

abbrev pub invariant-loop-wanted : goal.invariant-loop-wanted
invariant-loop-wanted l = all_in_range l.entries ≡ all_in_range (drop (2 * l.wanted-index) l.entries)
