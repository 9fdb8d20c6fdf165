-- What holds at each turn of the loop of `line_count`. Assumes nothing.
use mathlib.Core.Path.{◌≡◌}
use mathlib.Core.Bool.{true}
use Prim.Native.Nat.{ℕ, ◌+◌, ◌*◌, ◌≤◌}
use lib.ListN.{length, drop}
use Rattle.ranges.specs.Sizes.{highest_price}
use Rattle.settlement_page.specs.Page.{lines, layout, all_in_range}
use Rattle.settlement.proofs.entries.line_count.Given as goal

abbrev pub invariant-loop-wanted : goal.invariant-loop-wanted
invariant-loop-wanted l =
    let i = l.wanted-index in
    (l.count ≤ i) × (all_in_range (drop (2 * i) l.entries) ≡ true)
    × ((price : ℕ) → price ≤ highest_price → length (layout price l.entries) ≡ 61 * l.count + length (lines price i (drop (2 * i) l.entries)))
