-- What holds at each turn of the loop of `number`. Assumes nothing.
use mathlib.Core.Path.{◌≡◌}
use Prim.Native.Nat.{◌^◌, ◌<◌}
use lib.ListN.{drop}
use Rattle.settlement_page.specs.Line.{number_after}
use Rattle.settlement_page.proofs.columns.number.Given as goal

abbrev pub invariant-loop-b : goal.invariant-loop-b
invariant-loop-b l =
    (l.n < 16 ^ l.b-index) × (number_after 0 l.columns ≡ number_after l.n (drop l.b-index l.columns))
