-- What holds at each turn of the loop of `put_number`. Assumes nothing.
use mathlib.Core.Path.{◌≡◌}
use mathlib.Core.List.{◌++◌}
use lib.ListN.{length, drop}
use Rattle.decimal.specs.Decimal.{decimal}
use Rattle.settlement_page.specs.Page.{right}
use Rattle.settlement_page.proofs.Aligned.{before_last}
use Rattle.settlement_page.proofs.columns.put_number.Given as goal

abbrev pub invariant-loop-i : goal.invariant-loop-i
invariant-loop-i l =
    right (length l.columns) (decimal l.n) ≡ before_last l.i l.rest ++ drop l.i l.columns
