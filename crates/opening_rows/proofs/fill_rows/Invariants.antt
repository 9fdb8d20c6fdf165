-- What holds at each turn of the loops of `fill_rows`. Assumes nothing.
use Rattle.opening_rows.specs.Rows.{RowsTo}
use Rattle.opening_rows.proofs.fill_rows.Given as goal

abbrev pub invariant-loop-i : goal.invariant-loop-i
invariant-loop-i l =
    RowsTo l.i l.n l.rows
