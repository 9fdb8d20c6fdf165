-- `enter_bids` meets its contract. Assumes nothing.
use mathlib.Core.Path.{sym}
use borrow.Author.Rules.{rules}
use native.Mathlib.Omega.{arith}
use lib.Seq.{length-take-le}
use Rattle.entering.proofs.enter_bids.Goals as goal

pub slice_bounds-enter_all-end : goal.slice_bounds-enter_all-end
slice_bounds-enter_all-end c =
    sym (length-take-le _ _ (search rules))

pub enter_all-requires : goal.enter_all-requires
enter_all-requires c =
    (omega arith, omega arith, omega arith, length-take-le _ _ (search rules), c.requires.3)
