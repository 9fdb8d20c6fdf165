-- `add_bid` lends a part that is there. Assumes nothing.
use mathlib.Core.Path.{sym}
use lib.Seq.{length-take-le}
use borrow.Author.Rules.{rules}
use Rattle.worked_sessions.proofs.of_sessions.add_bid.Goals as goal

pub slice_bounds-add_all-end-2 : goal.slice_bounds-add_all-end-2
slice_bounds-add_all-end-2 c = sym (length-take-le _ _ (search rules))
