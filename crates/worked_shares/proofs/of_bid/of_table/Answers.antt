-- `of_table` lends parts that are there. Assumes nothing.
use Rattle.std.proofs.Common.{sym, length-take-le, rules}
use Rattle.worked_shares.proofs.of_bid.of_table.Goals as goal

pub slice_bounds-call-end : goal.slice_bounds-call-end
slice_bounds-call-end c = sym (length-take-le _ _ (search rules))

pub slice_bounds-call-end-2 : goal.slice_bounds-call-end-2
slice_bounds-call-end-2 c = sym (length-take-le _ _ (search rules))
