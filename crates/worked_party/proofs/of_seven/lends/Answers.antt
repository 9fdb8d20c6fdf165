-- `lends` lends parts that are there. Assumes nothing.
use Rattle.std.proofs.Common.{sym, length-take-le, rules}
use Rattle.worked_party.proofs.of_seven.lends.Goals as goal

pub slice_bounds-say-end-3 : goal.slice_bounds-say-end-3
slice_bounds-say-end-3 c = sym (length-take-le _ _ (search rules))
