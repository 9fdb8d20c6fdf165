-- `says` lends parts that are there. Assumes nothing.
use Rattle.std.proofs.Common.{sym, length-take-le, rules}
use Rattle.worked_party.proofs.of_party.says.Goals as goal

pub slice_bounds-said_code-end : goal.slice_bounds-said_code-end
slice_bounds-said_code-end c = sym (length-take-le _ _ (search rules))

pub slice_bounds-said_code-end-2 : goal.slice_bounds-said_code-end-2
slice_bounds-said_code-end-2 c = sym (length-take-le _ _ (search rules))
