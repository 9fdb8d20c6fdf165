-- `rehearse_read` is safe and ends. Assumes nothing.
use mathlib.Core.Path.{sym}
use lib.Seq.{length-take-le}
use native.Mathlib.Omega.{arith}
use Rattle.listing.proofs.Writing.{length_wrote}
use Rattle.relay.proofs.rehearse_read.Goals as goal

pub slice_bounds-out-end : goal.slice_bounds-out-end
slice_bounds-out-end c = omega (arith, length_wrote c.rehearse-long.ensures, c.rehearse-long.ensures.inside)

pub slice_bounds-write_all-end : goal.slice_bounds-write_all-end
slice_bounds-write_all-end c =
    sym (length-take-le _ _ (omega (arith, length_wrote c.rehearse-long.ensures, c.rehearse-long.ensures.inside)))
