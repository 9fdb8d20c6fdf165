-- `settle_between` is safe and ends. Assumes nothing.
use mathlib.Core.Path.{sym}
use Prim.Native.Nat.{ℕ}
use lib.ListN.{length-replicate}
use lib.Seq.{length-take-le}
use native.Mathlib.Omega.{arith}
use Rattle.listing.proofs.Writing.{length_wrote}
use Rattle.relay.proofs.settle_between.Goals as goal

-- by the law: `search` would count the four million bytes one by one
pub slice_bounds-read_full-end : goal.slice_bounds-read_full-end
slice_bounds-read_full-end c = sym (length-replicate {A = ℕ} 4194304 0)

pub slice_bounds-input-end : goal.slice_bounds-input-end
slice_bounds-input-end c = c.read_full-got.ensures.0

pub slice_bounds-settle-end : goal.slice_bounds-settle-end
slice_bounds-settle-end c = c.read_full-got.ensures.1

pub slice_bounds-out-end : goal.slice_bounds-out-end
slice_bounds-out-end c = omega (arith, length_wrote c.settle-long.ensures, c.settle-long.ensures.inside)

pub slice_bounds-write_all-end : goal.slice_bounds-write_all-end
slice_bounds-write_all-end c = sym (length-take-le _ _ (omega (arith, length_wrote c.settle-long.ensures, c.settle-long.ensures.inside)))
