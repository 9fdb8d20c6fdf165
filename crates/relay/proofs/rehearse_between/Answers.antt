-- `rehearse_between` is safe and ends. Assumes nothing.
use mathlib.Core.Path.{sym}
use Prim.Native.Nat.{ℕ}
use lib.ListN.{length-replicate}
use Rattle.relay.proofs.rehearse_between.Goals as goal

-- by the law: `search` would count the four million bytes one by one
pub slice_bounds-read_full-end : goal.slice_bounds-read_full-end
slice_bounds-read_full-end c = sym (length-replicate {A = ℕ} 4194304 0)

pub slice_bounds-input-end : goal.slice_bounds-input-end
slice_bounds-input-end c = c.read_full-got.ensures.0

pub slice_bounds-rehearse_read-end : goal.slice_bounds-rehearse_read-end
slice_bounds-rehearse_read-end c = c.read_full-got.ensures.1
