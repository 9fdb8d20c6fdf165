-- `put_last` meets its contract. Assumes nothing.
use mathlib.Core.Path.{sym}
use Prim.Native.Nat.{◌-◌}
use native.Mathlib.Omega.{arith}
use lib.ListN.{length}
use lib.Seq.{length-take-le}
use Rattle.settlement_page.proofs.Aligned.{tenths_room, tenths_stored}
use Rattle.settlement_page.proofs.columns.put_last.Goals as goal

pub slice_bounds-put_number-end-2 : goal.slice_bounds-put_number-end-2
slice_bounds-put_number-end-2 c = sym (length-take-le _ _ (omega arith))

pub put_number-requires : goal.put_number-requires
put_number-requires c =
    let size = length-take-le (length c.args.columns.now - 2) c.args.columns.now (omega arith) in
    (omega (arith, size, c.requires.0), rw size c.requires.1)

pub bounds-columns-whole-2 : goal.bounds-columns-whole-2
bounds-columns-whole-2 c =
    tenths_room c.args.columns.now _ c.args.mark c.args.n c.requires.0 c.requires.1 c.put_number.ensures

pub returns : goal.returns
returns c =
    tenths_stored c.args.columns.now _ c.args.mark c.args.n c.requires.0 c.requires.1 c.put_number.ensures _ c.last_digit.ensures
