-- `open_all` meets its contract: product after product is written. Assumes nothing.
use mathlib.Core.Path.{refl, sym, ◌∙◌}
use native.Mathlib.Omega.{arith}
use lib.ListN.{length-set}
use Rattle.level_round.proofs.Words.{one_filled, all_filled}
use Rattle.level_round.proofs.Messages.open_all.Goals as goal

pub fill_rows-requires : goal.fill_rows-requires
fill_rows-requires c = (c.args.self.now.sized.0, c.args.self.now.sized.1, refl)

pub loop-j-init : goal.loop-j-init
loop-j-init c = (c.requires, refl)

pub slice_bounds-open_by_rows-end : goal.slice_bounds-open_by_rows-end
slice_bounds-open_by_rows-end c = sym c.fill_rows.ensures.long

pub open_by_rows-requires : goal.open_by_rows-requires
open_by_rows-requires c =
    (omega (arith, c.requires, c.loop-j-test.true), c.fill_rows.ensures)

pub loop-j-preserved : goal.loop-j-preserved
loop-j-preserved c =
    let l = c.loop-j in
    let v = c.open_by_rows.result in (
      length-set l.products l.j v ∙ l.invariant.0,
      one_filled _ _ _ _ l.products l.j v (omega arith) l.invariant.0 c.open_by_rows.ensures l.invariant.1,
    )

pub returns : goal.returns
returns c = let l = c.loop-j in all_filled _ _ _ _ l.products l.j (omega arith) l.invariant.0 l.invariant.1
