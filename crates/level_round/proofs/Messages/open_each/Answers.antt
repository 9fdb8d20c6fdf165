-- `open_each` meets its contract: product after product is written. Assumes nothing.
use mathlib.Core.Path.{refl, ◌∙◌}
use native.Mathlib.Omega.{arith}
use lib.ListN.{length-set}
use Rattle.level_round.proofs.Words.{one_filled, all_filled}
use Rattle.level_round.proofs.Messages.open_each.Goals as goal

pub loop-j-init : goal.loop-j-init
loop-j-init c = (c.requires, refl)

pub open_column-requires : goal.open_column-requires
open_column-requires c =
    omega (arith, c.requires, c.loop-j-test.true)

pub loop-j-preserved : goal.loop-j-preserved
loop-j-preserved c =
    let l = c.loop-j in
    let v = c.open_column.result in (
      length-set l.products l.j v ∙ l.invariant.0,
      one_filled _ _ _ _ l.products l.j v (omega arith) l.invariant.0 c.open_column.ensures l.invariant.1,
    )

pub returns : goal.returns
returns c = let l = c.loop-j in all_filled _ _ _ _ l.products l.j (omega arith) l.invariant.0 l.invariant.1
