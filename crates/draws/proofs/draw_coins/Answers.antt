-- `draw_coins` meets its contract: i places are filled, and the others are still to be drawn. Assumes nothing.
use Prim.Native.Nat.{◌^◌}
use native.Mathlib.Omega.{arith}
use Rattle.draws.specs.Draws.{next_coin}
use Rattle.draws.proofs.Drawn.{filling_start, filling_more, filling_end}
use borrow.Author.Rules.{rules}
use Rattle.draws.proofs.draw_coins.Goals as goal

pub loop-coin-init : goal.loop-coin-init
loop-coin-init c = filling_start next_coin (2 ^ 61) _ _

pub loop-coin-preserved : goal.loop-coin-preserved
loop-coin-preserved c =
    let l = c.loop-coin in
    filling_more next_coin (2 ^ 61) _ _ l.coins l.coin-index l.last c.next_coin-last.result l.invariant (omega arith) c.next_coin-last.ensures

pub returns : goal.returns
returns c =
    let l = c.loop-coin in
    filling_end next_coin (2 ^ 61) _ _ l.coins l.coin-index l.last l.invariant (search rules)
