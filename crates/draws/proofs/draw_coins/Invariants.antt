-- What holds at each turn of the loops of `draw_coins`. Assumes nothing.
use Prim.Native.Nat.{◌^◌}
use lib.ListN.{length}
use Rattle.draws.specs.Draws.{next_coin}
use Rattle.draws.proofs.Drawn.{Filling}
use Rattle.draws.proofs.draw_coins.Given as goal

abbrev pub invariant-loop-coin : goal.invariant-loop-coin
invariant-loop-coin l = Filling next_coin (2 ^ 61) (length l.initial.coins) l.state l.coins l.coin-index l.last
