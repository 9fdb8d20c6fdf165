-- `next_coin` meets its contract. Assumes nothing.
use mathlib.Core.Path.{◌∙◌}
use Rattle.draws.proofs.Drawn.{next_coin_skips, next_coin_takes}
use Rattle.draws.proofs.next_coin.Goals as goal

pub returns-then-drawn-eq-P : goal.returns-then-drawn-eq-P
returns-then-drawn-eq-P c = c.next.ensures ∙ next_coin_skips _ _ c.next-drawn.ensures c.if-drawn-eq-P.true

pub returns : goal.returns
returns c = next_coin_takes _ _ c.next-drawn.ensures c.if-drawn-eq-P.false
