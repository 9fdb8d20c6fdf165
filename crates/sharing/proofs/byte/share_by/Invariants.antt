-- What holds at each turn of the loop of `share_by`. Assumes nothing.
use Rattle.fields.specs.Byte.{bytes}
use Rattle.sharing.proofs.Horner.{Passed}
use Rattle.sharing.proofs.byte.share_by.Given as goal

abbrev pub invariant-loop-coin : goal.invariant-loop-coin
invariant-loop-coin l = Passed bytes l.row.byte l.coins l.coin-iterator.iter.rest.now l.sum
