-- What holds at each turn of the loop of `share_amount`. Assumes nothing.
use Rattle.fields.specs.Amount.{amounts}
use Rattle.sharing.proofs.Horner.{Passed}
use Rattle.sharing.proofs.amount.share_amount.Given as goal

abbrev pub invariant-loop-coin : goal.invariant-loop-coin
invariant-loop-coin l = Passed amounts l.point l.coins l.coin-iterator.iter.rest.now l.sum.0
