-- What holds at each turn of the loop of `share`. Assumes nothing.
use Rattle.std.proofs.Common.{◌≡◌, ◌+◌, ◌*◌, ◌%◌, ◌^◌, ◌≤◌, ℕ, zero, suc, List, length}
use Rattle.fields.specs.Amount.{p, amounts}
use Rattle.sharing.proofs.Horner.{Passed}
use Rattle.bid.proofs.share.Given as goal

-- what the halves are at most, where i coins are left
abbrev pub most : ℕ → ℕ
most zero = 2 ^ 52
most (suc zero) = 2 ^ 47
most (suc (suc zero)) = 2 ^ 42
most (suc (suc (suc zero))) = 2 ^ 37
most (suc (suc (suc (suc i)))) = 2 ^ 32

-- the halves are those of the point times the value of the coins that were passed
pub record Halves (own : ℕ) (coins left : List ℕ) (low high : ℕ) : Type 0 where
  pub value : ℕ
  pub passed : Passed amounts own coins left value
  pub low_most : low ≤ most (length left)
  pub high_most : high ≤ most (length left)
  pub joined : (low + 2 ^ 32 * high) % p ≡ amounts.mul own value

abbrev pub invariant-loop-coin : goal.invariant-loop-coin
invariant-loop-coin l = Halves l.own l.coins l.coin-iterator.iter.rest.now l.low l.high
