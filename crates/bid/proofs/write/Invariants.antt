-- What holds at each turn of the loop of `write`. Assumes nothing.
use Rattle.std.proofs.Common.{◌≡◌, ◌*◌, take}
use Rattle.bid.specs.Split.{bid_shares}
use Rattle.bid.proofs.write.Given as goal

abbrev pub invariant-loop-i : goal.invariant-loop-i
invariant-loop-i l = (l.at ≡ l.i * l.t) × (take l.i l.shares ≡ take l.i (bid_shares l.t l.own l.table l.coins))
