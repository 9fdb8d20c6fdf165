-- What holds at each turn of the loop of `write_bits`. Assumes nothing.
use Rattle.std.proofs.Common.{◌≡◌, ◌/◌, ◌^◌, take}
use Rattle.dealer.specs.Deal.{byte_shares, mask_bits}
use Rattle.dealer.proofs.write_bits.Given as goal

abbrev pub invariant-loop-i : goal.invariant-loop-i
invariant-loop-i l = (l.rest ≡ l.mask / 2 ^ l.i) × (take l.i l.shares ≡ take l.i (byte_shares l.t l.row.byte (mask_bits l.mask) l.drawn))
