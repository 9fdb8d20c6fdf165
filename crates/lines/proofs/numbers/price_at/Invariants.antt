-- What holds at each turn of the loop of `price_at`. Assumes nothing.
use mathlib.Core.Path.{◌≡◌}
use Prim.Native.Nat.{◌+◌}
use lib.ListN.{drop}
use Rattle.lines.specs.Lines.{bytes_of}
use Rattle.lines.proofs.numbers.price_at.Given as goal

abbrev pub invariant-loop : goal.invariant-loop
invariant-loop l = l.next ≡ l.at + bytes_of l.counter (drop l.at l.input)
