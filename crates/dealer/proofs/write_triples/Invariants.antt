-- What holds at each turn of the loop of `write_triples`. Assumes nothing.
use Rattle.std.proofs.Common.{◌≡◌, ◌+◌, ◌-◌, ◌*◌, ◌++◌, take, drop}
use Rattle.dealer.specs.Deal.{triples}
use Rattle.dealer.proofs.write_triples.Given as goal

abbrev pub invariant-loop-i : goal.invariant-loop-i
invariant-loop-i l = take (3 * l.i) l.shares ++ triples l.t l.row.byte (l.m - l.i) (drop (l.i * (2 + 3 * l.t)) l.drawn) ≡ triples l.t l.row.byte l.m l.drawn
