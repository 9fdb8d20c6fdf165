-- What holds at each turn of the loops of `draw_bytes`. Assumes nothing.
use lib.ListN.{length}
use Rattle.draws.specs.Draws.{next}
use Rattle.draws.proofs.Drawn.{Filling}
use Rattle.draws.proofs.draw_bytes.Given as goal

abbrev pub invariant-loop-byte : goal.invariant-loop-byte
invariant-loop-byte l = Filling next 256 (length l.initial.bytes) l.state l.bytes l.byte-index l.last
