-- `draw_bytes` meets its contract: i places are filled, and the others are still to be drawn. Assumes nothing.
use native.Mathlib.Omega.{arith}
use Rattle.draws.specs.Draws.{next}
use Rattle.draws.proofs.Drawn.{filling_start, filling_more, filling_end}
use borrow.Author.Rules.{rules}
use Rattle.draws.proofs.draw_bytes.Goals as goal

pub loop-byte-init : goal.loop-byte-init
loop-byte-init c = filling_start next 256 _ _

pub loop-byte-preserved : goal.loop-byte-preserved
loop-byte-preserved c =
    let l = c.loop-byte in
    filling_more next 256 _ _ l.bytes l.byte-index l.last c.next-last.result l.invariant (omega arith) c.next-last.ensures

pub returns : goal.returns
returns c =
    let l = c.loop-byte in
    filling_end next 256 _ _ l.bytes l.byte-index l.last l.invariant (search rules)
