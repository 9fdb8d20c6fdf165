-- `lower` meets its contract: the words before i are lowered, the others are as they were. Assumes nothing.
use mathlib.Core.Path.{◌≡◌, sym, ap, ◌∙◌}
use Prim.Native.Nat.{◌<◌}
use native.Mathlib.Omega.{arith}
use lib.ListN.{length, get_or}
use lib.Seq.{take_all}
use Rattle.ranges.proofs.Loops.{fill, fill_past, same_at}
use Rattle.lowering.proofs.Lowering.{length_lowered_by, drawn_at, rising_at}
use Rattle.lowering.proofs.words.lower.Goals as goal

pub at_zero-requires : goal.at_zero-requires
at_zero-requires g c =
    rising_at c.args.point c.args.points.now c.loop-i.i c.requires.0 (omega arith)

pub loop-i-preserved : goal.loop-i-preserved
loop-i-preserved g c =
    let l = c.loop-i in
    let a = c.args in
    let line = g.L.Lines.line in
    let h : l.i < length a.words.now = omega arith in
    let k : l.i < length a.points.now = omega arith in
    let value : c.at_zero.result ≡ line a.point a.word (get_or a.points.now l.i 0) (get_or a.words.now l.i 0) =
    c.at_zero.ensures ∙ ap (line a.point a.word (get_or a.points.now l.i 0)) (same_at l.words a.words.now l.i l.invariant.0) in (
      fill_past l.words a.words.now l.i c.at_zero.result l.invariant.0,
      fill l.words _ l.i c.at_zero.result (omega arith) (omega (arith, k, length_lowered_by line a.point a.word a.points.now a.words.now c.requires.1))
          (value ∙ sym (drawn_at line a.point a.word a.points.now a.words.now l.i k h)) l.invariant.1,
    )

pub returns : goal.returns
returns g c =
    let l = c.loop-i in
    let a = c.args in
    let many = length_lowered_by g.L.Lines.line a.point a.word a.points.now a.words.now c.requires.1 in
    sym (take_all l.i l.words (omega arith)) ∙ l.invariant.1 ∙ take_all l.i _ (omega (arith, many))
