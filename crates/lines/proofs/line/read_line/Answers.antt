-- `read_line` meets its contract: what is left from i makes the line that the part has begun. Assumes nothing.
use mathlib.Core.Path.{sym, ap, ◌∙◌}
use Prim.Native.Nat.{◌+◌, ◌≤◌}
use native.Mathlib.Omega.{arith}
use lib.ListN.{length, drop}
use Rattle.lines.specs.Lines.{line_after}
use Rattle.lines.proofs.Reading.{line_stops, length_stops, line_goes_on, length_goes_on, line_ends, length_ends}
use Rattle.lines.proofs.line.read_line.Goals as goal

pub returns-then-b-eq-NEWLINE : goal.returns-then-b-eq-NEWLINE
returns-then-b-eq-NEWLINE c =
    let l = c.loop-i in
    let h = c.loop-i-test.true in (
      c.ended.ensures ∙ sym (line_stops c.args.input.now l.part l.i h c.if-b-eq-NEWLINE.true) ∙ l.invariant.0,
      sym (length_stops c.args.input.now l.part l.i h c.if-b-eq-NEWLINE.true) ∙ l.invariant.1,
    )

pub loop-i-preserved : goal.loop-i-preserved
loop-i-preserved c =
    let l = c.loop-i in
    let h = c.loop-i-test.true in (
      ap (λ q. line_after q (drop (l.i + 1) c.args.input.now)) c.grown-part.ensures
          ∙ sym (line_goes_on c.args.input.now l.part l.i h c.if-b-eq-NEWLINE.false) ∙ l.invariant.0,
      sym (length_goes_on c.args.input.now l.part l.i h c.if-b-eq-NEWLINE.false) ∙ l.invariant.1,
      omega arith,
    )

pub returns : goal.returns
returns c =
    let l = c.loop-i in
    let h : length c.args.input.now ≤ l.i = c.loop-i-test.false in (
      sym (line_ends c.args.input.now l.part l.i h) ∙ l.invariant.0,
      omega (arith, length_ends c.args.input.now l.i h, l.invariant.1, l.invariant.2, c.max.ensures),
    )
