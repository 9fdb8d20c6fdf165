-- `read_numbers` meets its contract: i lines are read. Assumes nothing.
use mathlib.Core.Path.{refl, sym, ap, ◌∙◌}
use Prim.Native.Nat.{◌<◌}
use native.Mathlib.Nat.{add-zero}
use native.Mathlib.Omega.{arith}
use lib.ListN.{length, drop}
use Rattle.std.specs.Prelude.{unwrap_or, is_some}
use Rattle.lines.specs.Lines.{numbers, bytes_of, formed as formed-of}
use Rattle.lines.proofs.Again.{first_here, led_more, fill_more, formed_up, formed_stays}
use Rattle.lines.proofs.numbers.read_numbers.Goals as goal
use Rattle.lines.proofs.numbers.read_numbers.Goals.{then-formed-i, else-formed-i}

pub loop-i-init : goal.loop-i-init
unfolding numbers bytes_of formed-of
loop-i-init c = (refl, sym (add-zero _), refl)

pub loop-i-preserved : goal.loop-i-preserved
loop-i-preserved c =
    let l = c.loop-i in
    let a = c.args in
    let r = c.read_line-read in
    let h : l.i < length l.into = omega (arith, l.auto.into) in
    let first = r.ensures.0 ∙ first_here a.input.now a.at l.i l.next l.invariant.1 in (
      fill_more l.into (drop a.at a.input.now) l.i _ h l.invariant.0 (c.unwrap_or.ensures ∙ ap (λ x. unwrap_or x 0) first),
      elim c.if-formed-i.branch [
        | then-formed-i w ↦ w.next-is ∙ led_more a.input.now a.at l.i l.next l.invariant.1 _ r.ensures.1
        | else-formed-i w ↦ w.next-is ∙ led_more a.input.now a.at l.i l.next l.invariant.1 _ r.ensures.1
      ],
      elim c.if-formed-i.branch [
        | then-formed-i w ↦ w.formed-is ∙ formed_up (drop a.at a.input.now) l.i l.formed _ l.invariant.2 (c.is_some.ensures ∙ ap is_some first) w.if-formed-i.true
        | else-formed-i w ↦ w.formed-is ∙ formed_stays (drop a.at a.input.now) l.i l.formed _ l.invariant.2 (c.is_some.ensures ∙ ap is_some first) w.if-formed-i.false
      ],
    )
