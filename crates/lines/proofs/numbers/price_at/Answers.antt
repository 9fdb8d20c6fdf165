-- `price_at` meets its contract: the lines passed are left behind. Assumes nothing.
use mathlib.Core.Path.{◌≡◌, sym, ap, ◌∙◌}
use Prim.Native.Nat.{ℕ}
use native.Mathlib.Nat.{add-zero}
use native.Mathlib.Omega.{arith}
use lib.ListN.{drop}
use Rattle.std.specs.Prelude.{unwrap_or}
use Rattle.lines.specs.Lines.{first_line, past, bytes_of}
use Rattle.lines.proofs.Again.{led_more, first_here}
use Rattle.lines.proofs.numbers.price_at.Goals as goal

pub loop-init : goal.loop-init
unfolding bytes_of
loop-init c = sym (add-zero _)

pub loop-preserved : goal.loop-preserved
loop-preserved c =
    let l = c.loop in
    let a = c.args in
    led_more a.input.now a.at l.counter l.next l.invariant _ c.read_line-next.ensures.1

pub returns : goal.returns
returns c =
    let l = c.loop in
    let a = c.args in
    let e : l.counter ≡ a.i = omega arith in
    c.unwrap_or.ensures
    ∙ ap (λ x. unwrap_or x 0)
    (c.read_line.ensures.0 ∙ first_here a.input.now a.at l.counter l.next l.invariant ∙ ap (λ (m : ℕ). first_line (past m (drop a.at a.input.now))) e)
