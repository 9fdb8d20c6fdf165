-- `rising` meets its contract: the prices before i rise to the last. Assumes nothing.
use mathlib.Core.Path.{◌≡◌, sym, ◌∙◌}
use native.Mathlib.Nat.{zero-add}
use native.Mathlib.Omega.{arith}
use lib.ListN.{length}
use borrow.Author.Tests.{not-true, not-false}
use Rattle.sections.proofs.Counts.{rising_more, rising_fails, rising_ends}
use Rattle.sections.proofs.table.rising.Goals as goal

pub loop-i-init : goal.loop-i-init
loop-i-init c = sym (zero-add _)

pub returns-then-not-last-price : goal.returns-then-not-last-price
returns-then-not-last-price c = sym (c.loop-i.invariant ∙ rising_fails _ _ _ c.loop-i-test.true c.if-not-last-price.true)

pub loop-i-preserved : goal.loop-i-preserved
loop-i-preserved c = c.loop-i.invariant ∙ rising_more _ _ _ c.loop-i-test.true c.if-not-last-price.false

pub returns : goal.returns
returns c =
    let e : c.loop-i.i ≡ length c.args.prices.now = omega arith in
    sym e ∙ sym (c.loop-i.invariant ∙ rising_ends _ _ _ c.loop-i-test.false)
