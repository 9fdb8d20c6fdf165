-- `put_number` meets its contract: what is left of the number belongs before column i. Assumes nothing.
use mathlib.Core.Path.{◌≡◌, sym, ap, ◌∙◌}
use mathlib.Core.List.{◌++◌}
use Prim.Native.Nat.{ℕ, suc, ◌-◌, ◌<◌}
use native.Mathlib.Omega.{arith}
use lib.ListN.{length, drop, length-set}
use Rattle.decimal.specs.Decimal.{decimal}
use Rattle.settlement_page.specs.Page.{right}
use Rattle.settlement_page.proofs.Aligned.{before_last, stored_last, stored, all_stored}
use Rattle.settlement_page.proofs.columns.put_number.Goals as goal

pub loop-i-init : goal.loop-i-init
loop-i-init c =
    let xs = c.args.columns.now in
    ap (λ (m : ℕ). right m (decimal c.args.n)) (length-set xs (length xs - 1) c.last_digit.result)
    ∙ stored_last xs c.args.n c.last_digit.result c.requires.0 c.requires.1 c.last_digit.ensures

pub loop-i-preserved : goal.loop-i-preserved
loop-i-preserved c =
    let l = c.loop-i in
    let xs = c.args.columns.now in
    let at : l.i ≡ suc (l.i - 1) = omega (arith, c.loop-i-test.true) in
    let inside : l.i - 1 < length l.columns = omega (arith, c.loop-i-test.true, l.auto.i, l.auto.columns, length-set xs (length xs - 1) c.last_digit.result) in
    ap (λ (m : ℕ). right m (decimal c.args.n)) (length-set l.columns (l.i - 1) c.digit_or_space.result)
    ∙ l.invariant
    ∙ ap (λ (j : ℕ). before_last j l.rest ++ drop j l.columns) at
    ∙ stored l.columns (l.i - 1) l.rest c.digit_or_space.result inside c.digit_or_space.ensures

pub returns : goal.returns
returns c =
    let l = c.loop-i in
    let xs = c.args.columns.now in
    let end : l.i ≡ 0 = omega (arith, c.loop-i-test.false) in
    sym
    (ap (λ (m : ℕ). right m (decimal c.args.n)) (sym (l.auto.columns ∙ length-set xs (length xs - 1) c.last_digit.result))
    ∙ l.invariant
    ∙ all_stored l.columns l.i l.rest end)
