-- `exponent` meets its contract: a sum that wraps is 256 too small. Assumes nothing.
use Rattle.std.proofs.Common.{◌≡◌, ◌+◌, ◌-◌, ◌%◌, Bool, cond, sym, ap, ◌∙◌, arith, le-ltb, lt-ltb}
use Rattle.fields.specs.Table.{added}
use Rattle.fields.proofs.table.exponent.Goals as goal

pub returns-then-sum-a : goal.returns-then-sum-a
unfolding added
returns-then-sum-a c =
    let a = c.args in
    let e : (a.a + a.b) % 256 + 1 ≡ a.a + a.b - 255 = omega arith in
    e ∙ sym (ap (λ (t : Bool). cond t (a.a + a.b) (a.a + a.b - 255)) (le-ltb (a.a + a.b) 256 (omega arith)))

pub returns-else-sum-a : goal.returns-else-sum-a
unfolding added
returns-else-sum-a c =
    let a = c.args in
    let e : (a.a + a.b) % 256 ≡ a.a + a.b = omega arith in
    e ∙ sym (ap (λ (t : Bool). cond t (a.a + a.b) (a.a + a.b - 255)) (lt-ltb (a.a + a.b) 256 (omega arith)))
