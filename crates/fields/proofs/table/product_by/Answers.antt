-- `product_by` meets its contract, by the rules of the two tables. Assumes nothing.
use Rattle.std.proofs.Common.{ℕ, List, get_or, sym, ap, ◌∙◌, ap₂, arith}
use Rattle.fields.specs.Byte.{product}
use Rattle.fields.specs.Table.{logarithms, added}
use Rattle.fields.proofs.Bytes.{zero_product, product_zero}
use Rattle.fields.proofs.Tables.{power, power_entry, power_log, power_added}
use Rattle.fields.proofs.table.product_by.Goals as goal

pub returns-then-a-eq0 : goal.returns-then-a-eq0
returns-then-a-eq0 c = sym (ap (λ (x : ℕ). product x c.args.b) c.if-a-eq0.true ∙ zero_product c.args.b)

pub returns-then-b-eq0 : goal.returns-then-b-eq0
returns-then-b-eq0 c = sym (ap (product c.args.a) c.if-b-eq0.true ∙ product_zero c.args.a)

pub returns : goal.returns
returns c =
    let a = c.args in
    let log = λ (x : ℕ). ap (λ (t : List ℕ). get_or t x 0) c.requires.0 in
    ap (λ (t : List ℕ). get_or t c.exponent.result 0) c.requires.1
    ∙ power_entry c.exponent.result (omega arith)
    ∙ ap power (c.exponent.ensures ∙ ap₂ added (log a.a) (log a.b))
    ∙ power_added (get_or logarithms a.a 0) (get_or logarithms a.b 0)
    ∙ ap₂ product (power_log a.a (omega arith) c.if-a-eq0.false) (power_log a.b (omega arith) c.if-b-eq0.false)
