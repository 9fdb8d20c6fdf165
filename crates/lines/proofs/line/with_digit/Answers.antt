-- `with_digit` meets its contract: each part by its case. Assumes nothing.
use Rattle.lines.specs.declared.line.Part.{Part}
use mathlib.Core.Path.{sym, ap, ◌∙◌}
use native.Mathlib.Omega.{arith}
use borrow.Author.Rules.{rules}
use Rattle.lines.specs.Lines.{with_digit}
use Rattle.lines.proofs.Reading.{zero_alone, too_large, one_more}
use Rattle.lines.proofs.line.with_digit.Goals as goal

pub overflow_mul-result : goal.overflow_mul-result
overflow_mul-result c = omega arith

pub overflow_add-result : goal.overflow_add-result
overflow_add-result c = omega arith

pub returns-in-Empty : goal.returns-in-Empty
unfolding with_digit
returns-in-Empty c = rw c.in-Empty.is

pub returns-then-v-eq0 : goal.returns-then-v-eq0
returns-then-v-eq0 c =
    let w = c.in-Digits in
    sym (ap (λ (q : Part). with_digit q c.args.d) w.is ∙ zero_alone w.v c.args.d c.requires c.if-v-eq0.true)

pub returns-then-d-v : goal.returns-then-d-v
returns-then-d-v c =
    let w = c.in-Digits in
    sym (ap (λ (q : Part). with_digit q c.args.d) w.is ∙ too_large w.v c.args.d c.requires c.if-v-eq0.false c.if-d-v.true)

pub returns-else-d-v : goal.returns-else-d-v
returns-else-d-v c =
    let w = c.in-Digits in
    sym (ap (λ (q : Part). with_digit q c.args.d) w.is ∙ one_more w.v c.args.d c.requires c.if-v-eq0.false c.if-d-v.false)

pub returns-in-Bad : goal.returns-in-Bad
unfolding with_digit
returns-in-Bad c = search rules
