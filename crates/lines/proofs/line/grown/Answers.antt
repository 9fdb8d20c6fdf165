-- `grown` meets its contract: a byte that is no digit, and one that is. Assumes nothing.
use Rattle.std.proofs.Common.{sym, ap, ◌∙◌, cond, ◌-◌}
use Rattle.lines.specs.Lines.{grown, with_digit}
use Rattle.lines.specs.declared.line.Part.TheVariants.{Bad}
use Rattle.lines.proofs.line.grown.Goals as goal

pub returns-then-is_ascii_digit : goal.returns-then-is_ascii_digit
unfolding grown
returns-then-is_ascii_digit c =
    c.with_digit.ensures ∙ sym (ap (λ t. cond t (with_digit c.args.part (c.args.b - 48)) Bad) (sym c.is_ascii_digit.ensures.value ∙ c.if-is_ascii_digit.true))

pub returns-else-is_ascii_digit : goal.returns-else-is_ascii_digit
unfolding grown
returns-else-is_ascii_digit c = sym (ap (λ t. cond t (with_digit c.args.part (c.args.b - 48)) Bad) (sym c.is_ascii_digit.ensures.value ∙ c.if-is_ascii_digit.false))
