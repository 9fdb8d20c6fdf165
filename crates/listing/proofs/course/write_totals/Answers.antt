-- `write_totals` meets its contract, piece by piece. Assumes nothing.
use mathlib.Core.Path.{sym}
use native.Mathlib.Omega.{arith}
use Rattle.listing.proofs.Writing.{then, wrote_none, wrote_same}
use Rattle.listing.proofs.Telling.{totals_none, totals_some}
use Rattle.listing.proofs.course.write_totals.Goals as goal

pub returns-then-answer-eq0 : goal.returns-then-answer-eq0
returns-then-answer-eq0 c =
    (wrote_same (sym (totals_none _ _ _ c.if-answer-eq0.true)) (wrote_none c.args.out.now c.args.at (omega (arith, c.requires))), omega arith)

pub returns : goal.returns
returns c = (
  wrote_same (sym (totals_some _ _ _ c.if-answer-eq0.false)) (then c.append_field-wanted.ensures.0 c.append_last.ensures.0),
  omega (arith, c.append_field-wanted.ensures.1, c.append_last.ensures.1),
)
