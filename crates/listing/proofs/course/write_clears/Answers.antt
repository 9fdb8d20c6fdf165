-- `write_clears` meets its contract, piece by piece. Assumes nothing.
use mathlib.Core.Path.{sym, ap, ◌∙◌}
use Prim.Native.Nat.{ℕ}
use native.Mathlib.Omega.{arith}
use Rattle.listing.specs.Lines.{clears_line}
use Rattle.listing.proofs.Writing.{then, wrote_same}
use Rattle.listing.proofs.Telling.{clears_none, clears_some}
use Rattle.listing.proofs.course.write_clears.Goals as goal

pub returns-then-answer-eq0 : goal.returns-then-answer-eq0
returns-then-answer-eq0 c =
    (wrote_same (sym (clears_none _ _ c.if-answer-eq0.true)) c.put_no_price.ensures, omega (arith, c.put_no_price.ensures.place))

pub returns : goal.returns
returns c =
    let text = ap (λ (price : ℕ). clears_line c.args.answer price) c.price_at-price.ensures in
    (wrote_same (sym (clears_some _ _ c.if-answer-eq0.false) ∙ text) (then c.append_field-place.ensures.0 c.append_last.ensures.0), omega (arith, c.append_field-place.ensures.1, c.append_last.ensures.1))
