-- `begins` meets its contract. Assumes nothing.
use mathlib.Core.Path.{sym, ap, ◌∙◌}
use lib.Seq.{length-take-le}
use Rattle.ranges.specs.Lists.{same}
use Rattle.settlement_page.specs.Line.{begins}
use Rattle.settlement_page.proofs.Lines.{too_short}
use Rattle.settlement_page.proofs.line.begins.Goals as goal

pub returns-then-page-lt-TITLE : goal.returns-then-page-lt-TITLE
returns-then-page-lt-TITLE c =
    sym (too_short c.args.pair c.args.page.now c.requires c.if-page-lt-TITLE.true)

pub slice_bounds-same-end : goal.slice_bounds-same-end
slice_bounds-same-end c = sym (length-take-le 10 c.args.page.now c.if-page-lt-TITLE.false)

pub returns : goal.returns
unfolding begins
returns c = c.same.ensures ∙ ap (same _) c.title-bytes.ensures
