-- `turned` meets its contract: where the first search is over, its hi is one past its lo. Assumes nothing.
use mathlib.Core.Path.{◌≡◌, sym, ◌∙◌}
use mathlib.Core.Bool.{Bool, true, false, not, ◌&&◌}
use lib.Dec.{eqb}
use borrow.Author.Tests.{not-true, not-false}
use Rattle.search.specs.declared.searches.Search.{Search}
use Rattle.search.specs.Bracket.{start, over}
use Rattle.search.specs.Searches.{second_search, turned}
use Rattle.search.proofs.Narrowing.{over_true}
use Rattle.ranges.proofs.Loops.{and-true}
use Rattle.search.proofs.searches.turned.Goals as goal

stays : (s : Search) (ended : Bool) → ended ≡ over s.bracket → not (eqb s.which 1 && ended) ≡ true → s ≡ turned s
unfolding turned
stays s ended e t =
    let on : eqb s.which 1 && ended ≡ false = not-true _ t in
    rw (sym e, on)

turns : (s : Search) (ended : Bool) → ended ≡ over s.bracket → not (eqb s.which 1 && ended) ≡ false
    → record { which = 2; bracket = record { lo = 0; hi = s.bracket.hi }; probes = s.probes; first = s.bracket.lo; spent = s.probes } ≡ turned s
unfolding turned second_search start
turns s ended e t =
    let both : eqb s.which 1 && ended ≡ true = not-false _ t in
    let done : over s.bracket ≡ true = sym e ∙ (and-true (eqb s.which 1) ended both).1 in
    rw (sym e, both, over_true s.bracket done)

pub returns-then-not-s-over : goal.returns-then-not-s-over
returns-then-not-s-over c = stays _ _ c.over.ensures c.if-not-s-over.true-raw

pub returns : goal.returns
returns c = turns _ _ c.over.ensures c.if-not-s-over.false-raw
