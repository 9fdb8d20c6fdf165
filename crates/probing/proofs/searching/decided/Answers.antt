-- `decided` meets its contract. Assumes nothing.
use mathlib.Core.Path.{◌≡◌, sym, ◌∙◌}
use borrow.Author.Tests.{eq-eqb, ne_eqb}
use Rattle.search.specs.Bracket.{middle}
use Rattle.probing.specs.Follows.{moved_end}
use Rattle.probing.proofs.searching.decided.Goals as goal
use Rattle.probing.proofs.searching.decided.Goals.{After-middle}

-- what is compared
ends : (c : After-middle) → let a = c.args in
    (moved_end a.before a.after ≡ c.moved_end.result) × (middle a.before.bracket ≡ c.middle.result)
ends c = (sym c.moved_end.ensures, sym c.middle.ensures)

pub returns-then-moved_end-middle : goal.returns-then-moved_end-middle
returns-then-moved_end-middle c =
    let e = ends (goal.at.returns-then-moved_end-middle c).After-middle in
    simp (eq-eqb _ _ (e.0 ∙ c.if-moved_end-middle.true ∙ sym e.1))

pub returns : goal.returns
returns c =
    let e = ends (goal.at.returns c).After-middle in
    simp (ne_eqb _ _ (λ f. c.if-moved_end-middle.false (sym e.0 ∙ f ∙ e.1)))
