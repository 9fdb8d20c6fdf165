-- `first_state` meets its contract. Assumes nothing.
use borrow.Author.Tests.{eq-eqb, ne_eqb}
use Rattle.draws.specs.Draws.{first_state}
use Rattle.draws.proofs.first_state.Goals as goal

pub returns-then-seed-eq0 : goal.returns-then-seed-eq0
unfolding first_state
returns-then-seed-eq0 c = simp (eq-eqb _ 0 c.if-seed-eq0.true)

pub returns-else-seed-eq0 : goal.returns-else-seed-eq0
unfolding first_state
returns-else-seed-eq0 c = simp (ne_eqb _ 0 c.if-seed-eq0.false)
