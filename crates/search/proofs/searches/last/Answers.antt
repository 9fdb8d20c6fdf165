-- `last` meets its contract. Assumes nothing.
use native.Mathlib.Omega.{arith}
use borrow.Author.Tests.{eq-eqb, ne_eqb}
use Rattle.search.specs.Searches.{side}
use Rattle.search.proofs.searches.last.Goals as goal

pub returns-then-s-eq2 : goal.returns-then-s-eq2
unfolding side
returns-then-s-eq2 c = rw (eq-eqb c.args.s.which 2 (omega arith))

pub returns-else-s-eq2 : goal.returns-else-s-eq2
unfolding side
returns-else-s-eq2 c = rw (ne_eqb c.args.s.which 2 (λ e. omega arith))
