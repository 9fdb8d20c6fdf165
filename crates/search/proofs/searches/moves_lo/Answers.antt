-- `moves_lo` meets its contract. Assumes nothing.
use native.Mathlib.Omega.{arith}
use borrow.Author.Tests.{eq-eqb, ne_eqb}
use Rattle.search.specs.Searches.{side, moves_lo}
use Rattle.search.proofs.searches.moves_lo.Goals as goal

pub returns-then-which-eq2 : goal.returns-then-which-eq2
unfolding moves_lo side
returns-then-which-eq2 c = rw (eq-eqb c.args.which 2 (omega arith))

pub returns-else-which-eq2 : goal.returns-else-which-eq2
unfolding moves_lo side
returns-else-which-eq2 c = rw (ne_eqb c.args.which 2 (λ e. omega arith))
