-- `compared` meets its contract: in the second search the sides are exchanged. Assumes nothing.
use native.Mathlib.Omega.{arith}
use borrow.Author.Tests.{eq-eqb, ne_eqb}
use Rattle.search.specs.Searches.{side}
use Rattle.message.proofs.word.Totals.compared.Goals as goal

pub returns-then-which-eq2 : goal.returns-then-which-eq2
unfolding side
returns-then-which-eq2 c = rw (eq-eqb c.args.which 2 (omega arith)) c.masked.ensures

pub returns : goal.returns
unfolding side
returns c = rw (ne_eqb c.args.which 2 (λ e. omega arith)) c.masked-2.ensures
