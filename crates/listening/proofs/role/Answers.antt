-- `role` meets its contract. Assumes nothing.
use borrow.Author.Tests.{eq-eqb, ne_eqb}
use Rattle.listening.proofs.role.Goals as goal

pub returns-then-q : goal.returns-then-q
returns-then-q c = rw (eq-eqb c.args.q.round c.args.q.last c.if-q.true)

pub returns-else-q : goal.returns-else-q
returns-else-q c = rw (ne_eqb c.args.q.round c.args.q.last c.if-q.false)
