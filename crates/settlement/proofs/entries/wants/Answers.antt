-- `wants` meets its contract. Assumes nothing.
use borrow.Author.Tests.{eq-eqb, ne_eqb}
use Rattle.settlement.proofs.entries.wants.Goals as goal

pub returns-then-amount-eq0 : goal.returns-then-amount-eq0
returns-then-amount-eq0 c = rw (eq-eqb c.args.amount 0 c.if-amount-eq0.true)

pub returns : goal.returns
returns c = rw (ne_eqb c.args.amount 0 c.if-amount-eq0.false)
