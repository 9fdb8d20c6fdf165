-- `digit_or_space` meets its contract. Assumes nothing.
use borrow.Author.Tests.{eq-eqb, ne_eqb}
use Rattle.settlement_page.proofs.columns.digit_or_space.Goals as goal

pub returns-then-rest-eq0 : goal.returns-then-rest-eq0
returns-then-rest-eq0 c = rw (eq-eqb c.args.rest 0 c.if-rest-eq0.true)

pub returns : goal.returns
returns c = rw (ne_eqb c.args.rest 0 c.if-rest-eq0.false) c.last_digit.ensures
