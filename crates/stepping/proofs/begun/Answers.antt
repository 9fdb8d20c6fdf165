-- `begun` meets its contract. Assumes nothing.
use mathlib.Core.Path.{sym, ap, ◌∙◌}
use borrow.Author.Tests.{eq-eqb, ne_eqb}
use Rattle.fields.specs.Byte.{bytes}
use Rattle.comparison.specs.Local.{on_shares}
use Rattle.comparison.specs.Rounds.{first_carry}
use Rattle.stepping.proofs.begun.Goals as goal

pub returns-then-q-eq7 : goal.returns-then-q-eq7
returns-then-q-eq7 c = rw (eq-eqb c.args.q.last 7 c.if-q-eq7.true)

pub returns : goal.returns
returns c =
    let a = c.args in
    c.first_carry.ensures ∙ ap (first_carry (on_shares bytes) a.sum) c.byte_share.ensures
    ∙ sym (rw (ne_eqb a.q.last 7 c.if-q-eq7.false))
