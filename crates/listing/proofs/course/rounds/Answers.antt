-- `rounds` meets its contract. Assumes nothing.
use mathlib.Core.Path.{sym}
use native.Mathlib.Nat.{add-zero}
use borrow.Author.Tests.{eq-eqb, ne_eqb}
use Rattle.listing.specs.Lines.{rounds_of}
use Rattle.listing.proofs.course.rounds.Goals as goal

pub returns-then-answer-eq0 : goal.returns-then-answer-eq0
unfolding rounds_of
returns-then-answer-eq0 c = rw (eq-eqb c.args.answer 0 c.if-answer-eq0.true) (sym (add-zero _))

pub returns : goal.returns
unfolding rounds_of
returns c = rw (ne_eqb c.args.answer 0 c.if-answer-eq0.false)
