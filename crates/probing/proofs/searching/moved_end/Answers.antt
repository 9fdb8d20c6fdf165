-- `moved_end` meets its contract. Assumes nothing.
use native.Mathlib.Omega.{arith}
use borrow.Author.Tests.{eq-eqb, ne_eqb}
use Rattle.probing.proofs.searching.moved_end.Goals as goal

pub returns-then-before-eq2 : goal.returns-then-before-eq2
returns-then-before-eq2 c =
    let a = c.args in
    rw (eq-eqb a.before.which 2 (omega arith))

pub returns-then-after-eq2 : goal.returns-then-after-eq2
returns-then-after-eq2 c =
    let a = c.args in
    rw (ne_eqb a.before.which 2 (λ e. omega arith), eq-eqb a.after.which 2 (omega arith))

pub returns : goal.returns
returns c =
    let a = c.args in
    rw (ne_eqb a.before.which 2 (λ e. omega arith), ne_eqb a.after.which 2 (λ e. omega arith))
