-- `over` meets its contract: where lo is not below hi, the difference is 0. Assumes nothing.
use mathlib.Core.Path.{refl, sym}
use Prim.Native.Nat.{◌-◌}
use native.Mathlib.Omega.{arith}
use borrow.Author.Tests.{ne_eqb}
use Rattle.search.specs.Bracket.{over}
use Rattle.search.proofs.bracket.over.Goals as goal

pub returns-then-b : goal.returns-then-b
unfolding over
returns-then-b c = sym (ne_eqb (c.args.b.hi - c.args.b.lo) 1 (λ e. omega arith))

pub returns : goal.returns
unfolding over
returns c = refl
