-- `middle` meets its contract: the halves and what is left over make half the sum. Assumes nothing.
use native.Mathlib.Omega.{arith}
use Rattle.search.specs.Bracket.{middle}
use Rattle.search.proofs.bracket.middle.Goals as goal

pub returns : goal.returns
unfolding middle
returns c = omega arith
