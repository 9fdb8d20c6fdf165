-- `tenths` meets its contract. Assumes nothing.
use mathlib.Core.Path.{ap₂}
use Prim.Native.Nat.{ℕ, ◌+◌, ◌*◌}
use Rattle.settlement_page.specs.Line.{tenths_in}
use Rattle.settlement_page.proofs.columns.tenths.Goals as goal

pub returns : goal.returns
unfolding tenths_in
returns c = ap₂ (λ (w d : ℕ). 10 * w + d) c.number-whole.ensures.0 c.digit.ensures
