-- `at_zero` of amounts meets its contract: the product of three factors is reduced once. Assumes nothing.
use mathlib.Core.Path.{ap, ◌∙◌}
use Prim.Native.Nat.{ℕ, ◌*◌}
use Rattle.fields.specs.Amount.{amounts}
use Rattle.lowering.proofs.Crossing.{amount_line}
use Rattle.lowering.proofs.amount.AmountsLines.at_zero.Goals as goal

pub returns : goal.returns
returns c =
    let a = c.args in
    c.mul_add.ensures
    ∙ ap (λ (g : ℕ). amounts.add a.y (amounts.mul (c.sub.result.0 * a.r) g)) c.inverse.ensures
    ∙ amount_line a.r a.y a.x a.z c.sub.result.0 c.requires.0 c.sub.ensures
