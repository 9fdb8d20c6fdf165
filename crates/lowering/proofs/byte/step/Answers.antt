-- `step` meets its contract, by the rules of the tables. Assumes nothing.
use mathlib.Core.Path.{ap, ap₂, ◌∙◌}
use Prim.Native.Nat.{ℕ, ◌-◌}
use native.Mathlib.Omega.{arith}
use Rattle.fields.specs.Byte.{xor}
use Rattle.fields.specs.Table.{added}
use Rattle.lowering.proofs.Crossing.{byte_step}
use Rattle.lowering.proofs.byte.step.Goals as goal

pub returns : goal.returns
unfolding xor
returns c =
    byte_step c.args.r c.args.x c.requires.0 c.requires.1 c.requires.2 c.exponent.result (omega arith)
    (c.exponent.ensures ∙ ap₂ added c.log.ensures (ap (λ (n : ℕ). 255 - n) c.log-2.ensures))
