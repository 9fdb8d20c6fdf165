-- `at_zero` of words of two bytes meets its contract at 0: both bytes are those of the word that stands there. Assumes nothing.
use mathlib.Core.Path.{◌≡◌, sym, ap, ap₂, ◌∙◌}
use Prim.Native.Nat.{ℕ, ◌+◌, ◌*◌, ◌/◌, ◌%◌}
use native.Mathlib.Omega.{arith}
use Rattle.lowering.specs.Lines.{pair_line}
use Rattle.lowering.proofs.Crossing.{at_nought}
use Rattle.lowering.proofs.byte.ByteTablesLines.at_zero.Goals as goal

pub returns-then-r-eq0 : goal.returns-then-r-eq0
returns-then-r-eq0 c =
    let a = c.args in
    let halves : a.y % 65536 ≡ a.y % 256 + 256 * (a.y / 256 % 256) = omega arith in
    halves ∙ sym (ap₂ (λ (low high : ℕ). low + 256 * high) (at_nought (a.y % 256) a.x (a.z % 256)) (at_nought (a.y / 256 % 256) a.x (a.z / 256 % 256)))
    ∙ ap (λ (r : ℕ). pair_line r a.y a.x a.z) (sym c.if-r-eq0.true)
