-- `line` of bytes meets its contract, by the rules of the tables. Assumes nothing.
use mathlib.Core.Path.{ap, ◌∙◌}
use Prim.Native.Nat.{ℕ}
use native.Mathlib.Omega.{arith}
use lib.ListN.{get_or}
use Rattle.fields.specs.Byte.{xor}
use Rattle.fields.specs.Table.{powers, added}
use Rattle.lowering.proofs.Crossing.{same_word, other_words}
use Rattle.lowering.proofs.byte.line.Goals as goal

pub returns-then-difference-eq0 : goal.returns-then-difference-eq0
unfolding xor
returns-then-difference-eq0 c = let a = c.args in same_word (get_or powers a.by 0) a.y a.z c.if-difference-eq0.true

pub returns : goal.returns
unfolding xor
returns c =
    let a = c.args in
    ap (xor a.y) c.power.ensures
    ∙ other_words a.by a.y a.z c.exponent.result (omega arith) (omega arith) (omega arith) c.if-difference-eq0.false (omega arith)
    (c.exponent.ensures ∙ ap (λ (n : ℕ). added n a.by) c.log.ensures)
