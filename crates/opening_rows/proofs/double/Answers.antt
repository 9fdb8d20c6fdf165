-- `double` meets its contract: after k turns k entries are added. Assumes nothing.
use mathlib.Core.Path.{◌≡◌, sym, ap, ◌∙◌}
use Prim.Native.Nat.{ℕ, ◌+◌, ◌<◌}
use native.Mathlib.Decide.{dec_le}
use native.Mathlib.Omega.{arith}
use lib.ListN.{length, get_or, set}
use lib.Seq.{get_or-set_same, get_or-set_other}
use Rattle.fields.specs.Byte.{xor}
use Rattle.opening_rows.proofs.double.Goals as goal

pub loop-k-preserved : goal.loop-k-preserved
unfolding xor
loop-k-preserved c =
    let l = c.loop-k in
    let a = c.args in
    let p = a.size + l.k in
    let old = a.row.now in
    let v = xor (get_or l.row l.k 0) a.term in
    let inside : p < length l.row = omega (arith, l.auto.row) in (
      λ i h. get_or-set_other l.row p i v 0 (λ e. omega arith) ∙ l.invariant.0 i h,
      λ i h.
          elim (dec_le l.k i) [
            | yes le ↦
                let e : i ≡ l.k = omega arith in
                ap (λ (z : ℕ). get_or (set l.row p v) (a.size + z) 0) e ∙ get_or-set_same l.row p v 0 inside
                ∙ ap (λ (z : ℕ). xor z a.term) (l.invariant.0 l.k (omega arith)) ∙ ap (λ (z : ℕ). xor (get_or old z 0) a.term) (sym e)
            | no gt ↦ get_or-set_other l.row p (a.size + i) v 0 (λ e. omega arith) ∙ l.invariant.1 i (omega arith)
          ],
    )
