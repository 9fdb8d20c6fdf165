-- `number` meets its contract: the columns before i make n. Assumes nothing.
use mathlib.Core.Path.{refl, sym, ap, ◌∙◌}
use Prim.Native.Nat.{ℕ, ◌+◌, ◌*◌, ◌^◌, ◌≤◌, ◌<◌}
use native.Mathlib.Nat.{pow-suc, pow-le-pow_right}
use native.Mathlib.Numerals.{add-one}
use native.Mathlib.Omega.{arith}
use lib.ListN.{length}
use Rattle.settlement_page.proofs.Aligned.{number_more, number_all}
use Rattle.settlement_page.proofs.columns.number.Goals as goal

-- so many halves of bytes are below this
few : (i : ℕ) → i ≤ 6 → 16 ^ i ≤ 16_777_216
few i h = pow-le-pow_right {n = 16} (omega arith) {i = i} {j = 6} h

pub loop-b-init : goal.loop-b-init
loop-b-init c = (omega arith, refl)

pub overflow_mul-n : goal.overflow_mul-n
overflow_mul-n c =
    record { fits = omega (arith, c.loop-b.invariant.0, few c.loop-b.b-index (omega (arith, c.loop-b-test.true, c.requires))) }

pub overflow_add-n : goal.overflow_add-n
overflow_add-n c =
    record { fits = omega (arith, c.loop-b.invariant.0, few c.loop-b.b-index (omega (arith, c.loop-b-test.true, c.requires)), c.digit.ensures) }

pub loop-b-preserved : goal.loop-b-preserved
loop-b-preserved c =
    let columns = c.args.columns.now in
    let inside : c.loop-b.b-index < length columns = c.loop-b-test.true in (
      rw (add-one, pow-suc) (omega (arith, c.loop-b.invariant.0, c.digit.ensures)),
      c.loop-b.invariant.1 ∙ number_more c.loop-b.n columns c.loop-b.b-index inside (ap (λ (d : ℕ). 10 * c.loop-b.n + d) c.digit.ensures),
    )

pub returns : goal.returns
returns c = (
  sym (c.loop-b.invariant.1 ∙ number_all c.loop-b.n _ c.loop-b.b-index c.loop-b-test.false),
  omega (arith, c.loop-b.invariant.0, few c.loop-b.b-index (omega (arith, c.requires))),
)
