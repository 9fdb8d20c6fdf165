-- `terms` meets its contract: after j sums the exponent is that of the word with its weight, j times its point. Assumes nothing.
use mathlib.Core.Path.{◌≡◌, refl, sym, ap, ap₂, ◌∙◌}
use mathlib.Core.List.{[], ◌∷◌}
use Prim.Native.Nat.{ℕ, suc, ◌+◌, ◌<◌}
use native.Mathlib.Omega.{arith}
use lib.ListN.{get_or}
use Rattle.fields.specs.Byte.{product, bytes}
use Rattle.openings.specs.Packed.{packed}
use Rattle.fields.specs.Table.{logarithms, added}
use Rattle.fields.proofs.Bytes.{product_zero}
use Rattle.fields.proofs.Fields.{byte_field}
use Rattle.fields.proofs.Tables.{power, power_entry, power_log, power_added}
use Rattle.openings.specs.Opening.{moments}
use Rattle.openings.proofs.Packed.{multiplied, multiplied_next, multiplied_lt, shifted_in, shifted_fits, no_sums}
use Rattle.openings.proofs.byte.terms.Goals as goal
use Rattle.openings.proofs.byte.terms.Goals.{After-power}

pub returns-then-word-eq0 : goal.returns-then-word-eq0
returns-then-word-eq0 c =
    let a = c.args in
    sym (ap (λ (y : ℕ). packed (moments bytes a.count (a.point ∷ []) (y ∷ []))) (ap (product a.weight) c.if-word-eq0.true ∙ product_zero a.weight) ∙ no_sums a.point a.count)

pub loop-j-init : goal.loop-j-init
unfolding moments packed
loop-j-init c =
    let a = c.args in (
      c.exponent-at.type_inv,
      ap power (c.exponent-at.ensures ∙ ap₂ added c.log.ensures c.log-2.ensures)
          ∙ power_added (get_or logarithms a.weight 0) (get_or logarithms a.word 0)
          ∙ ap₂ product (power_log a.weight (omega arith) (omega (arith, c.requires))) (power_log a.word (omega arith) c.if-word-eq0.false),
      refl,
    )

module _ (c : After-power) where
  few : c.loop-j.j < 5
  few = omega (arith, c.loop-j-test.true, c.requires.2)

  weighted_lt : product c.args.weight c.args.word < 256
  weighted_lt = byte_field.ring.mul_lt c.args.weight c.args.word (omega arith) (omega arith)

  logged : c.log-step.result ≡ get_or logarithms c.args.point 0
  logged = c.log-step.ensures

  made : c.power.result ≡ multiplied c.args.point c.loop-j.j (product c.args.weight c.args.word)
  made = c.power.ensures ∙ power_entry c.loop-j.at c.loop-j.invariant.0 ∙ c.loop-j.invariant.1

pub overflow_add-all : goal.overflow_add-all
overflow_add-all c = record { fits = shifted_fits _ _ _ _ _ (omega arith) (weighted_lt c) (few c) c.loop-j.invariant.2 (made c) }

pub loop-j-preserved : goal.loop-j-preserved
loop-j-preserved c =
    let l = c.loop-j in
    let a = c.args in
    let z = product a.weight a.word in
    let next : l.j + 1 ≡ suc l.j = omega arith in (
      c.exponent-at-in-loop-j.type_inv,
      ap power (c.exponent-at-in-loop-j.ensures ∙ ap (added l.at) (logged (goal.at.loop-j-preserved c).After-power)) ∙ power_added l.at (get_or logarithms a.point 0)
          ∙ ap₂ product l.invariant.1 (power_log a.point (omega arith) (omega (arith, c.requires)))
          ∙ byte_field.ring.mul_comm (multiplied a.point l.j z) a.point (multiplied_lt a.point l.j z (omega arith) (weighted_lt (goal.at.loop-j-preserved c).After-power)) (omega arith)
          ∙ sym (ap (λ (k : ℕ). multiplied a.point k z) next ∙ multiplied_next a.point l.j z),
      shifted_in _ _ _ _ _ (omega arith) (weighted_lt (goal.at.loop-j-preserved c).After-power) (few (goal.at.loop-j-preserved c).After-power) l.invariant.2 (made (goal.at.loop-j-preserved c).After-power),
    )

pub returns : goal.returns
returns c =
    let l = c.loop-j in
    let a = c.args in
    let e : l.j ≡ a.count = omega arith in
    l.invariant.2 ∙ ap (λ (k : ℕ). packed (moments bytes k (a.point ∷ []) (product a.weight a.word ∷ []))) e
