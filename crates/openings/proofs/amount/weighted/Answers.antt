-- `weighted` of amounts meets its contract: the terms before i are weighted words. Assumes nothing.
use mathlib.Core.Path.{refl, ap, ◌∙◌}
use mathlib.Core.List.{List}
use Prim.Native.Nat.{ℕ}
use native.Mathlib.Omega.{arith}
use lib.ListN.{get_or, length-set}
use Rattle.fields.specs.Amount.{amounts}
use Rattle.weights.specs.Rows.{amount_rows, amount_scheme}
use Rattle.weights.proofs.Picked.{own_row}
use Rattle.weights.proofs.Products.{one_more, all_made}
use Rattle.openings.proofs.amount.weighted.Goals as goal

pub loop-i-init : goal.loop-i-init
loop-i-init c = (refl, refl)

pub loop-i-preserved : goal.loop-i-preserved
loop-i-preserved c =
    let l = c.loop-i in
    let a = c.args in (
      simp length-set l.invariant.0,
      one_more amount_scheme tt a.n c.requires.0 c.requires.1 a.words.now c.requires.2 l.terms l.i _ (omega arith) (omega (arith, l.invariant.0, c.requires.1))
          (c.mul.ensures ∙ ap (λ (row : List ℕ). amounts.mul (get_or row l.i 0) (get_or a.words.now l.i 0)) (c.amount_row-row.ensures ∙ own_row amount_rows a.n c.requires.0 c.requires.1))
          l.invariant.1,
    )

pub returns : goal.returns
returns c =
    let l = c.loop-i in
    let a = c.args in
    all_made amount_scheme tt a.n c.requires.0 c.requires.1 a.words.now c.requires.2 l.terms l.i (omega arith) l.invariant.1
