-- `add_words` meets its contract: the totals before i are sums, the others as they were. Assumes nothing.
use mathlib.Core.Path.{sym, ap, ◌∙◌}
use Prim.Native.Nat.{ℕ, ◌<◌}
use native.Mathlib.Omega.{arith}
use lib.ListN.{length, get_or}
use lib.Seq.{take_all}
use Rattle.fields.specs.Amount.{amounts}
use Rattle.fields.proofs.Fields.{amount_field}
use Rattle.sharing.specs.Linear.{sums}
use Rattle.sharing.proofs.Laws.{sums_length}
use Rattle.ranges.proofs.Loops.{fill, fill_past, same_at}
use Rattle.session.proofs.Words.{sum_at}
use Rattle.session.proofs.adding.add_words.Goals as goal

pub loop-i-preserved : goal.loop-i-preserved
loop-i-preserved c =
    let l = c.loop-i in
    let xs = c.args.totals.now in
    let ys = c.args.shares.now in
    let h : l.i < length ys = omega (arith, c.requires) in
    let v = c.add.ensures ∙ ap (λ (x : ℕ). amounts.add x (get_or ys l.i 0)) (same_at l.totals xs l.i l.invariant.0) in (
      fill_past l.totals xs l.i _ l.invariant.0,
      fill l.totals (sums amounts xs ys) l.i _ (omega arith) (omega (arith, c.requires, sums_length amount_field xs ys c.requires))
          (v ∙ sym (sum_at xs ys l.i c.requires (omega (arith, c.requires)))) l.invariant.1,
    )

pub returns : goal.returns
returns c =
    let l = c.loop-i in
    let xs = c.args.totals.now in
    let ys = c.args.shares.now in
    sym (take_all l.i l.totals (omega (arith, c.requires))) ∙ l.invariant.1
    ∙ take_all l.i (sums amounts xs ys) (omega (arith, c.requires, sums_length amount_field xs ys c.requires))
