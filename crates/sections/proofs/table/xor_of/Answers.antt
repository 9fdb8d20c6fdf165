-- `xor_of` meets its contract: the seeds before the one at hand are mixed. Assumes nothing.
use mathlib.Core.Path.{sym, ap, ◌∙◌}
use Prim.Native.Nat.{ℕ}
use lib.ListN.{drop_of_length-le}
use lib.Bits.{bit_xor}
use Rattle.std.specs.Int.Bits.{xor_assoc, xor_zero_l, xor_zero_r}
use Rattle.sections.specs.Sections.{xor_of}
use Rattle.sections.proofs.Counts.{xor_more}
use Rattle.sections.proofs.table.xor_of.Goals as goal

pub loop-seed-init : goal.loop-seed-init
loop-seed-init c = xor_zero_l _

pub loop-seed-preserved : goal.loop-seed-preserved
loop-seed-preserved c =
    let l = c.loop-seed in
    let seeds = c.args.seeds.now in
    xor_assoc l.xor _ _ ∙ ap (λ (x : ℕ). bit_xor l.xor x) (sym (xor_more seeds l.seed-index c.loop-seed-test.true)) ∙ l.invariant

pub returns : goal.returns
unfolding xor_of
returns c =
    let l = c.loop-seed in
    sym (xor_zero_r l.xor) ∙ ap (λ xs. bit_xor l.xor (xor_of xs)) (sym (drop_of_length-le c.args.seeds.now c.loop-seed-test.false)) ∙ l.invariant
