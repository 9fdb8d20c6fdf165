-- `multiples` meets its contract: the products by less than `size`, a power of 2, are there, and `doubled` is the product by it.
-- Assumes nothing.
use mathlib.Core.Path.{◌≡◌, refl, sym, ap, ◌∙◌}
use Prim.Native.Nat.{ℕ, suc, ◌+◌, ◌*◌}
use native.Mathlib.Nat.{pow-succ'}
use native.Mathlib.Omega.{arith}
use lib.ListN.{take, length-set}
use lib.Pow.{pow_pos}
use lib.Seq.{take_all}
use Rattle.fields.specs.Byte.{xor, xtimes}
use Rattle.byte_rows.specs.Row.{multiples}
use Rattle.byte_rows.proofs.Rows.{doubled, doubled_more, half_row, length_multiples, row_first, row_more}
use Rattle.byte_rows.proofs.multiples.Goals as goal

pub loop-size-init : goal.loop-size-init
unfolding doubled
loop-size-init c = record { power = 0; size_is = refl; top_is = refl; long = refl; made = sym (row_first c.args.a) }

pub loop-i-init : goal.loop-i-init
loop-i-init c =
    let l = c.loop-size in
    let e : l.size ≡ l.size + 0 = omega arith in
    (l.invariant.long, ap (λ (n : ℕ). take n l.row) (sym e) ∙ l.invariant.made ∙ ap (λ (n : ℕ). take n (multiples c.args.a)) e)

pub bounds-row-size : goal.bounds-row-size
bounds-row-size c =
    let l = c.loop-size in
    let half = half_row l.invariant.power (omega arith) in
    omega arith

pub loop-i-preserved : goal.loop-i-preserved
unfolding xor
loop-i-preserved c =
    let l = c.loop-size in
    let m = c.loop-i in (
      simp length-set m.invariant.0,
      row_more _ l.invariant.power l.size m.i l.doubled m.row l.invariant.size_is l.invariant.top_is (omega arith) c.loop-i-test.true m.invariant.0 m.invariant.1,
    )

pub xtime-doubled-requires : goal.xtime-doubled-requires
xtime-doubled-requires c = tt

pub loop-size-smaller : goal.loop-size-smaller
loop-size-smaller c =
    let l = c.loop-size in
    omega (arith, pow_pos l.invariant.power)

pub loop-size-preserved : goal.loop-size-preserved
loop-size-preserved c =
    let l = c.loop-size in
    let m = c.loop-i in
    let e : 2 * l.size ≡ l.size + m.i = omega arith in
    record {
      power = suc l.invariant.power;
      size_is = ap (λ (n : ℕ). 2 * n) l.invariant.size_is ∙ sym (pow-succ' 2 l.invariant.power);
      top_is = c.xtime-doubled.ensures ∙ ap xtimes l.invariant.top_is ∙ doubled_more l.invariant.power _;
      long = m.invariant.0;
      made = rw e m.invariant.1;
    }

pub returns : goal.returns
returns c =
    let l = c.loop-size in
    let a = c.args.a in
    sym (take_all l.size l.row (omega arith)) ∙ l.invariant.made ∙ take_all l.size (multiples a) (omega (arith, length_multiples a))
