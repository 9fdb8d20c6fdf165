-- `fill_rows` meets its contract: a turn makes the two rows of one party. Assumes nothing.
use mathlib.Core.Path.{◌≡◌, sym, ap, ◌∙◌}
use mathlib.Core.List.{List, []}
use Prim.Native.Nat.{ℕ, ◌+◌, ◌-◌, ◌*◌, ◌≤◌, ◌<◌}
use native.Mathlib.Omega.{arith}
use lib.ListN.{take, get_or, length-take, length-drop}
use lib.Seq.{get_or-take}
use Rattle.weights.specs.Rows.{byte_rows}
use Rattle.weights.proofs.Picked.{own_row}
use Rattle.openings.proofs.Weighted.{weight_positive}
use Rattle.opening_rows.proofs.Laws.{put_length, next_rows, by_ones, by_sixteens}
use Rattle.opening_rows.proofs.fill_rows.Goals as goal
use Rattle.opening_rows.proofs.fill_rows.Goals.{In-loop-i}

-- in a turn: what the call was given, and the weight
module _ (c : In-loop-i) where
  inside : c.loop-i.i < c.args.n
  inside = omega (arith, c.loop-i-test.true, length-take c.args.n c.byte_row-row.result)

  weight_is : get_or (take c.args.n c.byte_row-row.result) c.loop-i.i 0 ≡ get_or (get_or byte_rows (c.args.n - 3) []) c.loop-i.i 0
  weight_is =
      get_or-take c.args.n c.byte_row-row.result c.loop-i.i 0 inside
      ∙ ap (λ (r : List ℕ). get_or r c.loop-i.i 0) (c.byte_row-row.ensures ∙ own_row byte_rows c.args.n c.requires.0 c.requires.1)

  positive : 0 < get_or (take c.args.n c.byte_row-row.result) c.loop-i.i 0
  positive = rw weight_is (weight_positive c.args.n c.loop-i.i c.requires.0 c.requires.1 inside)

  few : c.args.n - c.threshold.result ≤ 5
  few = omega (arith, c.threshold.ensures, c.requires)

pub fill_row-requires : goal.fill_row-requires
fill_row-requires c =
    let s = (goal.at.fill_row-requires c).In-loop-i in (
      positive s,
      omega arith,
      few s,
      omega arith,
      simp (length-take, length-drop) (omega (arith, c.loop-i.invariant.long, inside s, c.requires.1)),
      by_ones,
    )

pub fill_row-requires-in-loop-i : goal.fill_row-requires-in-loop-i
fill_row-requires-in-loop-i c =
    let s = (goal.at.fill_row-requires-in-loop-i c).In-loop-i in
    let i = c.loop-i.i in
    let k : 32 * i + 16 - 32 * i ≡ 16 = omega arith in
    let long = c.loop-i.invariant.long in
    let half = put_length (32 * i) (32 * i + 16 - 32 * i) c.loop-i.rows c.fill_row.new.row (omega (arith, long, inside s, c.requires.1)) (c.fill_row.ensures.long ∙ sym k) in (
      positive s,
      omega arith,
      few s,
      omega arith,
      simp (length-take, length-drop) (omega (arith, half, long, inside s, c.requires.1)),
      by_sixteens,
    )

pub loop-i-preserved : goal.loop-i-preserved
loop-i-preserved c =
    let s = (goal.at.loop-i-preserved c).In-loop-i in
    let i = c.loop-i.i in
    let n = c.args.n in
    next_rows n i (32 * i + 16 - 32 * i) (32 * i + 16 + 16 - (32 * i + 16)) _ _ _ _ _ (omega arith) (omega arith) c.loop-i.invariant (inside s) (weight_is s)
    (ap (λ (t : ℕ). n - t) c.threshold.ensures) c.fill_row.ensures c.fill_row-in-loop-i.ensures
