-- `sums` meets its contract: a turn adds the sums of one word more. Assumes nothing.
use mathlib.Core.Path.{◌≡◌, sym, ◌∙◌}
use mathlib.Core.List.{[]}
use Prim.Native.Nat.{◌-◌, ◌/◌, ◌%◌, ◌<◌}
use native.Mathlib.Omega.{arith}
use lib.ListN.{get_or, get_or-map}
use Rattle.fields.specs.Byte.{xor}
use Rattle.weights.specs.Rows.{byte_rows}
use Rattle.weights.proofs.Picked.{own_row}
use Rattle.openings.proofs.Settled.{Counted}
use Rattle.openings.proofs.Weighted.{readable_lows, readable_highs, weight_positive, next_turn, none_yet, all_there}
use Rattle.openings.proofs.byte.sums.Goals as goal
use Rattle.openings.proofs.byte.sums.Goals.{In-loop-i, Start}

-- as many words as parties
many : (c : Start) → Counted c.args.n c.args.words.now
many c = (c.requires.0, c.requires.1, c.requires.2)

pub overflow_sub-count : goal.overflow_sub-count
overflow_sub-count c = omega (arith, c.threshold.ensures)

pub loop-i-init : goal.loop-i-init
loop-i-init c =
    let m = many (goal.at.loop-i-init c).Start in
    (none_yet _ _ (readable_lows _ c.args.words.now m), none_yet _ _ (readable_highs _ c.args.words.now m))

-- in a turn: the row, and a weight that is not 0
module _ (c : In-loop-i) where
  inside : c.loop-i.i < c.args.n
  inside = omega (arith, c.loop-i-test.true, c.requires.2)

  row_is : c.byte_row-row.result ≡ get_or byte_rows (c.args.n - 3) []
  row_is = c.byte_row-row.ensures ∙ own_row byte_rows c.args.n c.requires.0 c.requires.1

  positive : 0 < get_or c.byte_row-row.result c.loop-i.i 0
  positive = rw row_is (weight_positive c.args.n c.loop-i.i c.requires.0 c.requires.1 inside)

pub terms-low-requires : goal.terms-low-requires
terms-low-requires c =
    (positive (goal.at.terms-low-requires c).In-loop-i, omega arith, omega (arith, c.threshold.ensures, c.requires))

pub terms-high-requires : goal.terms-high-requires
terms-high-requires c =
    (positive (goal.at.terms-high-requires c).In-loop-i, omega arith, omega (arith, c.threshold.ensures, c.requires))

pub loop-i-preserved : goal.loop-i-preserved
unfolding xor
loop-i-preserved c =
    let l = c.loop-i in
    let words = c.args.words.now in
    let t = c.threshold in
    let s = goal.at.loop-i-preserved c in (
      next_turn _ _ (readable_lows _ words (many s.Start)) l.i t.result _ _ _ _ (inside s.In-loop-i) t.ensures (row_is s.In-loop-i)
          (sym (get_or-map (λ w. w % 256) words l.i 0)) l.invariant.0 c.terms-low.ensures,
      next_turn _ _ (readable_highs _ words (many s.Start)) l.i t.result _ _ _ _ (inside s.In-loop-i) t.ensures (row_is s.In-loop-i)
          (sym (get_or-map (λ w. w / 256 % 256) words l.i 0)) l.invariant.1 c.terms-high.ensures,
    )

pub returns : goal.returns
returns c =
    let l = c.loop-i in
    let m = many (goal.at.returns c).Start in
    let e : l.i ≡ c.args.n = omega arith in
    (all_there _ _ (readable_lows _ c.args.words.now m) l.i _ e l.invariant.0, all_there _ _ (readable_highs _ c.args.words.now m) l.i _ e l.invariant.1)
