-- `fill_row` meets its contract: a row of 1, 2, 4, 8 entries is doubled. Assumes nothing.
use mathlib.Core.Path.{sym, ◌∙◌}
use mathlib.Core.List.{List}
use Prim.Native.Nat.{ℕ, ◌<◌}
use native.Mathlib.Omega.{arith}
use lib.ListN.{length-set}
use Rattle.opening_rows.specs.Rows.{terms, RowTo}
use Rattle.opening_rows.proofs.Laws.{first, doubled}
use Rattle.opening_rows.proofs.fill_row.Goals as goal
use Rattle.opening_rows.proofs.fill_row.Goals.{After-double, After-double-2, After-double-3, After-terms-eight, Start}

-- the weight and the point are bytes
weight_lt : (s : Start) → s.args.weight < 256
weight_lt s = omega arith

point_lt : (s : Start) → s.args.point < 256
point_lt s = omega arith

-- the row so far, as many entries as that
module _ (t : After-terms-eight) where
  abbrev HasTo : ℕ → List ℕ → Type 0
  HasTo size row = RowTo size t.args.weight t.args.unit t.args.point t.args.count row

two : (c : After-double) → HasTo c.before.before 2 c.double.new.row
unfolding terms
two c =
    doubled _ _ _ _ (weight_lt c.before.before.before.before.before.before.before) (point_lt c.before.before.before.before.before.before.before) 1 _ _ _ _ (omega arith) (omega arith) c.requires.5.0 c.terms-one.ensures (first _ _ _ _ (weight_lt c.before.before.before.before.before.before.before) (point_lt c.before.before.before.before.before.before.before) c.args.row.now c.requires.4) c.double.ensures

four : (c : After-double-2) → HasTo c.before.before.before.before.before.before 4 c.double-2.new.row
unfolding terms
four c =
    doubled _ _ _ _ (weight_lt c.before.before.before.before.before.before.before.before.before.before.before) (point_lt c.before.before.before.before.before.before.before.before.before.before.before) 2 _ _ _ _ (omega arith) (omega (arith, c.requires.3)) c.requires.5.1 c.terms-two.ensures (two c.before.before.before.before) c.double-2.ensures

eight : (c : After-double-3) → HasTo c.before.before.before.before.before.before.before.before.before.before 8 c.double-3.new.row
unfolding terms
eight c =
    doubled _ _ _ _ (weight_lt c.before.before.before.before.before.before.before.before.before.before.before.before.before.before.before) (point_lt c.before.before.before.before.before.before.before.before.before.before.before.before.before.before.before) 4 _ _ _ _ (omega arith) (omega (arith, c.requires.3)) c.requires.5.2 c.terms-four.ensures (four c.before.before.before.before) c.double-3.ensures

pub double-requires : goal.double-requires
double-requires c = simp length-set (omega (arith, c.requires.4))

pub double-requires-2 : goal.double-requires-2
double-requires-2 c = omega (arith, (two (goal.at.double-requires-2 c).After-double).long)

pub double-requires-3 : goal.double-requires-3
double-requires-3 c = omega (arith, (four (goal.at.double-requires-3 c).After-double-2).long)

pub double-requires-4 : goal.double-requires-4
double-requires-4 c = omega (arith, (eight (goal.at.double-requires-4 c).After-double-3).long)

pub shape_of-row : goal.shape_of-row
shape_of-row c =
    c.double-4.ensures.long ∙ (eight (goal.at.shape_of-row c).After-double-3).long ∙ sym c.requires.4

pub returns : goal.returns
unfolding terms
returns c =
    doubled _ _ _ _ (weight_lt (goal.at.returns c).Start) (point_lt (goal.at.returns c).Start) 8 _ _ _ _ (omega arith) (omega (arith, c.requires.3)) c.requires.5.3 c.terms-eight.ensures (eight (goal.at.returns c).After-double-3) c.double-4.ensures
