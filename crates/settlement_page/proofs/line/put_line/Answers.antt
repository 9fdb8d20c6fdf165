-- `put_line` meets its contract: the title, and then the amounts. Assumes nothing.
use mathlib.Core.Path.{◌≡◌, sym, ap, ap₂, ◌∙◌}
use mathlib.Core.List.{List, ◌++◌}
use Prim.Native.Nat.{ℕ, ◌≤◌}
use native.Mathlib.Omega.{arith}
use lib.ListN.{length}
use lib.Seq.{length-take-le}
use Rattle.settlement_page.proofs.Lines.{length_title}
use Rattle.settlement_page.proofs.Parts.{joined}
use Rattle.settlement_page.proofs.line.put_line.Goals as goal
use Rattle.settlement_page.proofs.line.put_line.Goals.{After-copy_from_slice}

-- once the title is written
module _ (c : After-copy_from_slice) where
  abbrev out : List ℕ
  out = c.args.out.now

  inside : 10 ≤ length out
  inside = omega (arith, c.requires.0)

  size : length c.copy_from_slice.new.self ≡ 10
  size = ap length (c.copy_from_slice.ensures.after ∙ c.title.ensures) ∙ length_title c.args.pair c.requires.2

pub slice_bounds-copy_from_slice-end-2 : goal.slice_bounds-copy_from_slice-end-2
slice_bounds-copy_from_slice-end-2 c = sym (length-take-le 10 c.args.out.now (omega (arith, c.requires.0)))

pub copy_from_slice-requires : goal.copy_from_slice-requires
copy_from_slice-requires c =
    length-take-le 10 c.args.out.now (omega (arith, c.requires.0)) ∙ sym (ap length c.title.ensures ∙ length_title c.args.pair c.requires.2)

pub returns : goal.returns
returns c =
    joined 10 (out (goal.at.returns c).After-copy_from_slice) c.copy_from_slice.new.self (inside (goal.at.returns c).After-copy_from_slice) (size (goal.at.returns c).After-copy_from_slice) c.put_amounts.new.out
    ∙ ap₂ ◌++◌ (c.copy_from_slice.ensures.after ∙ c.title.ensures) c.put_amounts.ensures
