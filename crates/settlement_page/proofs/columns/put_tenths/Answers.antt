-- `put_tenths` meets its contract: the columns that are not reached are blank. Assumes nothing.
use mathlib.Core.Path.{◌≡◌, sym, ap, ap₂, ◌∙◌}
use mathlib.Core.List.{List, ◌++◌}
use Prim.Native.Nat.{ℕ, suc, ◌+◌, ◌-◌, ◌/◌, ◌≤◌}
use native.Mathlib.Omega.{arith}
use lib.ListN.{length, take, drop, replicate, length-replicate}
use lib.Seq.{length-take-le}
use Rattle.decimal.proofs.Digits.{decimal_fits}
use Rattle.settlement_page.specs.Page.{right, in_tenths}
use Rattle.settlement_page.proofs.Aligned.{right_wider, length_tenths}
use Rattle.settlement_page.proofs.Parts.{length_rest, joined}
use Rattle.settlement_page.proofs.columns.put_tenths.Goals as goal
use Rattle.settlement_page.proofs.columns.put_tenths.Goals.{After-fill}

-- once the first columns are blank
module _ (c : After-fill) where
  abbrev columns : List ℕ
  columns = c.args.columns.now

  abbrev u : ℕ
  u = c.args.unreached

  inside : u ≤ length columns
  inside = omega (arith, c.requires.0)

  blanks : c.fill.new.self ≡ replicate u 32
  blanks = c.fill.ensures.after (λ y e. e) ∙ ap (λ (m : ℕ). replicate m 32) (length-take-le u columns inside)

  size : length c.fill.new.self ≡ u
  size = ap length blanks ∙ length-replicate {A = ℕ} u 32

  rest : length (take (length (c.fill.new.self ++ drop u columns) - u) (drop u (c.fill.new.self ++ drop u columns))) ≡ length columns - u
  rest = length_rest u columns c.fill.new.self inside size

  fits : length (in_tenths c.args.mark c.args.n) ≤ length columns - u
  fits =
      let v = length columns - u - 2 in
      let e : v ≡ suc (v - 1) = omega (arith, c.requires.0) in
      omega (
        arith,
        c.requires.0,
        length_tenths c.args.mark c.args.n,
        decimal_fits (v - 1) (c.args.n / 10) (rw e at c.requires.1),
      )

pub slice_bounds-fill-end-2 : goal.slice_bounds-fill-end-2
slice_bounds-fill-end-2 c = sym (length-take-le c.args.unreached c.args.columns.now (omega (arith, c.requires.0)))

pub put_last-requires : goal.put_last-requires
put_last-requires c = rw (rest (goal.at.put_last-requires c).After-fill) (omega (arith, c.requires.0), c.requires.1)

pub returns : goal.returns
returns c =
    let text = in_tenths c.args.mark c.args.n in
    let all : u (goal.at.returns c).After-fill + (length (columns (goal.at.returns c).After-fill) - u (goal.at.returns c).After-fill) ≡ length (columns (goal.at.returns c).After-fill) = omega (arith, inside (goal.at.returns c).After-fill) in
    joined (u (goal.at.returns c).After-fill) (columns (goal.at.returns c).After-fill) c.fill.new.self (inside (goal.at.returns c).After-fill) (size (goal.at.returns c).After-fill) c.put_last.new.columns
    ∙ ap₂ ◌++◌ (blanks (goal.at.returns c).After-fill) (c.put_last.ensures ∙ ap (λ (m : ℕ). right m text) (rest (goal.at.returns c).After-fill))
    ∙ sym (right_wider (u (goal.at.returns c).After-fill) (length (columns (goal.at.returns c).After-fill) - u (goal.at.returns c).After-fill) text (fits (goal.at.returns c).After-fill))
    ∙ ap (λ (m : ℕ). right m text) all
