-- `put_pair` meets its contract. Assumes nothing.
use mathlib.Core.Path.{◌≡◌, sym, ap, ap₂, ◌∙◌}
use mathlib.Core.List.{List, ◌++◌}
use Prim.Native.Nat.{ℕ, ◌+◌, ◌-◌, ◌≤◌}
use native.Mathlib.Omega.{arith}
use lib.ListN.{length, take, drop, take-append-drop}
use lib.Seq.{drop-drop}
use Rattle.settlement_page.specs.Page.{line, line_of}
use Rattle.settlement_page.proofs.Lines.{no_line, one_line, length_line}
use Rattle.settlement.proofs.writing.put_pair.Goals as goal
use Rattle.settlement.proofs.writing.put_pair.Goals.{Else-wants_none}

-- the line that is put, which fits
module _ (c : Else-wants_none) where
  text : line_of c.args.price c.args.pair c.args.wanted c.args.got ≡ line c.args.price c.args.pair c.args.wanted c.args.got
  text = one_line c.args.price c.args.pair c.args.wanted c.args.got c.if-wants_none.false

  size : length (line c.args.price c.args.pair c.args.wanted c.args.got) ≡ 61
  size = length_line c.args.price c.args.wanted c.args.got c.requires.0 c.requires.2 c.args.pair c.requires.1

  room : c.args.at + 61 ≤ length c.args.page.now
  room = omega (arith, ap length text, size, c.requires.3)

pub returns-then-wants_none : goal.returns-then-wants_none
returns-then-wants_none c =
    let page = c.args.page.now in
    let none = no_line c.args.price c.args.pair c.args.wanted c.args.got c.if-wants_none.true in (
      sym (ap (λ (l : List ℕ). take c.args.at page ++ (l ++ drop c.args.at page)) none ∙ take-append-drop c.args.at page),
      omega (arith, ap length none),
    )

pub slice_bounds-put_line-end : goal.slice_bounds-put_line-end
slice_bounds-put_line-end c = room c

pub returns : goal.returns
returns c =
    let page = c.args.page.now in
    let at = c.args.at in
    let over : at + (at + 61 - at) ≡ at + 61 = omega arith in
    let is = c.put_line.ensures ∙ sym (text (goal.at.returns c).Else-wants_none) in (
      ap₂ (λ (l m : List ℕ). take at page ++ (l ++ m)) is (drop-drop (at + 61 - at) at page ∙ ap (λ (m : ℕ). drop m page) over),
      omega (arith, ap length (text (goal.at.returns c).Else-wants_none), size (goal.at.returns c).Else-wants_none),
    )
