-- `read_pair` meets its contract. Assumes nothing.
use Rattle.std.specs.Prelude.{Option, None, Some}
use mathlib.Core.Path.{◌≡◌, sym, ap, ap₂, ◌∙◌}
use mathlib.Core.Bool.{Bool, true, false, cond, ◌&&◌}
use mathlib.Core.List.{List}
use Prim.Native.Nat.{ℕ}
use lib.Dec.{ltb}
use lib.ListN.{take, drop}
use Rattle.ranges.specs.Lists.{same}
use Rattle.ranges.proofs.Loops.{and_right, and_assoc}
use Rattle.settlement_page.specs.Page.{amounts, in_range}
use Rattle.settlement_page.specs.declared.line.PairRead.{PairRead}
use Rattle.settlement_page.specs.Line.{wanted_on, got_on, begins, fits, shown_at, pair_read}
use Rattle.settlement_page.proofs.Fits.{fits_none, fits_line, fits_short}
use Rattle.settlement_page.proofs.line.read_pair.Goals as goal
use Rattle.settlement_page.proofs.line.read_pair.Goals.{After-tenths-got, Else-not-begins}

-- what is read where the line fits, and where it doesn't
module _ (price pair : ℕ) (page : List ℕ) where
  fit : fits price pair page ≡ true → pair_read price pair page ≡ Some (shown_at pair page)
  fit e = ap (λ t. cond t (Some (shown_at pair page)) None) e

  unfit : fits price pair page ≡ false → pair_read price pair page ≡ None
  unfit e = ap (λ t. cond t (Some (shown_at pair page)) None) e

begun : (c : Else-not-begins) → begins c.args.pair c.args.page.now ≡ true
begun c = sym c.begins.ensures ∙ c.if-not-begins.false

-- once both amounts are read
module _ (c : After-tenths-got) where
  abbrev page : List ℕ
  page = c.args.page.now

  wanted_is : c.tenths-wanted.result ≡ wanted_on page
  wanted_is = c.tenths-wanted.ensures

  got_is : c.tenths-got.result ≡ got_on page
  got_is = c.tenths-got.ensures

  abbrev bytes_same : Bool
  bytes_same = same (take 51 (drop 10 page)) (amounts c.args.price c.tenths-wanted.result c.tenths-got.result)

  -- the line fits by the test of both and that of the bytes
  judged : (t : Bool) → t ≡ in_range c.tenths-wanted.result c.tenths-got.result
      → fits c.args.price c.args.pair page ≡ (ltb 0 c.tenths-wanted.result && t) && bytes_same
  judged t e =
      fits_line c.args.price c.args.pair page (sym c.begins.ensures ∙ c.if-not-begins.false)
      ∙ sym (ap₂ (λ (w g : ℕ). ltb 0 w && (in_range w g && same (take 51 (drop 10 page)) (amounts c.args.price w g))) wanted_is got_is)
      ∙ ap (λ (s : Bool). ltb 0 c.tenths-wanted.result && (s && bytes_same)) (sym e)
      ∙ and_assoc (ltb 0 c.tenths-wanted.result) t bytes_same

pub returns-then-not-begins : goal.returns-then-not-begins
returns-then-not-begins c =
    let page = c.args.page.now in
    let e : begins c.args.pair page ≡ false = sym c.begins.ensures ∙ c.if-not-begins.true in
    rw (fits_none c.args.price c.args.pair page e, e)

pub returns-then-page-lt-LINE : goal.returns-then-page-lt-LINE
returns-then-page-lt-LINE c =
    sym
    (unfit _ _ _
    (fits_short c.args.price c.args.pair c.args.page.now c.requires.0 (begun (goal.at.returns-then-page-lt-LINE c).Else-not-begins) c.if-page-lt-LINE.true))

pub returns-then-not-wanted-in_range : goal.returns-then-not-wanted-in_range
returns-then-not-wanted-in_range c =
    let s = (goal.at.returns-then-not-wanted-in_range c).After-tenths-got in
    let test = c.in_range.result in
    let fails : ltb 0 c.tenths-wanted.result && test ≡ false = c.if-not-wanted-in_range.true in
    sym (unfit _ _ _ (judged s test c.in_range.ensures ∙ ap (λ (t : Bool). t && bytes_same s) fails))

pub is_line-requires : goal.is_line-requires
is_line-requires c =
    (c.requires.0, sym c.in_range.ensures ∙ and_right (ltb 0 c.tenths-wanted.result) _ c.if-not-wanted-in_range.false)

-- where both amounts pass, the bytes decide
decided : (s : After-tenths-got) (t : Bool) → t ≡ in_range s.tenths-wanted.result s.tenths-got.result → ltb 0 s.tenths-wanted.result && t ≡ true
    → fits s.args.price s.args.pair s.args.page.now ≡ bytes_same s
decided s t e passes = judged s t e ∙ ap (λ (t : Bool). t && bytes_same s) passes

pub returns-then-not-is_line : goal.returns-then-not-is_line
returns-then-not-is_line c =
    let s = (goal.at.returns-then-not-is_line c).After-tenths-got in
    sym (unfit _ _ _ (decided s c.in_range.result c.in_range.ensures c.if-not-wanted-in_range.false ∙ sym c.is_line.ensures ∙ c.if-not-is_line.true))

pub returns : goal.returns
returns c =
    let s = (goal.at.returns c).After-tenths-got in
    let e = begun (goal.at.returns c).Else-not-begins in
    let shown : ℕ → ℕ → ℕ → Option PairRead = λ w g b. Some (record { wanted = w; got = g; bytes = b }) in
    ap₂ (λ w g. shown w g 61) (wanted_is s) (got_is s)
    ∙ sym (ap (λ t. shown (cond t (wanted_on (page s)) 0) (cond t (got_on (page s)) 0) (cond t 61 0)) e)
    ∙ sym (fit _ _ _ (decided s c.in_range.result c.in_range.ensures c.if-not-wanted-in_range.false ∙ sym c.is_line.ensures ∙ c.if-not-is_line.false))
