-- Whether the first line of a page is a pair's, byte by byte. Assumes nothing.
use mathlib.Core.Path.{◌≡◌, refl, ap, ◌∙◌}
use mathlib.Core.Bool.{Bool, true, false, cond, ◌&&◌}
use mathlib.Core.List.{List}
use Prim.Native.Nat.{ℕ, ◌≤◌, ◌<◌}
use native.Mathlib.Omega.{arith}
use lib.Dec.{ltb}
use lib.ListN.{length, take, drop, length-drop}
use lib.Seq.{take_all}
use borrow.Author.Tests.{ltb-true, ltb-false}
use Rattle.ranges.specs.Lists.{same}
use Rattle.ranges.specs.Sizes.{highest_price}
use Rattle.ranges.proofs.Loops.{and_false}
use Rattle.ranges.proofs.Compared.{same_differ}
use Rattle.settlement_page.specs.Page.{amounts, in_range}
use Rattle.settlement_page.specs.Line.{wanted_on, got_on, begins, fits}
use Rattle.settlement_page.proofs.Lines.{length_amounts}

-- how many bytes the line of a pair takes
abbrev pub taken : (pair : ℕ) → (page : List ℕ) → ℕ
taken pair page = cond (begins pair page) 61 0

module _ (price pair : ℕ) (page : List ℕ) where
  pub fits_none : begins pair page ≡ false → fits price pair page ≡ true
  unfolding fits
  fits_none e = rw e

  pub fits_line : begins pair page ≡ true → fits price pair page
      ≡ ltb 0 (wanted_on page) && (in_range (wanted_on page) (got_on page) && same (take 51 (drop 10 page)) (amounts price (wanted_on page) (got_on page)))
  unfolding fits
  fits_line e = rw e

  pub fits_short : price ≤ highest_price → begins pair page ≡ true → length page < 61 → fits price pair page ≡ false
  fits_short p e short =
      fits_line e ∙ and_false (ltb 0 (wanted_on page)) _ (split (in_range (wanted_on page) (got_on page)) refl)
    where
      split : (t : Bool) → in_range (wanted_on page) (got_on page) ≡ t → t && same (take 51 (drop 10 page)) (amounts price (wanted_on page) (got_on page)) ≡ false
      split false g = refl
      split true g =
          same_differ (take 51 (drop 10 page)) _
          (λ f.
          omega (
            arith,
            ap length f,
            ap length (take_all 51 (drop 10 page) (omega (arith, length-drop 10 page))),
            length-drop 10 page,
            length_amounts price (wanted_on page) (got_on page) p g,
          ))

  pub taken_inside : price ≤ highest_price → fits price pair page ≡ true → taken pair page ≤ length page
  taken_inside p f = split (ltb (length page) 61) (begins pair page) refl refl
    where
      split : (s t : Bool) → ltb (length page) 61 ≡ s → begins pair page ≡ t → cond t 61 0 ≤ length page
      split true true l e =
          let g : fits price pair page ≡ false = fits_short p e (ltb-true (length page) 61 l) in
          let z : ◌≡◌ {A = ℕ} 0 1 = cc in
          absurd (omega arith)
      split false true l e = ltb-false (length page) 61 l
      split s false l e = omega arith
