-- A part of each of the words that are opened together: its low byte, or its high one. Assumes nothing.
use Rattle.std.specs.Prelude.{None}
use mathlib.Core.Path.{◌≡◌, refl, sym, ap, ◌∙◌}
use mathlib.Core.Bool.{Bool, true, false, cond}
use mathlib.Core.List.{List, map}
use Prim.Native.Nat.{ℕ, ◌/◌}
use native.Mathlib.Nat.{mod-lt}
use lib.Dec.{ltb, lit<}
use Rattle.ranges.specs.Lists.{every}
use Rattle.fields.specs.Byte.{bytes}
use Rattle.fields.specs.Gap.{byte_gap}
use Rattle.weights.specs.Rows.{byte_scheme}
use Rattle.openings.specs.Opening.{Opening}
use Rattle.openings.proofs.Parts.{lows, highs, bytes_below, highs_same, every_two}
use Rattle.lowering.specs.Lines.{descended}
use Rattle.lowering.proofs.Parts.{low, high}
use Rattle.openings_at.specs.At.{agreed, opened_at}
use Rattle.openings_at.proofs.Opened.{at_bad, at_good}

pub cond_same : (b : Bool) (x : Opening) {y : Opening} → x ≡ y → cond b x y ≡ y
cond_same true x e = e
cond_same false x e = refl

module _ (t : ℕ) (xs words : List ℕ) where
  pub lows_open : agreed (descended bytes byte_gap t xs (lows words)) ≡ opened_at byte_scheme t xs (lows words)
  lows_open = sym (at_good byte_scheme t xs (lows words) (bytes_below low (λ w. mod-lt w (lit< tt)) words))

  pub highs_open : (small : Bool) → small ≡ every (λ w. ltb w 65536) words
      → cond small (agreed (descended bytes byte_gap t xs (highs words))) None ≡ opened_at byte_scheme t xs (map (λ w. w / 256) words)
  highs_open true e =
      sym (at_good byte_scheme t xs (highs words) (bytes_below high (λ w. mod-lt (w / 256) (lit< tt)) words))
      ∙ ap (opened_at byte_scheme t xs) (highs_same words (sym e))
  highs_open false e = sym (at_bad byte_scheme t xs (map (λ w. w / 256) words) (every_two words ∙ sym e))
