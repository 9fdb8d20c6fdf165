-- A line, byte by byte. Assumes nothing.
use mathlib.Core.Path.{◌≡◌, refl, sym, ap, ◌∙◌}
use mathlib.Core.Bool.{Bool, true, false}
use mathlib.Core.Logic.{◌⊎◌, inl, inr}
use mathlib.Core.List.{List, ◌∷◌}
use Prim.Native.Nat.{ℕ, ◌+◌, ◌-◌, ◌*◌, ◌^◌, ◌/◌, ◌≤◌, ◌<◌}
use native.Mathlib.Numerals.{add-one}
use native.Mathlib.Omega.{arith}
use lib.ListN.{length, drop, get_or, drop_of_length-le}
use lib.Seq.{drop-cons}
use borrow.Author.Tests.{eq-eqb, ne_eqb, lt-ltb, le-ltb}
use Rattle.std.specs.Prelude.{None}
use Rattle.lines.specs.declared.line.Part.{Part}
use Rattle.lines.specs.declared.line.Part.TheVariants.{Digits, Bad}
use Rattle.lines.specs.Lines.{with_digit, grown, ended, line_after, line_length}

-- a digit more
module _ (v d : ℕ) (small : d < 10) where
  pub zero_alone : v ≡ 0 → with_digit (Digits v) d ≡ Bad
  unfolding with_digit
  zero_alone e = rw (eq-eqb v 0 e)

  pub too_large : (v ≡ 0 → ⊥) → (2 ^ 64 - 1 - d) / 10 < v → with_digit (Digits v) d ≡ Bad
  unfolding with_digit
  too_large e h = rw (ne_eqb v 0 e, lt-ltb (2 ^ 64 - 1) (10 * v + d) (omega arith))

  pub one_more : (v ≡ 0 → ⊥) → v ≤ (2 ^ 64 - 1 - d) / 10 → with_digit (Digits v) d ≡ Digits (10 * v + d)
  unfolding with_digit
  one_more e h = rw (ne_eqb v 0 e, le-ltb (2 ^ 64 - 1) (10 * v + d) (omega arith))

-- a byte more
module _ (input : List ℕ) (part : Part) (i : ℕ) (inside : i < length input) where
  first : drop i input ≡ get_or input i 0 ∷ drop (i + 1) input
  first = drop-cons input i 0 inside ∙ ap (λ (j : ℕ). get_or input i 0 ∷ drop j input) (sym (add-one i))

  pub line_stops : get_or input i 0 ≡ 10 → line_after part (drop i input) ≡ ended part
  unfolding line_after
  line_stops e = rw (first, eq-eqb _ 10 e)

  pub length_stops : get_or input i 0 ≡ 10 → i + line_length (drop i input) ≡ i + 1
  unfolding line_length
  length_stops e = rw (first, eq-eqb _ 10 e)

  pub line_goes_on : (get_or input i 0 ≡ 10 → ⊥) → line_after part (drop i input) ≡ line_after (grown part (get_or input i 0)) (drop (i + 1) input)
  unfolding line_after
  line_goes_on e = rw (first, ne_eqb _ 10 e)

  pub length_goes_on : (get_or input i 0 ≡ 10 → ⊥) → i + line_length (drop i input) ≡ i + 1 + line_length (drop (i + 1) input)
  unfolding line_length
  length_goes_on e = rw (first, ne_eqb _ 10 e) (omega arith)

pub line_ends : (input : List ℕ) (part : Part) (i : ℕ) → length input ≤ i → line_after part (drop i input) ≡ None
unfolding line_after
line_ends input part i h = rw (drop_of_length-le input h)

pub length_ends : (input : List ℕ) (i : ℕ) → length input ≤ i → line_length (drop i input) ≡ 0
unfolding line_length
length_ends input i h = rw (drop_of_length-le input h)

-- a test, known
pub either : (t : Bool) → (t ≡ true) ⊎ (t ≡ false)
either true = inl refl
either false = inr refl
