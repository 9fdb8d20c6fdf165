-- The sections of the lines, from the bytes that they are read from. Assumes nothing.
use Rattle.std.specs.Prelude.{None, Some, unwrap_or, is_some}
use mathlib.Core.Path.{◌≡◌, refl, sym, ap, ap₂, ◌∙◌}
use mathlib.Core.Bool.{Bool, true, false, cond, false≢true}
use mathlib.Core.Logic.{◌⊎◌, inl, inr, ⊎_elim}
use mathlib.Core.List.{List, [], ◌∷◌}
use Prim.Native.Nat.{ℕ, zero, suc, ◌+◌, ◌-◌, ◌*◌, ◌^◌, ◌<◌}
use native.Mathlib.Omega.{arith}
use lib.Dec.{eqb, ltb}
use lib.ListN.{length, take, drop}
use Rattle.refusal.specs.declared.Refusal.TheVariants.{Malformed}
use Rattle.lines.specs.declared.line.Part.{Part}
use Rattle.lines.specs.declared.line.Part.TheVariants.{Empty, Digits, Bad}
use Rattle.decimal.specs.Decimal.{digit}
use Rattle.lines.specs.Lines.{Line, with_digit, grown, ended, lines_after, lines, line_after, first_line, line_length, rest, numbers, bytes_of, formed, past}
use Rattle.sections.specs.Sections.{next_price, rising, good_prices}
use Rattle.plan.specs.Plan.{Reading, faulty, needed, many, prices, ending}
use Rattle.lines.proofs.Again.{after_rest}
use Rattle.lines.proofs.Reading.{either}

-- ---- the lines, one at a time

abbrev begun : Part → Bool
begun Empty = false
begun (Digits v) = true
begun Bad = true

grown_begun : (part : Part) (b : ℕ) → begun (grown part b) ≡ true
unfolding grown with_digit
grown_begun part b = cases (digit b) part
  where
    pick : (t : Bool) (v : ℕ) → begun (cond t Bad (Digits v)) ≡ true
    pick true v = refl
    pick false v = refl

    picks : (s t : Bool) (v : ℕ) → begun (cond s Bad (cond t Bad (Digits v))) ≡ true
    picks true t v = refl
    picks false t v = pick t v

    cases : (t : Bool) (q : Part) → begun (cond t (with_digit q (b - 48)) Bad) ≡ true
    cases true Empty = refl
    cases true (Digits v) = picks (eqb v 0) (ltb (2 ^ 64 - 1) (10 * v + (b - 48))) (10 * v + (b - 48))
    cases true Bad = refl
    cases false q = refl

-- a first line, and the lines after it
Split : Part → List ℕ → Type 0
Split part bytes = lines_after part bytes ≡ line_after part bytes ∷ lines (rest bytes)

newline_or : (part : Part) (b : ℕ) (bytes : List ℕ) → Split (grown part b) bytes → Split part (b ∷ bytes)
unfolding lines_after line_after line_length Split
newline_or part b bytes h = cases (eqb b 10) part h
  where
    cases : (t : Bool) (q : Part) → lines_after (grown q b) bytes ≡ line_after (grown q b) bytes ∷ lines (rest bytes)
        → cond t (ended q ∷ lines_after Empty bytes) (lines_after (grown q b) bytes)
        ≡ cond t (ended q) (line_after (grown q b) bytes) ∷ lines_after Empty (drop (cond t 0 (line_length bytes)) bytes)
    cases true q h = refl
    cases false q h = h

begun_lines : (bytes : List ℕ) (part : Part) → begun part ≡ true → Split part bytes
unfolding lines_after line_after line_length Split
begun_lines [] Empty e = absurd (false≢true e)
begun_lines [] (Digits v) e = refl
begun_lines [] Bad e = refl
begun_lines (b ∷ bytes) part e = newline_or part b bytes (begun_lines bytes (grown part b) (grown_begun part b))

more_lines : (b : ℕ) (bytes : List ℕ) → lines (b ∷ bytes) ≡ first_line (b ∷ bytes) ∷ lines (rest (b ∷ bytes))
unfolding Split
more_lines b bytes = newline_or Empty b bytes (begun_lines bytes (grown Empty b) (grown_begun Empty b))

pub line_of : (bytes : List ℕ) → ((v : ℕ) × (first_line bytes ≡ Some v)) ⊎ (first_line bytes ≡ None)
line_of bytes = cases (first_line bytes) refl
  where
    cases : (l : Line) → first_line bytes ≡ l → ((v : ℕ) × (first_line bytes ≡ Some v)) ⊎ (first_line bytes ≡ None)
    cases (Some v) e = inl (v, e)
    cases None e = inr e

-- ---- a line that has to be there

module _ (at : ℕ) (go : ℕ → List Line → Reading) where
  pub needed_number : (bytes : List ℕ) (v : ℕ) → first_line bytes ≡ Some v → needed at (lines bytes) go ≡ go v (lines (rest bytes))
  unfolding needed line_after
  needed_number [] v e = absurd (let z : ◌≡◌ {A = ℕ} 0 1 = cc in omega arith)
  needed_number (b ∷ bytes) v e = ap (λ (ls : List Line). needed at ls go) (more_lines b bytes ∙ ap (λ (l : Line). l ∷ lines (rest (b ∷ bytes))) e)

  pub needed_misshapen : (bytes : List ℕ) → first_line bytes ≡ None → needed at (lines bytes) go ≡ faulty Malformed at
  unfolding needed lines_after
  needed_misshapen [] e = refl
  needed_misshapen (b ∷ bytes) e = ap (λ (ls : List Line). needed at ls go) (more_lines b bytes ∙ ap (λ (l : Line). l ∷ lines (rest (b ∷ bytes))) e)

-- ---- m lines

module _ (m : ℕ) (bytes : List ℕ) where
  formed_number : (v : ℕ) → first_line bytes ≡ Some v → formed (suc m) bytes ≡ suc (formed m (rest bytes))
  unfolding formed
  formed_number v e = ap (λ (l : Line). cond (is_some l) (suc (formed m (rest bytes))) 0) e

  formed_misshapen : first_line bytes ≡ None → formed (suc m) bytes ≡ 0
  unfolding formed
  formed_misshapen e = ap (λ (l : Line). cond (is_some l) (suc (formed m (rest bytes))) 0) e

  numbers_number : (v : ℕ) → first_line bytes ≡ Some v → numbers (suc m) bytes ≡ v ∷ numbers m (rest bytes)
  unfolding numbers
  numbers_number v e = ap (λ (l : Line). unwrap_or l 0 ∷ numbers m (rest bytes)) e

pub many_all : (m at : ℕ) (bytes : List ℕ) (go : List ℕ → List Line → Reading) → formed m bytes ≡ m
    → many m at (lines bytes) go ≡ go (numbers m bytes) (lines (past m bytes))
unfolding many numbers bytes_of
many_all zero at bytes go h = refl
many_all (suc m) at bytes go h =
    ⊎_elim
    (λ w. needed_number at (λ v ls. many m (at + 1) ls (λ vs ls. go (v ∷ vs) ls)) bytes w.0 w.1
    ∙ many_all m (at + 1) (rest bytes) (λ vs ls. go (w.0 ∷ vs) ls) (omega (arith, formed_number m bytes w.0 w.1))
    ∙ ap₂ (λ (vs bs : List ℕ). go vs (lines bs)) (sym (numbers_number m bytes w.0 w.1)) (after_rest m bytes))
    (λ e. absurd (omega (arith, formed_misshapen m bytes e)))
    (line_of bytes)

pub many_torn : (m at : ℕ) (bytes : List ℕ) (go : List ℕ → List Line → Reading) → formed m bytes < m
    → many m at (lines bytes) go ≡ faulty Malformed (at + formed m bytes)
unfolding many
many_torn zero at bytes go h = absurd (omega arith)
many_torn (suc m) at bytes go h =
    ⊎_elim
    (λ w. needed_number at (λ v ls. many m (at + 1) ls (λ vs ls. go (v ∷ vs) ls)) bytes w.0 w.1
    ∙ many_torn m (at + 1) (rest bytes) (λ vs ls. go (w.0 ∷ vs) ls) (omega (arith, formed_number m bytes w.0 w.1))
    ∙ ap (faulty Malformed) (omega (arith, formed_number m bytes w.0 w.1)))
    (λ e. needed_misshapen at (λ v ls. many m (at + 1) ls (λ vs ls. go (v ∷ vs) ls)) bytes e
    ∙ ap (faulty Malformed) (omega (arith, formed_misshapen m bytes e)))
    (line_of bytes)

-- ---- the prices

module _ (k last : ℕ) (bytes : List ℕ) where
  good_number : (v : ℕ) → first_line bytes ≡ Some v
      → good_prices (suc k) last bytes ≡ cond (next_price last v) (suc (good_prices k v (rest bytes))) 0
  unfolding rising
  good_number v e = ap₂ (λ (s : ℕ) (vs : List ℕ). rising last (take s vs)) (formed_number k bytes v e) (numbers_number k bytes v e)

  good_misshapen : first_line bytes ≡ None → good_prices (suc k) last bytes ≡ 0
  unfolding rising
  good_misshapen e = ap (λ (s : ℕ). rising last (take s (numbers (suc k) bytes))) (formed_misshapen k bytes e)

pub prices_all : (k last at : ℕ) (bytes : List ℕ) (go : List ℕ → List Line → Reading) → good_prices k last bytes ≡ k
    → prices k last at (lines bytes) go ≡ go (numbers k bytes) (lines (past k bytes))
unfolding prices numbers bytes_of
prices_all zero last at bytes go h = refl
prices_all (suc k) last at bytes go h =
    ⊎_elim
    (λ w. let v = w.0 in
    needed_number at
    (λ v ls. cond (next_price last v) (prices k v (at + 1) ls (λ vs ls. go (v ∷ vs) ls)) (faulty Malformed at)) bytes v w.1
    ∙ ⊎_elim
    (λ e. ap (λ (t : Bool). cond t (prices k v (at + 1) (lines (rest bytes)) (λ vs ls. go (v ∷ vs) ls)) (faulty Malformed at)) e
    ∙ prices_all k v (at + 1) (rest bytes) (λ vs ls. go (v ∷ vs) ls)
    (omega (arith, good_number k last bytes v w.1 ∙ ap (λ (t : Bool). cond t (suc (good_prices k v (rest bytes))) 0) e))
    ∙ ap₂ (λ (vs bs : List ℕ). go vs (lines bs)) (sym (numbers_number k bytes v w.1)) (after_rest k bytes))
    (λ e. absurd (omega (arith, good_number k last bytes v w.1 ∙ ap (λ (t : Bool). cond t (suc (good_prices k v (rest bytes))) 0) e)))
    (either (next_price last v)))
    (λ e. absurd (omega (arith, good_misshapen k last bytes e)))
    (line_of bytes)

pub prices_bad : (k last at : ℕ) (bytes : List ℕ) (go : List ℕ → List Line → Reading) → good_prices k last bytes < k
    → prices k last at (lines bytes) go ≡ faulty Malformed (at + good_prices k last bytes)
unfolding prices
prices_bad zero last at bytes go h = absurd (omega arith)
prices_bad (suc k) last at bytes go h =
    ⊎_elim
    (λ w. let v = w.0 in
    needed_number at
    (λ v ls. cond (next_price last v) (prices k v (at + 1) ls (λ vs ls. go (v ∷ vs) ls)) (faulty Malformed at)) bytes v w.1
    ∙ ⊎_elim
    (λ e. let g = good_number k last bytes v w.1 ∙ ap (λ (t : Bool). cond t (suc (good_prices k v (rest bytes))) 0) e in
    ap (λ (t : Bool). cond t (prices k v (at + 1) (lines (rest bytes)) (λ vs ls. go (v ∷ vs) ls)) (faulty Malformed at)) e
    ∙ prices_bad k v (at + 1) (rest bytes) (λ vs ls. go (v ∷ vs) ls) (omega (arith, g))
    ∙ ap (faulty Malformed) (omega (arith, g)))
    (λ e. let g = good_number k last bytes v w.1 ∙ ap (λ (t : Bool). cond t (suc (good_prices k v (rest bytes))) 0) e in
    ap (λ (t : Bool). cond t (prices k v (at + 1) (lines (rest bytes)) (λ vs ls. go (v ∷ vs) ls)) (faulty Malformed at)) e
    ∙ ap (faulty Malformed) (omega (arith, g)))
    (either (next_price last v)))
    (λ e. needed_misshapen at
    (λ v ls. cond (next_price last v) (prices k v (at + 1) ls (λ vs ls. go (v ∷ vs) ls)) (faulty Malformed at)) bytes e
    ∙ ap (faulty Malformed) (omega (arith, good_misshapen k last bytes e)))
    (line_of bytes)

-- ---- no line is left

module _ (at : ℕ) (go : Reading) where
  pub ending_none : (bytes : List ℕ) → length bytes ≡ 0 → ending at (lines bytes) go ≡ go
  unfolding ending lines_after
  ending_none [] h = refl
  ending_none (b ∷ bytes) h = absurd (omega arith)

  pub ending_extra : (bytes : List ℕ) → 0 < length bytes → ending at (lines bytes) go ≡ faulty Malformed at
  unfolding ending
  ending_extra [] h = absurd (omega arith)
  ending_extra (b ∷ bytes) h = ap (λ (ls : List Line). ending at ls go) (more_lines b bytes)
