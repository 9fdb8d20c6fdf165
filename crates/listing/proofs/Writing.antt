-- Text put into a buffer piece by piece, and decimal digits. Assumes nothing.
use mathlib.Core.Path.{◌≡◌, sym, ap, ap₂, ◌∙◌}
use mathlib.Core.Bool.{cond}
use mathlib.Core.Logic.{◌⊎◌, inl, inr, ⊎_elim}
use mathlib.Core.List.{List, [], ◌∷◌, ◌++◌, append_assoc, append-nil}
use Prim.Native.Nat.{ℕ, zero, suc, ◌+◌, ◌-◌, ◌*◌, ◌/◌, ◌%◌, ◌^◌, ◌≤◌, ◌<◌}
use native.Mathlib.Nat.{add-zero, pow-zero, pow-suc, pow-le-pow_right}
use native.Mathlib.Omega.{arith}
use lib.Dec.{leb}
use lib.ListN.{length, take, drop, length-append, length-drop, take-append-drop}
use lib.Seq.{length-take-le, take_at, drop_at, drop-drop}
use borrow.Author.Tests.{lt-ltb, le-ltb, leb-true, leb-false}
use mir.Val.{Fits}
use mir.Syntax.{w64}
use Rattle.io.specs.Digits.{hex_digit_ascii, last_digits, IsDigitCount}
use Rattle.lines.proofs.Reading.{either}
use Rattle.decimal.specs.Decimal.{spelled, decimal}
use Rattle.listing.specs.Text.{put, Wrote}

-- ---- one piece after another

module _ (at : ℕ) (a out : List ℕ) (room : at + length a ≤ length out) where
  head : length (take at out ++ a) ≡ at + length a
  head = length-append (take at out) a ∙ ap (λ (m : ℕ). m + length a) (length-take-le at out (omega arith))

  pub length_put : length (put at a out) ≡ length out
  length_put =
      length-append (take at out ++ a) (drop (at + length a) out) ∙ ap₂ ◌+◌ head (length-drop (at + length a) out) ∙ omega arith

  pub put_put : (b : List ℕ) → put (at + length a) b (put at a out) ≡ put at (a ++ b) out
  put_put b =
      let m = at + length a in
      let l : m + length b ≡ at + length (a ++ b) = omega (arith, length-append a b) in
      ap₂ (λ (x y : List ℕ). x ++ b ++ y) (take_at (take at out ++ a) (drop m out) m head)
      (sym (drop-drop (length b) m (put at a out)) ∙ ap (drop (length b)) (drop_at (take at out ++ a) (drop m out) m head) ∙ drop-drop (length b) m out)
      ∙ ap₂ (λ (x : List ℕ) (j : ℕ). x ++ drop j out) (append_assoc (take at out) a b) l

module _ {before : List ℕ} {at : ℕ} {a middle : List ℕ} {next : ℕ} (w : Wrote before at a middle next) where
  room : at + length a ≤ length before
  room = omega (arith, w.place, w.inside)

  -- a buffer stays as long as it is
  pub length_wrote : length middle ≡ length before
  length_wrote = ap length w.held ∙ length_put at a before room

  -- what two calls wrote
  pub then : {b after : List ℕ} {last : ℕ} → Wrote middle next b after last → Wrote before at (a ++ b) after last
  then {b} {after} {last} v = record {
    held = v.held ∙ ap₂ (λ (j : ℕ) (x : List ℕ). put j b x) w.place w.held ∙ put_put at a before room b;
    place = v.place ∙ ap (λ (j : ℕ). j + length b) w.place ∙ omega (arith, length-append a b);
    inside = omega (arith, v.inside, length_wrote);
  }

-- nothing is written
pub wrote_none : (out : List ℕ) (at : ℕ) → at ≤ length out → Wrote out at [] out at
wrote_none out at h =
    record {
      held = sym (ap₂ ◌++◌ (append-nil (take at out)) (ap (λ (j : ℕ). drop j out) (add-zero at)) ∙ take-append-drop at out);
      place = sym (add-zero at);
      inside = h;
    }

pub wrote_same : {before a b after : List ℕ} {at next : ℕ} → a ≡ b → Wrote before at a after next → Wrote before at b after next
wrote_same e w = rw e at w

-- ---- decimal digits

glyph_small : (d : ℕ) → d < 10 → hex_digit_ascii d ≡ 48 + d
glyph_small d h = ap (λ t. cond t (48 + d) (87 + d)) (lt-ltb d 10 h)

last_digit : (n : ℕ) → hex_digit_ascii (n % 10) ≡ 48 + n % 10
last_digit n = glyph_small (n % 10) (omega arith)

ten_pos : (r : ℕ) → 0 < 10 ^ r
ten_pos zero = omega (arith, pow-zero 10)
ten_pos (suc r) = omega (arith, pow-suc 10 r, ten_pos r)

-- the fewest digits that hold n are those that are spelled
fewest : (r h n : ℕ) → n < 10 ^ suc r → (1 < suc r → 10 ^ r ≤ n) → n < h → last_digits 10 (suc r) n ≡ spelled h n
unfolding spelled
fewest zero zero n u l f = absurd (omega arith)
fewest zero (suc h) n u l f = simp (lt-ltb n 10 (omega arith), last_digit n)
fewest (suc r) zero n u l f = absurd (omega arith)
fewest (suc r) (suc h) n u l f =
    let p : 10 ^ suc (suc r) ≡ 10 ^ suc r * 10 = pow-suc 10 (suc r) in
    let q : 10 ^ suc r ≡ 10 ^ r * 10 = pow-suc 10 r in
    let g : 10 ^ suc r ≤ n = l (omega arith) in
    let z : 0 < 10 ^ r = ten_pos r in
    let big : 10 ≤ n = omega arith in
    let below : n / 10 < 10 ^ suc r = omega arith in
    let above : 10 ^ r ≤ n / 10 = omega arith in
    ap₂ (λ (x : List ℕ) (d : ℕ). x ++ (d ∷ [])) (fewest r h (n / 10) below (λ b. above) (omega arith)) (last_digit n)
    ∙ sym (ap (λ t. cond t [] (spelled h (n / 10)) ++ ((48 + n % 10) ∷ [])) (le-ltb n 10 big))

pub decimal_digits : (n r : ℕ) → IsDigitCount 10 1 n r → last_digits 10 r n ≡ decimal n
decimal_digits n zero f = absurd (omega (arith, f.0))
decimal_digits n (suc r) f =
    let e : suc r - 1 ≡ r = omega arith in
    fewest r (suc n) n f.1 (λ h. rw e at (f.2 h)) (omega arith)

-- a number of 64 bits has at most 20 digits
pub few_digits : (n r : ℕ) → IsDigitCount 10 1 n r → Fits w64 n → r ≤ 20
few_digits n r f h = elim (leb_cases r) [ inl s ↦ s | inr l ↦ absurd (omega (arith, f.2 (omega arith), pow-le-pow_right {n = 10} (omega arith) {i = 20} {j = r - 1} (omega arith), h.fits)) ]
  where
    leb_cases : (m : ℕ) → (m ≤ 20) ⊎ (20 < m)
    leb_cases m = ⊎_elim (λ e. inl (leb-true m 20 e)) (λ e. inr (leb-false m 20 e)) (either (leb m 20))
