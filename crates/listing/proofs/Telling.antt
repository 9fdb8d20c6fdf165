-- The lines of the listing. Assumes nothing.
use mathlib.Core.Path.{◌≡◌, refl, sym, ap, ap₂, ◌∙◌}
use mathlib.Core.List.{List, [], ◌∷◌, ◌++◌, append_assoc, append-nil}
use Prim.Native.Nat.{ℕ, zero, suc, ◌+◌, ◌≤◌, ◌<◌}
use native.Mathlib.Nat.{add-zero}
use native.Mathlib.Numerals.{add-one}
use native.Mathlib.Omega.{arith}
use lib.ListN.{length, take, get_or, length-append}
use Rattle.std.proofs.lemmas.List.{get_or_default, get_or-take}
use Rattle.decimal.specs.Decimal.{decimal}
use Rattle.listing.specs.declared.course.Probe.{Probe}
use Rattle.listing.specs.Lines.{probe_line, probe_lines, no_price_line, clears_line, totals_line, not_noted, course_trail}

pub clears_none : (answer price : ℕ) → answer ≡ 0 → clears_line answer price ≡ no_price_line
unfolding clears_line
clears_none answer price e = ap (λ (i : ℕ). clears_line i price) e

pub clears_some : (answer price : ℕ) → (answer ≡ 0 → ⊥)
    → clears_line answer price ≡ (99 ∷ 108 ∷ 101 ∷ 97 ∷ 114 ∷ 115 ∷ 32 ∷ []) ++ (decimal answer ++ ((32 ∷ []) ++ (decimal price ++ (10 ∷ []))))
unfolding clears_line
clears_some zero price h = absurd (h refl)
clears_some (suc i) price h = refl

pub totals_none : (answer demand supply : ℕ) → answer ≡ 0 → totals_line answer demand supply ≡ []
unfolding totals_line
totals_none answer demand supply e = ap (λ (i : ℕ). totals_line i demand supply) e

pub totals_some : (answer demand supply : ℕ) → (answer ≡ 0 → ⊥)
    → totals_line answer demand supply
    ≡ (100 ∷ 101 ∷ 109 ∷ 97 ∷ 110 ∷ 100 ∷ 32 ∷ [])
    ++ (decimal demand ++ ((32 ∷ 115 ∷ 117 ∷ 112 ∷ 112 ∷ 108 ∷ 121 ∷ 32 ∷ []) ++ (decimal supply ++ (10 ∷ []))))
unfolding totals_line
totals_some zero demand supply h = absurd (h refl)
totals_some (suc i) demand supply h = refl

pub length_course : (trail : List Probe) (m : ℕ) → length (course_trail trail m) ≡ m
unfolding course_trail
length_course trail zero = refl
length_course trail (suc m) = length-append (course_trail trail m) _ ∙ omega (arith, length_course trail m)

-- the line of one probe more
pub probes_more : (probe : ℕ) (ps : List (ℕ × ℕ)) (p : ℕ × ℕ) → probe_lines probe (ps ++ (p ∷ [])) ≡ probe_lines probe ps ++ probe_line (probe + length ps) p
unfolding probe_lines
probes_more probe [] p = append-nil _ ∙ ap (λ (m : ℕ). probe_line m p) (sym (add-zero probe))
probes_more probe (q ∷ ps) p =
    ap (λ (l : List ℕ). probe_line probe q ++ l) (probes_more (suc probe) ps p ∙ ap (λ (m : ℕ). probe_lines (suc probe) ps ++ probe_line m p) (shift probe (length ps)))
    ∙ sym (append_assoc (probe_line probe q) _ _)
  where
    shift : (a b : ℕ) → suc a + b ≡ a + suc b
    shift a b = omega arith

-- one probe more; of more than are noted, zeros
pub course_next : (trail : List Probe) (i : ℕ)
    → probe_lines 1 (course_trail trail (i + 1))
    ≡ probe_lines 1 (course_trail trail i) ++ probe_line (i + 1) ((get_or trail i not_noted).index, (get_or trail i not_noted).verdict)
unfolding course_trail
course_next trail i =
    let q : Probe = get_or trail i not_noted in
    let f : 1 + length (course_trail trail i) ≡ i + 1 = omega (arith, length_course trail i) in
    ap (λ (j : ℕ). probe_lines 1 (course_trail trail j)) (add-one i)
    ∙ probes_more 1 (course_trail trail i) (q.index, q.verdict)
    ∙ ap (λ (j : ℕ). probe_lines 1 (course_trail trail i) ++ probe_line j (q.index, q.verdict)) f

-- of one that is noted, whatever is read past the trail
pub course_more : (trail : List Probe) (i : ℕ) (p : Probe) → i < length trail
    → probe_lines 1 (course_trail trail (i + 1)) ≡ probe_lines 1 (course_trail trail i) ++ probe_line (i + 1) ((get_or trail i p).index, (get_or trail i p).verdict)
course_more trail i p h =
    course_next trail i
    ∙ ap (λ (q : Probe). probe_lines 1 (course_trail trail i) ++ probe_line (i + 1) (q.index, q.verdict)) (get_or_default trail i not_noted p h)

-- those that are listed are among the first m
pub course_within : (trail : List Probe) (m i : ℕ) → i ≤ m → m ≤ length trail → course_trail (take m trail) i ≡ course_trail trail i
unfolding course_trail
course_within trail m zero h k = refl
course_within trail m (suc i) h k =
    ap₂ (λ (ps : List (ℕ × ℕ)) (q : Probe). ps ++ ((q.index, q.verdict) ∷ []))
    (course_within trail m i (omega arith) k) (get_or-take m trail i not_noted (omega arith))
