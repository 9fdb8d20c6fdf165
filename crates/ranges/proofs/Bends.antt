-- Steps that are tested from the left until one fails. Assumes nothing.
use Rattle.std.proofs.Common.{◌≡◌, ℕ, suc, ◌+◌, ◌-◌, ◌<◌, ◌≤◌, Bool, true, false, cond, not, ◌&&◌, ◌||◌, eqb, ltb, leb, List, [], ◌∷◌, length, get_or, drop, sym, refl, ap, ◌∙◌, true≢false, add-one, arith, length-drop, drop-cons, ltb-false, ltb-true, eq-eqb, ne_eqb, le-leb}
use mathlib.Core.List.{tail-eq_of_cons-eq}
use mathlib.Core.Logic.{◌⊎◌, ⊎_elim}
use borrow.Author.Tests.{lt-leb}
use Rattle.std.proofs.lemmas.List.{nil_from_length}
use Rattle.ranges.specs.Steps.{steps, bend, in_order}

pub first : (xs : List ℕ) (i : ℕ) → i < length xs → drop i xs ≡ get_or xs i 0 ∷ drop (i + 1) xs
first xs i h = drop-cons xs i 0 h ∙ ap (λ (j : ℕ). get_or xs i 0 ∷ drop j xs) (sym (add-one i))

-- ---- the first two of what is left of a list, beside what is left of it without its first

abbrev pub Behind : (left later : List ℕ) → Type 0
Behind left later = (x : ℕ) × (left ≡ x ∷ later)

module _ (left later : List ℕ) (h : Behind left later) where
  module _ (left' later' : List ℕ) (x y : ℕ) (e : left ≡ x ∷ left') (f : later ≡ y ∷ later') where
    pub behind_next : left' ≡ y ∷ later'
    behind_next = tail-eq_of_cons-eq (sym e ∙ h.1) ∙ f

    pub bend_more : (test : ℕ → ℕ → Bool) → test x y ≡ true → bend test left ≡ suc (bend test left')
    unfolding bend
    bend_more test t = let n = behind_next in rw (e, n, t)

    pub bend_fails : (test : ℕ → ℕ → Bool) → test x y ≡ false → bend test left ≡ 1
    unfolding bend
    bend_fails test t = let n = behind_next in rw (e, n, t)

  module _ (over : (length left ≡ 0) ⊎ (length later ≡ 0)) where
    pub one_left : left ≡ h.0 ∷ []
    one_left = h.1 ∙ ap (λ (l : List ℕ). h.0 ∷ l) (⊎_elim (λ n. absurd (omega (arith, n, ap length h.1))) (λ n. nil_from_length later n) over)

    pub bend_ends : (test : ℕ → ℕ → Bool) → bend test left ≡ length left
    unfolding bend
    bend_ends test = let n = one_left in rw n

-- one step before what is left, and none
pub steps_back : (test : ℕ → ℕ → Bool) (xs : List ℕ) (i : ℕ) → 1 ≤ i → i < length xs
    → steps test (drop (i - 1) xs) ≡ test (get_or xs (i - 1) 0) (get_or xs i 0) && steps test (drop i xs)
unfolding steps
steps_back test xs i h k = rw (two, first xs i k)
  where
    two : drop (i - 1) xs ≡ get_or xs (i - 1) 0 ∷ get_or xs i 0 ∷ drop (i + 1) xs
    two =
        first xs (i - 1) (omega arith)
        ∙ ap (λ (j : ℕ). get_or xs (i - 1) 0 ∷ drop j xs) (omega arith)
        ∙ ap (λ (l : List ℕ). get_or xs (i - 1) 0 ∷ l) (first xs i k)

pub steps_last : (test : ℕ → ℕ → Bool) (xs : List ℕ) (i : ℕ) → length xs ≤ i + 1 → steps test (drop i xs) ≡ true
unfolding steps
steps_last test xs i l = short (drop i xs) (omega (arith, length-drop i xs))
  where
    short : (ys : List ℕ) → length ys ≤ 1 → steps test ys ≡ true
    short [] h = refl
    short (y ∷ []) h = refl
    short (y ∷ z ∷ zs) h = absurd (omega arith)

pub steps_short : (test : ℕ → ℕ → Bool) (xs : List ℕ) → length xs < 1 → steps test xs ≡ true
unfolding steps
steps_short test [] h = refl
steps_short test (x ∷ xs) h = absurd (omega arith)

pub bend_steps : (test : ℕ → ℕ → Bool) (xs : List ℕ) → bend test xs ≡ length xs → steps test xs ≡ true
unfolding bend steps
bend_steps test [] h = refl
bend_steps test (x ∷ []) h = refl
bend_steps test (x ∷ y ∷ ys) h = cases (test x y) (λ e. bend_steps test (y ∷ ys) e) h
  where
    cases : (t : Bool) → (bend test (y ∷ ys) ≡ suc (length ys) → steps test (y ∷ ys) ≡ true) → cond t (suc (bend test (y ∷ ys))) 1 ≡ suc (suc (length ys))
        → (t && steps test (y ∷ ys)) ≡ true
    cases true go h = go (omega arith)
    cases false go h = absurd (omega arith)

pub steps_bend : (test : ℕ → ℕ → Bool) (xs : List ℕ) → steps test xs ≡ true → bend test xs ≡ length xs
unfolding bend steps
steps_bend test [] h = refl
steps_bend test (x ∷ []) h = refl
steps_bend test (x ∷ y ∷ ys) h = cases (test x y) (λ e. steps_bend test (y ∷ ys) e) h
  where
    cases : (t : Bool) → (steps test (y ∷ ys) ≡ true → bend test (y ∷ ys) ≡ suc (length ys)) → (t && steps test (y ∷ ys)) ≡ true
        → cond t (suc (bend test (y ∷ ys))) 1 ≡ suc (suc (length ys))
    cases true go h = ap suc (go h)
    cases false go h = cc

pub bend_most : (test : ℕ → ℕ → Bool) (xs : List ℕ) → bend test xs ≤ length xs
unfolding bend
bend_most test [] = omega arith
bend_most test (x ∷ []) = omega arith
bend_most test (x ∷ y ∷ ys) = cases (test x y) (bend_most test (y ∷ ys))
  where
    cases : (t : Bool) {r : ℕ} → r ≤ suc (length ys) → cond t (suc r) 1 ≤ suc (suc (length ys))
    cases true h = omega arith
    cases false h = omega arith

-- every step passes exactly where the count is the length
pub steps_by_bend : (test : ℕ → ℕ → Bool) (xs : List ℕ) → eqb (bend test xs) (length xs) ≡ steps test xs
steps_by_bend test xs = cases (steps test xs) refl
  where
    cases : (t : Bool) → steps test xs ≡ t → eqb (bend test xs) (length xs) ≡ t
    cases true e = eq-eqb _ _ (steps_bend test xs e)
    cases false e = ne_eqb (bend test xs) (length xs) (λ h. absurd (true≢false (sym (bend_steps test xs h) ∙ e)))

-- what the code tests of a step
pub broken : (rising : Bool) (x y : ℕ) → (rising && ltb y x) || (not rising && ltb x y) ≡ true → in_order rising x y ≡ false
broken true x y e = cases (ltb y x) refl
  where
    cases : (t : Bool) → ltb y x ≡ t → leb x y ≡ false
    cases true f = lt-leb x y (ltb-true y x f)
    cases false f = let z : ◌≡◌ {A = ℕ} 0 1 = cc in absurd (omega arith)
broken false x y e = lt-leb y x (ltb-true x y e)

pub in_step : (rising : Bool) (x y : ℕ) → (rising && ltb y x) || (not rising && ltb x y) ≡ false → in_order rising x y ≡ true
in_step true x y e = cases (ltb y x) refl
  where
    cases : (t : Bool) → ltb y x ≡ t → leb x y ≡ true
    cases true f = let z : ◌≡◌ {A = ℕ} 0 1 = cc in absurd (omega arith)
    cases false f = le-leb x y (ltb-false y x f)
in_step false x y e = le-leb y x (ltb-false x y e)
