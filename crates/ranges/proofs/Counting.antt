-- How many numbers pass a test. Assumes nothing.
use Rattle.std.proofs.Common.{◌≡◌, ℕ, zero, suc, ◌+◌, ◌<◌, ◌≤◌, Bool, true, false, cond, eqb, sym, refl, ap, ◌∙◌, add-zero, add-suc, one-add, arith, eqb-true}
use borrow.Author.Tests.{eqb-false}
use Rattle.ranges.specs.Lists.{count}

-- two tests that agree
pub count_same : (f g : ℕ → Bool) (m : ℕ) → ((i : ℕ) → i < m → f i ≡ g i) → count f m ≡ count g m
unfolding count
count_same f g zero h = refl
count_same f g (suc m) h = rw (h m (omega arith), count_same f g m (λ i l. h i (omega arith)))

-- one number more, counted in both or in none
both : (t : Bool) (a b c : ℕ) → a ≡ c + b → cond t (suc a) a ≡ c + cond t (suc b) b
both true a b c e = omega arith
both false a b c e = e

-- the first m numbers, and n after them
pub count_add : (f : ℕ → Bool) (m n : ℕ) → count f (m + n) ≡ count f m + count (λ i. f (m + i)) n
unfolding count
count_add f m zero = ap (count f) (add-zero m) ∙ omega arith
count_add f m (suc n) = ap (count f) (add-suc m n) ∙ both (f (m + n)) _ _ _ (count_add f m n)

pub count_most : (f : ℕ → Bool) (m : ℕ) → count f m ≤ m
unfolding count
count_most f zero = omega arith
count_most f (suc m) = split (f m) (count_most f m)
  where
    split : (t : Bool) {a : ℕ} → a ≤ m → cond t (suc a) a ≤ suc m
    split true h = omega arith
    split false h = omega arith

pub count_none : (f : ℕ → Bool) (m : ℕ) → ((i : ℕ) → i < m → f i ≡ false) → count f m ≡ 0
unfolding count
count_none f zero h = refl
count_none f (suc m) h = rw (h m (omega arith)) (count_none f m (λ i l. h i (omega arith)))

-- where as many pass as there are, each passes
pub count_all : (f : ℕ → Bool) (m : ℕ) → count f m ≡ m → (i : ℕ) → i < m → f i ≡ true
unfolding count
count_all f zero e i l = absurd (omega arith)
count_all f (suc m) e i l = split (f m) refl (eqb i m) refl e (λ e' l'. count_all f m e' i l')
  where
    split : (t : Bool) → f m ≡ t → (last : Bool) → eqb i m ≡ last → cond t (suc (count f m)) (count f m) ≡ suc m
        → (count f m ≡ m → i < m → f i ≡ true) → f i ≡ true
    split true t true p e below = ap f (eqb-true i m p) ∙ t
    split true t false p e below = below (omega arith) (omega (arith, eqb-false i m p))
    split false t last p e below = absurd (omega (arith, count_most f m))

-- one number more passes
pub count_more : (f g : ℕ → Bool) (m b : ℕ) → b < m → f b ≡ false → g b ≡ true → ((i : ℕ) → (i ≡ b → ⊥) → g i ≡ f i) → count g m ≡ suc (count f m)
unfolding count
count_more f g zero b l out in_it same = absurd (omega arith)
count_more f g (suc m) b l out in_it same = split (eqb m b) refl (λ l'. count_more f g m b l' out in_it same)
  where
    split : (t : Bool) → eqb m b ≡ t → (b < m → count g m ≡ suc (count f m)) → count g (suc m) ≡ suc (count f (suc m))
    split true e below =
        let here : m ≡ b = eqb-true m b e in
        rw (ap g here ∙ in_it, ap f here ∙ out, count_same g f m (λ i k. same i (λ z. omega arith)))
    split false e below =
        let other : m ≡ b → ⊥ = eqb-false m b e in
        rw (same m other) (both (f m) _ _ 1 (below (omega arith) ∙ sym (one-add _)) ∙ one-add _)
