-- Laws of marks, and of what is chosen by them. Assumes nothing.
use mathlib.Core.Path.{◌≡◌, refl, sym, ap, ◌∙◌}
use mathlib.Core.Bool.{Bool, true, false, ◌&&◌, true≢false}
use mathlib.Core.List.{List, [], ◌∷◌, map, head-eq_of_cons-eq, tail-eq_of_cons-eq}
use Prim.Native.Nat.{ℕ, zero, suc, ◌≤◌}
use native.Mathlib.Nat.{suc_inj}
use native.Mathlib.Omega.{arith}
use lib.Dec.{eqb}
use lib.ListN.{length, get_or}
use borrow.Author.Tests.{eqb-true}
use Rattle.ranges.specs.Lists.{every}
use Rattle.ranges.proofs.Loops.{and_left, and_right, only_same}
use Rattle.presence.specs.Presence.{marked, choose, of_present, how_many, everyone, all_or}

-- as many are chosen of a list as of another that is as long
pub length_choose : {A B : Type 0} (bs : List Bool) (xs : List A) (ys : List B) → length xs ≡ length ys
    → length (choose bs xs) ≡ length (choose bs ys)
length_choose [] xs ys e = refl
length_choose (b ∷ bs) [] [] e = refl
length_choose (b ∷ bs) [] (y ∷ ys) e = absurd (omega arith)
length_choose (b ∷ bs) (x ∷ xs) [] e = absurd (omega arith)
length_choose (true ∷ bs) (x ∷ xs) (y ∷ ys) e = ap suc (length_choose bs xs ys (suc_inj e))
length_choose (false ∷ bs) (x ∷ xs) (y ∷ ys) e = length_choose bs xs ys (suc_inj e)

pub choose_map : {A B : Type 0} (f : A → B) (bs : List Bool) (xs : List A) → choose bs (map f xs) ≡ map f (choose bs xs)
choose_map f [] xs = refl
choose_map f (b ∷ bs) [] = refl
choose_map f (true ∷ bs) (x ∷ xs) = ap (λ z. f x ∷ z) (choose_map f bs xs)
choose_map f (false ∷ bs) (x ∷ xs) = choose_map f bs xs

-- of n things as many are chosen as parties were present
pub how_many_points : {A : Type 0} (present : List ℕ) (xs : List A) → length xs ≡ length present
    → length (choose (marked present) xs) ≡ how_many present
how_many_points present xs e = length_choose (marked present) xs present e

-- where the same is chosen of two lists, they are the same in a place that is marked
pub chosen_same : (present xs ys : List ℕ) (i : ℕ) → length xs ≡ length ys → of_present present xs ≡ of_present present ys
    → eqb 1 (get_or present i 0) ≡ true → get_or xs i 0 ≡ get_or ys i 0
chosen_same [] xs ys i l e here = absurd (true≢false (sym here))
chosen_same (m ∷ ms) [] [] i l e here = refl
chosen_same (m ∷ ms) [] (y ∷ ys) i l e here = absurd (omega arith)
chosen_same (m ∷ ms) (x ∷ xs) [] i l e here = absurd (omega arith)
chosen_same (m ∷ ms) (x ∷ xs) (y ∷ ys) zero l e here = first (eqb 1 m) here e
  where
    first : (b : Bool) → b ≡ true → choose (b ∷ marked ms) (x ∷ xs) ≡ choose (b ∷ marked ms) (y ∷ ys) → x ≡ y
    first true h r = head-eq_of_cons-eq r
    first false h r = absurd (true≢false (sym h))
chosen_same (m ∷ ms) (x ∷ xs) (y ∷ ys) (suc i) l e here = chosen_same ms xs ys i (suc_inj l) (rest (eqb 1 m) e) here
  where
    rest : (b : Bool) → choose (b ∷ marked ms) (x ∷ xs) ≡ choose (b ∷ marked ms) (y ∷ ys) → choose (marked ms) xs ≡ choose (marked ms) ys
    rest true r = tail-eq_of_cons-eq r
    rest false r = r

-- ---- where all were present

pub choose_all : {A : Type 0} (present : List ℕ) (xs : List A) → length xs ≡ length present → every (eqb 1) present ≡ true
    → choose (marked present) xs ≡ xs
unfolding every
choose_all [] [] l e = refl
choose_all [] (x ∷ xs) l e = absurd (omega arith)
choose_all (m ∷ ms) [] l e = refl
choose_all {A} (m ∷ ms) (x ∷ xs) l e =
    ap (λ (b : Bool). choose (b ∷ marked ms) (x ∷ xs)) (and_left (eqb 1 m) (every (eqb 1) ms) e)
    ∙ ap (λ (z : List A). x ∷ z) (choose_all ms xs (suc_inj l) (and_right (eqb 1 m) (every (eqb 1) ms) e))

pub how_many_all : (present : List ℕ) → every (eqb 1) present ≡ true → how_many present ≡ length present
how_many_all present e = ap length (choose_all present present refl e)

choose_most : {A : Type 0} (bs : List Bool) (xs : List A) → length (choose bs xs) ≤ length xs
choose_most [] xs = omega arith
choose_most (b ∷ bs) [] = omega arith
choose_most (true ∷ bs) (x ∷ xs) = let h = choose_most bs xs in omega (arith, h)
choose_most (false ∷ bs) (x ∷ xs) = let h = choose_most bs xs in omega (arith, h)

-- and where as many were present as there are marks, all were
pub all_present : (present : List ℕ) → how_many present ≡ length present → every (eqb 1) present ≡ true
unfolding every
all_present [] h = refl
all_present (m ∷ ms) h = by (eqb 1 m) (all_present ms) h
  where
    by : (b : Bool) → (how_many ms ≡ length ms → every (eqb 1) ms ≡ true) → length (choose (b ∷ marked ms) (m ∷ ms)) ≡ suc (length ms)
        → b && every (eqb 1) ms ≡ true
    by true rest h = rest (suc_inj h)
    by false rest h = let l = choose_most (marked ms) ms in absurd (omega (arith, l, h))

-- so they are told by counting
pub all_counted : (n : ℕ) (present : List ℕ) → length present ≡ n → all_or (eqb (how_many present) n) n present ≡ present
all_counted n present l = by (eqb (how_many present) n) refl
  where
    by : (b : Bool) → eqb (how_many present) n ≡ b → all_or b n present ≡ present
    by true e = ap everyone (sym l) ∙ sym (only_same 1 present (all_present present (eqb-true (how_many present) n e ∙ sym l)))
    by false e = refl
