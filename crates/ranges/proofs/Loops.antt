-- Lists of numbers that a loop tests from the left or fills. Assumes nothing.
use Rattle.std.proofs.Common.{◌≡◌, ℕ, zero, suc, ◌+◌, ◌<◌, ◌≤◌, Bool, true, false, ◌&&◌, ◌||◌, eqb, List, [], ◌∷◌, ◌++◌, map, length, get_or, take, drop, set, replicate, sym, refl, ap, ◌∙◌, ap₂, add-zero, add-one, arith, drop_of_length-le, get_or-drop, drop-cons, take-suc, drop-drop, take-suc-set, drop-set-lt, eqb-true}
use borrow.Author.Tests.{eqb-false}
use Rattle.std.specs.List.{list_all}
use Rattle.ranges.specs.Lists.{from, every, member}

pub and_left : (a b : Bool) → (a && b) ≡ true → a ≡ true
and_left true b e = refl
and_left false b e = e

pub and_right : (a b : Bool) → (a && b) ≡ true → b ≡ true
and_right true b e = e
and_right false b e = cc

pub and-true : (a b : Bool) → (a && b) ≡ true → (a ≡ true) × (b ≡ true)
and-true a b e = (and_left a b e, and_right a b e)

pub and_false : (a b : Bool) → b ≡ false → (a && b) ≡ false
and_false true b e = e
and_false false b e = refl

pub and_one : (a : Bool) → a && true ≡ a
and_one true = refl
and_one false = refl

pub and_assoc : (a b c : Bool) → a && (b && c) ≡ (a && b) && c
and_assoc true b c = refl
and_assoc false b c = refl

-- one place more of a list that is to be filled
pub fill : (out target : List ℕ) (i v : ℕ) → i < length out → i < length target → v ≡ get_or target i 0 → take i out ≡ take i target
    → take (i + 1) (set out i v) ≡ take (i + 1) target
fill out target i v ho ht e h =
    ap (λ (k : ℕ). take k (set out i v)) (add-one i)
    ∙ take-suc-set out i v ho
    ∙ ap₂ (λ (l : List ℕ) (x : ℕ). l ++ (x ∷ [])) h e
    ∙ sym (take-suc target i 0 ht)
    ∙ ap (λ (k : ℕ). take k target) (sym (add-one i))

-- the places past it are as they were
pub fill_past : (out old : List ℕ) (i v : ℕ) → drop i out ≡ drop i old → drop (i + 1) (set out i v) ≡ drop (i + 1) old
fill_past out old i v e = drop-set-lt (i + 1) out i v (omega arith) ∙ sym (drop-drop 1 i out) ∙ ap (drop 1) e ∙ drop-drop 1 i old

pub same_at : (out old : List ℕ) (i : ℕ) → drop i out ≡ drop i old → get_or out i 0 ≡ get_or old i 0
same_at out old i e = at out ∙ ap (λ (l : List ℕ). get_or l 0 0) e ∙ sym (at old)
  where
    at : (l : List ℕ) → get_or l i 0 ≡ get_or (drop i l) 0 0
    at l = rw (get_or-drop, add-zero)

pub length_from : (a m : ℕ) → length (from a m) ≡ m
unfolding from
length_from a zero = refl
length_from a (suc m) = ap suc (length_from (suc a) m)

pub getD_from : (a m i : ℕ) → i < m → get_or (from a m) i 0 ≡ a + i
unfolding from
getD_from a zero i h = absurd (omega arith)
getD_from a (suc m) zero h = omega arith
getD_from a (suc m) (suc i) h = getD_from (suc a) m i (omega arith) ∙ omega arith

-- what is made of numbers in a row
pub map_from : {B : Type 0} (f : ℕ → B) (d : B) (a m i : ℕ) → i < m → get_or (map f (from a m)) i d ≡ f (a + i)
unfolding from
map_from f d a zero i h = absurd (omega arith)
map_from f d a (suc m) zero h = ap f (omega arith)
map_from f d a (suc m) (suc i) h = map_from f d (suc a) m i (omega arith) ∙ ap f (omega arith)

pub same_from : {B : Type 0} (f g : ℕ → B) (a m : ℕ) → ((i : ℕ) → a ≤ i → i < a + m → f i ≡ g i) → map f (from a m) ≡ map g (from a m)
unfolding from
same_from f g a zero h = refl
same_from {B} f g a (suc m) h =
    ap₂ (λ (x : B) (xs : List B). x ∷ xs) (h a (omega arith) (omega arith)) (same_from f g (suc a) m (λ i l k. h i (omega arith) (omega arith)))

pub map_take : {A B : Type 0} (f : A → B) (m : ℕ) (xs : List A) → map f (take m xs) ≡ take m (map f xs)
map_take f zero xs = refl
map_take f (suc m) [] = refl
map_take {B} f (suc m) (x ∷ xs) = ap (λ (l : List B). f x ∷ l) (map_take f m xs)

-- numbers that are all the same
pub every_replicate : (test : ℕ → Bool) (s m : ℕ) → test s ≡ true → every test (replicate m s) ≡ true
unfolding every
every_replicate test s zero e = refl
every_replicate test s (suc m) e = ap₂ ◌&&◌ e (every_replicate test s m e)

pub only_same : (s : ℕ) (vs : List ℕ) → every (eqb s) vs ≡ true → vs ≡ replicate (length vs) s
unfolding every
only_same s [] e = refl
only_same s (v ∷ vs) e =
    ap₂ (λ (z : ℕ) (zs : List ℕ). z ∷ zs) (sym (eqb-true s v (and_left (eqb s v) (every (eqb s) vs) e)))
    (only_same s vs (and_right (eqb s v) (every (eqb s) vs) e))

-- every number of a list is tested from the left
pub every_more : (test : ℕ → Bool) (xs : List ℕ) (i : ℕ) → i < length xs → test (get_or xs i 0) ≡ true → every test (drop i xs) ≡ every test (drop (i + 1) xs)
unfolding every
every_more test xs i h e = rw (add-one, drop-cons xs i 0 h, e)

pub every_fails : (test : ℕ → Bool) (xs : List ℕ) (i : ℕ) → i < length xs → test (get_or xs i 0) ≡ false → every test (drop i xs) ≡ false
unfolding every
every_fails test xs i h e = rw (drop-cons xs i 0 h, e)

-- words are joined one by one: what is joined passes exactly where each word of it does
module _ (test : ℕ → Bool) (xs : List ℕ) (i : ℕ) where
  pub every_joined : (before after : Bool) → i < length xs → after ≡ before && test (get_or xs i 0)
      → before && every test (drop i xs) ≡ after && every test (drop (i + 1) xs)
  unfolding every
  every_joined true after h e = rw (add-one, drop-cons xs i 0 h, e)
  every_joined false after h e = rw e

  pub every_joined_end : (all : Bool) → length xs ≤ i → all && every test (drop i xs) ≡ all
  unfolding every
  every_joined_end true h = ap (every test) (drop_of_length-le _ h)
  every_joined_end false h = refl

-- the same test of each, as the library's iterators have it
pub list_every : (test : ℕ → Bool) (xs : List ℕ) → list_all test xs ≡ every test xs
unfolding every
list_every test [] = refl
list_every test (x ∷ xs) = ap (λ (b : Bool). test x && b) (list_every test xs)

-- of a list that passes, each number does
pub every_at : (test : ℕ → Bool) (xs : List ℕ) (i : ℕ) → every test xs ≡ true → i < length xs → test (get_or xs i 0) ≡ true
unfolding every
every_at test [] i e h = absurd (omega arith)
every_at test (x ∷ xs) zero e h = and_left (test x) (every test xs) e
every_at test (x ∷ xs) (suc i) e h = every_at test xs i (and_right (test x) (every test xs) e) (omega arith)

-- numbers in a row: each passes, and each is one of them
pub every_from : (test : ℕ → Bool) (a m : ℕ) → ((i : ℕ) → a ≤ i → i < a + m → test i ≡ true) → every test (from a m) ≡ true
unfolding from every
every_from test a zero h = refl
every_from test a (suc m) h = ap₂ ◌&&◌ (h a (omega arith) (omega arith)) (every_from test (suc a) m (λ i l k. h i (omega arith) (omega arith)))

pub member_from : (e a m : ℕ) → a ≤ e → e < a + m → member e (from a m) ≡ true
unfolding from member
member_from e a zero h l = absurd (omega arith)
member_from e a (suc m) h l = cases (eqb e a) refl (λ d. member_from e (suc a) m d (omega arith))
  where
    cases : (b : Bool) → eqb e a ≡ b → (suc a ≤ e → member e (from (suc a) m) ≡ true) → b || member e (from (suc a) m) ≡ true
    cases true f go = refl
    cases false f go = let d = eqb-false e a f in go (omega (arith, d))
