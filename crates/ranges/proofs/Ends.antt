-- The largest number of a list in order stands at one of its ends. Assumes nothing.
use Rattle.std.proofs.Common.{◌≡◌, ℕ, zero, suc, ◌≤◌, Bool, true, ◌&&◌, leb, List, [], ◌∷◌, length, get_or, take, drop, refl, ap₂, arith, le-leb, leb-true}
use Rattle.ranges.specs.Lists.{every}
use Rattle.ranges.specs.Steps.{steps, never_rising, never_falling}
use Rattle.ranges.proofs.Loops.{and_left, and-true}

module _ (most : ℕ) where
  -- none rises above the first
  pub first_largest : (x : ℕ) (xs : List ℕ) → never_rising (x ∷ xs) ≡ true → x ≤ most → every (λ y. leb y most) (x ∷ xs) ≡ true
  unfolding steps every
  first_largest x [] e h = ap₂ ◌&&◌ (le-leb x most h) refl
  first_largest x (y ∷ ys) e h =
      let w = and-true (leb y x) (never_rising (y ∷ ys)) e in
      ap₂ ◌&&◌ (le-leb x most h) (first_largest y ys w.1 (omega (arith, leb-true y x w.0)))

  -- none falls below one before it
  pub last_largest : (x : ℕ) (xs : List ℕ) → never_falling (x ∷ xs) ≡ true → get_or (x ∷ xs) (length xs) 0 ≤ most → every (λ y. leb y most) (x ∷ xs) ≡ true
  unfolding steps every
  last_largest x [] e h = ap₂ ◌&&◌ (le-leb x most h) refl
  last_largest x (y ∷ ys) e h =
      let w = and-true (leb x y) (never_falling (y ∷ ys)) e in
      let rest = last_largest y ys w.1 h in
      let small = leb-true y most (and_left (leb y most) (every (λ z. leb z most) ys) rest) in
      ap₂ ◌&&◌ (le-leb x most (omega (arith, leb-true x y w.0))) rest

-- what holds of both parts of a list holds of all of it
pub every_parts : (test : ℕ → Bool) (k : ℕ) (xs : List ℕ) → every test (take k xs) ≡ true → every test (drop k xs) ≡ true → every test xs ≡ true
unfolding every
every_parts test zero xs e f = f
every_parts test (suc k) [] e f = refl
every_parts test (suc k) (x ∷ xs) e f =
    let w = and-true (test x) (every test (take k xs)) e in
    ap₂ ◌&&◌ w.0 (every_parts test k xs w.1 f)
