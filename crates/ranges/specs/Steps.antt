-- Steps from each number of a list to the next. Assumes nothing.
use Rattle.std.specs.Prelude.{ℕ, suc, Bool, true, cond, ◌&&◌, leb, List, [], ◌∷◌, nat_le}

-- a test of each number with the next
unfoldable pub steps : (ℕ → ℕ → Bool) → List ℕ → Bool
steps test [] = true
steps test (x ∷ []) = true
steps test (x ∷ y ∷ ys) = test x y && steps test (y ∷ ys)

-- how many numbers stand before the later one of the first step that does not pass; all of them where each passes
unfoldable pub bend : (ℕ → ℕ → Bool) → List ℕ → ℕ
bend test [] = 0
bend test (x ∷ []) = 1
bend test (x ∷ y ∷ ys) = cond (test x y) (suc (bend test (y ∷ ys))) 1

-- a step that does not fall, or one that does not rise
abbrev pub in_order : (rising : Bool) (x y : ℕ) → Bool
in_order rising x y = cond rising (nat_le x y) (nat_le y x)

abbrev pub never_rising : List ℕ → Bool
never_rising xs = steps (λ x y. leb y x) xs

abbrev pub never_falling : List ℕ → Bool
never_falling xs = steps leb xs
