-- "Hearing shall take, besides the n words, n marks of who was present": 1 for one who was, 0 for one who was not. Assumes nothing.
use Rattle.std.specs.Prelude.{Bool, true, false, cond, List, [], ◌∷◌, map, ℕ, ◌-◌, leb, eqb, length, get_or, replicate}
use Rattle.ranges.specs.Lists.{every}

-- refusal 1: "a mark above 1 is 1", however many marks there are
abbrev pub are_marks : List ℕ → Bool
are_marks present = every (λ m. leb m 1) present

abbrev pub marked : List ℕ → List Bool
marked present = map (eqb 1) present

-- what stands in the chosen places
abbrev pub choose : {A : Type 0} → List Bool → List A → List A
choose [] xs = []
choose (b ∷ bs) [] = []
choose (true ∷ bs) (x ∷ xs) = x ∷ choose bs xs
choose (false ∷ bs) (x ∷ xs) = choose bs xs

-- of n words, those of who was present
abbrev pub of_present : List ℕ → List ℕ → List ℕ
of_present present words = choose (marked present) words

abbrev pub how_many : List ℕ → ℕ
how_many present = length (of_present present present)

-- party j has mark j, the first being 1
abbrev pub is_present : List ℕ → ℕ → Bool
is_present present j = eqb 1 (get_or present (j - 1) 0)

-- where all n were present
abbrev pub everyone : ℕ → List ℕ
everyone n = replicate n 1

-- all n, or those who are marked
abbrev pub all_or : Bool → ℕ → List ℕ → List ℕ
all_or all n present = cond all (everyone n) present
