-- Numbers as decimal digits, in ASCII. Assumes nothing.
use Rattle.std.specs.Prelude.{Bool, cond, ◌&&◌, List, [], ◌∷◌, ◌++◌, ℕ, zero, suc, ◌+◌, ◌/◌, ◌%◌, leb, ltb}

-- the codes of 0 to 9
abbrev pub digit : ℕ → Bool
digit b = leb 48 b && leb b 57

-- the last h decimal digits of n, the most significant first, with no zero in front
unfoldable pub spelled : (h n : ℕ) → List ℕ
spelled zero n = []
spelled (suc h) n = cond (ltb n 10) [] (spelled h (n / 10)) ++ ((48 + n % 10) ∷ [])

-- n in decimal; it has at most n + 1 digits
abbrev pub decimal : ℕ → List ℕ
decimal n = spelled (suc n) n
