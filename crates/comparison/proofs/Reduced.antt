-- Lists of pairs of bits, level by level: fewer pairs, by either way. Assumes nothing.
use mathlib.Core.List.{List, [], ◌∷◌}
use Prim.Native.Nat.{ℕ, zero, suc}
use Rattle.ways.specs.Way.{Way, chain, tree}
use Rattle.comparison.specs.Pairs.{Pair, joined}

-- neighbours joined; an odd last one stays
unfoldable pub halved : List (Pair ℕ) → List (Pair ℕ)
halved [] = []
halved (a ∷ []) = a ∷ []
halved (a ∷ b ∷ ps) = joined a b ∷ halved ps

unfoldable pub halvings : ℕ → List (Pair ℕ) → List (Pair ℕ)
halvings zero ps = ps
halvings (suc n) ps = halvings n (halved ps)

-- the first two joined; of the first only the bottom is made anew
unfoldable pub shortened : List (Pair ℕ) → List (Pair ℕ)
shortened [] = []
shortened (a ∷ []) = a ∷ []
shortened (a ∷ b ∷ ps) = record { top = a.top; bottom = (joined a b).bottom } ∷ ps

-- a level, and so many levels, on bits
unfoldable pub reduced : Way → List (Pair ℕ) → List (Pair ℕ)
reduced chain ps = shortened ps
reduced tree ps = halved ps

unfoldable pub reductions : Way → ℕ → List (Pair ℕ) → List (Pair ℕ)
reductions w zero ps = ps
reductions w (suc n) ps = reductions w n (reduced w ps)
