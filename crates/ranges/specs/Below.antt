-- Lists of numbers below a size. Assumes nothing.
use Rattle.std.specs.Prelude.{ℕ, ◌<◌, List, [], ◌∷◌}

-- every number of a list is below q
abbrev pub AllBelow : ℕ → List ℕ → Type 0
AllBelow q [] = Unit {0}
AllBelow q (x ∷ xs) = (x < q) × AllBelow q xs
