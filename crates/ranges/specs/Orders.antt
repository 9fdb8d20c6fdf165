-- Lists in another order. Assumes nothing.
use Rattle.std.specs.Prelude.{List, [], ◌∷◌, ◌++◌}

-- the second list is the first in some order
pub data Shuffle {A : Type 0} : List A → List A → Type 0 where
  end : Shuffle [] []
  next : {x : A} {xs : List A} (ys zs : List A) → Shuffle xs (ys ++ zs) → Shuffle (x ∷ xs) (ys ++ (x ∷ zs))
