-- Lists multiplied place by place: words with their weights. Assumes nothing.
use Rattle.std.specs.Prelude.{List, [], ◌∷◌}
use Rattle.fields.specs.Ring.{Ops}

module _ {A : Type 0} (O : Ops A) where
  unfoldable pub products : List A → List A → List A
  products [] ys = []
  products (x ∷ xs) [] = []
  products (x ∷ xs) (y ∷ ys) = O.mul x y ∷ products xs ys
