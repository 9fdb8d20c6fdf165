-- The sides of a comparison: what holds of both holds of each, and what is done to both is done to each. Assumes nothing.
use mathlib.Core.Path.{◌≡◌, refl}
use mathlib.Core.Bool.{Bool, true, false, cond}
use Prim.Native.Nat.{ℕ}
use lib.Dec.{eqb}
use Rattle.search.specs.Searches.{side}

pub side_of : {A : Type 0} (P : A → Type 0) (which : ℕ) (x y : A) → P x → P y → P (side which x y)
unfolding side
side_of P which x y p q = split (eqb which 2)
  where
    split : (t : Bool) → P (cond t y x)
    split true = q
    split false = p

pub side_map : {A B : Type 0} (f : A → B) (which : ℕ) (x y : A) → side which (f x) (f y) ≡ f (side which x y)
unfolding side
side_map f which x y = split (eqb which 2)
  where
    split : (t : Bool) → cond t (f y) (f x) ≡ f (cond t y x)
    split true = refl
    split false = refl
