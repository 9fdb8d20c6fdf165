-- Weighted sums of elements, read as numbers, are those of the numbers. Assumes nothing.
use mathlib.Core.Path.{◌≡◌, refl, ap, ap₂, ◌∙◌}
use mathlib.Core.List.{List, [], ◌∷◌}
use Prim.Native.Nat.{ℕ, zero, suc}
use lib.ListN.{replicate}
use Rattle.fields.specs.Field.{Field}
use Rattle.fields.proofs.Below.{numbers}
use Rattle.sharing.proofs.Numbers.{Element, elements_ops}
use Rattle.weights.specs.Products.{products}
use Rattle.openings.specs.Opening.{total, moments}
use Rattle.openings.proofs.Weighing.{ending}

module _ (F : Field) where
  pub products_numbers : (xs ys : List (Element F)) → numbers (products (elements_ops F) xs ys) ≡ products F.ops (numbers xs) (numbers ys)
  unfolding products
  products_numbers [] ys = refl
  products_numbers (x ∷ xs) [] = refl
  products_numbers (x ∷ xs) (y ∷ ys) = ap (λ (z : List ℕ). F.ops.mul x.0 y.0 ∷ z) (products_numbers xs ys)

  total_number : (ys : List (Element F)) → (total (elements_ops F) ys).0 ≡ total F.ops (numbers ys)
  unfolding total
  total_number [] = refl
  total_number (y ∷ ys) = ap (λ (z : ℕ). F.ops.add y.0 z) (total_number ys)

  pub moments_numbers : (m : ℕ) (xs ys : List (Element F)) → numbers (moments (elements_ops F) m xs ys) ≡ moments F.ops m (numbers xs) (numbers ys)
  unfolding moments
  moments_numbers zero xs ys = refl
  moments_numbers (suc m) xs ys =
      ap₂ (λ (z : ℕ) (zs : List ℕ). z ∷ zs) (total_number ys)
      (moments_numbers m xs (products (elements_ops F) xs ys) ∙ ap (moments F.ops m (numbers xs)) (products_numbers xs ys))

  pub ending_numbers : (k : ℕ) (top : Element F) → numbers (ending (elements_ops F) k top) ≡ ending F.ops k top.0
  ending_numbers zero top = refl
  ending_numbers (suc k) top = ap (λ (z : List ℕ). F.ops.zero ∷ z) (ending_numbers k top)

  pub replicate_numbers : (m : ℕ) (a : Element F) → numbers (replicate m a) ≡ replicate m a.0
  replicate_numbers zero a = refl
  replicate_numbers (suc m) a = ap (λ (z : List ℕ). a.0 ∷ z) (replicate_numbers m a)
