-- Words lowered in a field, as numbers. Assumes nothing.
use mathlib.Core.Path.{◌≡◌, refl, ap, ap₂, ◌∙◌}
use mathlib.Core.List.{List, [], ◌∷◌}
use Prim.Native.Nat.{ℕ, zero, suc, ◌-◌, ◌≤◌, ◌<◌}
use native.Mathlib.Nat.{suc_inj}
use native.Mathlib.Omega.{arith}
use lib.ListN.{length, get_or}
use Rattle.fields.specs.Ring.{Ops, sub}
use Rattle.fields.specs.Field.{Field}
use Rattle.fields.proofs.Below.{numbers}
use Rattle.sharing.proofs.Points.{Different}
use Rattle.sharing.proofs.Numbers.{Element, elements_ops, gap, gap_number}
use Rattle.lowering.specs.Lines.{line, lowered, descended, lowered_by, descended_by, Rising}
use Rattle.lowering.proofs.Descent.{length_lowered}

module _ (O : Ops ℕ) (gap : ℕ → ℕ → ℕ) where
  pub length_descended : (t : ℕ) (xs ys : List ℕ) → length ys ≡ length xs → length (descended O gap t xs ys) ≡ length xs - t
  unfolding descended
  length_descended zero xs ys l = l ∙ omega arith
  length_descended (suc t) [] ys l = omega arith
  length_descended (suc t) (x ∷ xs) [] l = absurd (omega arith)
  length_descended (suc t) (x ∷ xs) (y ∷ ys) l =
      length_descended t xs (lowered O gap x y xs ys) (length_lowered O gap x y xs ys (suc_inj l)) ∙ omega arith

-- ---- rising points

pub rising_at : (r : ℕ) (xs : List ℕ) (i : ℕ) → Rising r xs → i < length xs → (r < get_or xs i 0) × (get_or xs i 0 ≤ 9)
rising_at r [] i h k = absurd (omega arith)
rising_at r (x ∷ xs) zero h k = (h.0, h.1)
rising_at r (x ∷ xs) (suc i) h k =
    let n : (x < get_or xs i 0) × (get_or xs i 0 ≤ 9) = rising_at x xs i h.2 (omega arith) in
    (omega (arith, n.0, h.0), n.1)

pub rising_less : (r s : ℕ) (xs : List ℕ) → s ≤ r → Rising r xs → Rising s xs
rising_less r s [] l h = tt
rising_less r s (x ∷ xs) l h = (omega (arith, h.0), h.1, h.2)

-- ---- in a field

module _ (F : Field) where
  -- what is computed of elements, of numbers
  lowered_numbers : (r y : Element F) (xs zs : List (Element F)) → r.0 ≤ 9 → Different (numbers xs)
      → numbers (lowered (elements_ops F) (gap F) r y xs zs) ≡ lowered F.ops F.gap r.0 y.0 (numbers xs) (numbers zs)
  unfolding lowered
  lowered_numbers r y [] zs h D = refl
  lowered_numbers r y (x ∷ xs) [] h D = refl
  lowered_numbers r y (x ∷ xs) (z ∷ zs) h D =
      ap₂ (λ (k : ℕ) (ks : List ℕ). F.ops.add y.0 (F.ops.mul (sub F.ops y.0 z.0) (F.ops.mul r.0 k)) ∷ ks)
      (gap_number F x r D.0 h) (lowered_numbers r y xs zs h D.2)

  pub descended_numbers : (t : ℕ) (xs ys : List (Element F)) → Different (numbers xs)
      → numbers (descended (elements_ops F) (gap F) t xs ys) ≡ descended F.ops F.gap t (numbers xs) (numbers ys)
  unfolding descended
  descended_numbers zero xs ys D = refl
  descended_numbers (suc t) [] ys D = refl
  descended_numbers (suc t) (x ∷ xs) [] D = refl
  descended_numbers (suc t) (x ∷ xs) (y ∷ ys) D =
      descended_numbers t xs (lowered (elements_ops F) (gap F) x y xs ys) D.2
      ∙ ap (descended F.ops F.gap t (numbers xs)) (lowered_numbers x y xs ys D.0 D.2)

-- ---- by any lines

module _ (draw : ℕ → ℕ → ℕ → ℕ → ℕ) where
  pub length_lowered_by : (r y : ℕ) (xs zs : List ℕ) → length zs ≡ length xs → length (lowered_by draw r y xs zs) ≡ length xs
  unfolding lowered_by
  length_lowered_by r y [] zs l = refl
  length_lowered_by r y (x ∷ xs) [] l = absurd (omega arith)
  length_lowered_by r y (x ∷ xs) (z ∷ zs) l = ap suc (length_lowered_by r y xs zs (suc_inj l))

  pub drawn_at : (r y : ℕ) (xs zs : List ℕ) (i : ℕ) → i < length xs → i < length zs
      → get_or (lowered_by draw r y xs zs) i 0 ≡ draw r y (get_or xs i 0) (get_or zs i 0)
  unfolding lowered_by
  drawn_at r y [] zs i h k = absurd (omega arith)
  drawn_at r y (x ∷ xs) [] i h k = absurd (omega arith)
  drawn_at r y (x ∷ xs) (z ∷ zs) zero h k = refl
  drawn_at r y (x ∷ xs) (z ∷ zs) (suc i) h k = drawn_at r y xs zs i (omega arith) (omega arith)

  pub length_descended_by : (t : ℕ) (xs ys : List ℕ) → length ys ≡ length xs → length (descended_by draw t xs ys) ≡ length xs - t
  unfolding descended_by
  length_descended_by zero xs ys l = l ∙ omega arith
  length_descended_by (suc t) [] ys l = omega arith
  length_descended_by (suc t) (x ∷ xs) [] l = absurd (omega arith)
  length_descended_by (suc t) (x ∷ xs) (y ∷ ys) l =
      length_descended_by t xs (lowered_by draw x y xs ys) (length_lowered_by x y xs ys (suc_inj l)) ∙ omega arith

-- those of a field
module _ (O : Ops ℕ) (gap : ℕ → ℕ → ℕ) where
  own_lowered : (r y : ℕ) (xs zs : List ℕ) → lowered_by (line O gap) r y xs zs ≡ lowered O gap r y xs zs
  unfolding lowered lowered_by
  own_lowered r y [] zs = refl
  own_lowered r y (x ∷ xs) [] = refl
  own_lowered r y (x ∷ xs) (z ∷ zs) = ap (λ (l : List ℕ). line O gap r y x z ∷ l) (own_lowered r y xs zs)

  pub own_descended : (t : ℕ) (xs ys : List ℕ) → descended_by (line O gap) t xs ys ≡ descended O gap t xs ys
  unfolding descended descended_by
  own_descended zero xs ys = refl
  own_descended (suc t) [] ys = refl
  own_descended (suc t) (x ∷ xs) [] = refl
  own_descended (suc t) (x ∷ xs) (y ∷ ys) =
      own_descended t xs (lowered_by (line O gap) x y xs ys) ∙ ap (descended O gap t xs) (own_lowered x y xs ys)
