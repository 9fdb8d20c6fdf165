-- Words lowered t times, of numbers in any field with unit points. Assumes nothing.
use mathlib.Core.Path.{◌≡◌, sym, ap, ap₂, subst, ◌∙◌}
use mathlib.Core.List.{List, ◌∷◌}
use Prim.Native.Nat.{ℕ, suc, ◌+◌, ◌<◌}
use lib.ListN.{length, replicate, length-map}
use Rattle.ranges.specs.Below.{AllBelow}
use Rattle.fields.specs.Ring.{Ops}
use Rattle.fields.specs.Field.{Field}
use Rattle.fields.proofs.Below.{same_number, same_numbers, numbers, numbers_below, length_numbers, ring}
use Rattle.sharing.specs.Polynomial.{shares}
use Rattle.sharing.proofs.Laws.{shares_lt, shares_elements}
use Rattle.sharing.proofs.Newton.{Far}
use Rattle.sharing.proofs.Numbers.{Element, elements_ops, element, elements, number_element, numbers_elements, shares_numbers, gap, apart}
use Rattle.sharing.proofs.Points.{Different, points_below}
use Rattle.openings.specs.Law.{Passes}
use Rattle.openings.proofs.Numbers.{replicate_numbers}
use Rattle.lowering.specs.Lines.{descended}
use Rattle.lowering.proofs.Descent as descent
use Rattle.lowering.proofs.Lowering.{descended_numbers}

module _ (F : Field) where
  open F use {size as q, ops as O}

  abbrev P : Ops (Element F)
  P = elements_ops F

  abbrev up : List ℕ → List (Element F)
  up xs = elements F xs

  -- what is computed of elements, of numbers
  descended_up : (t : ℕ) (xs ys : List ℕ) → Different xs → AllBelow q ys
      → numbers (descended P (gap F) t (up xs) (up ys)) ≡ descended O F.gap t xs ys
  descended_up t xs ys D h =
      let e : numbers (up xs) ≡ xs = numbers_elements F xs (points_below F xs D) in
      descended_numbers F t (up xs) (up ys) (subst Different (sym e) D) ∙ ap₂ (descended O F.gap t) e (numbers_elements F ys h)

  same_up : (m s : ℕ) → s < q → numbers (replicate m (element F s)) ≡ replicate m s
  same_up m s h = replicate_numbers F m (element F s) ∙ ap (λ (z : ℕ). replicate m z) (number_element F s h)

  -- the words of a polynomial of degree at most t, lowered t times, are all its value at 0
  pub descended_shares : (t m s : ℕ) (cs xs : List ℕ) → Different xs → s < q → AllBelow q cs → length cs ≡ t → length xs ≡ m + t
      → descended O F.gap t xs (shares O (s ∷ cs) xs) ≡ replicate m s
  descended_shares t m s cs xs D hs hc lc lx =
      let hx : AllBelow q xs = points_below F xs D in
      sym (descended_up t xs (shares O (s ∷ cs) xs) D (shares_lt F (s ∷ cs) xs (hs, hc) hx))
      ∙ ap numbers
      (ap (descended P (gap F) t (up xs)) (shares_elements F (s ∷ cs) xs (hs, hc) hx)
      ∙ descent.agree (ring F.ring) (gap F) t m (element F s) (up cs) (up xs) (apart F xs D)
      (length-map cs (element F) ∙ lc) (length-map xs (element F) ∙ lx))
      ∙ same_up m s hs

  zero_element : element F O.zero ≡ P.zero
  zero_element = same_number _ _ (number_element F O.zero F.ring.zero_lt)

  -- and where they are all the same, they are such words
  pub descended_through : (t m s : ℕ) (xs words : List ℕ) → Different (O.zero ∷ xs) → AllBelow q words → length words ≡ length xs
      → length xs ≡ suc m + t → descended O F.gap t xs words ≡ replicate (suc m) s → Passes F t xs s words
  descended_through t m s xs words D hw l h e =
      let hx : AllBelow q xs = points_below F xs D.2 in
      let k : numbers (descended P (gap F) t (up xs) (up words)) ≡ replicate (suc m) s = descended_up t xs words D.2 hw ∙ e in
      let hs : s < q = (subst (AllBelow q) k (numbers_below (descended P (gap F) t (up xs) (up words)))).0 in
      let r : (cs : List (Element F)) × (length cs ≡ t) × (shares P (element F s ∷ cs) (up xs) ≡ up words) =
      descent.agreed_through (ring F.ring) (gap F) t (suc m) (element F s) (up xs) (up words)
      (subst (λ (z : Element F). Far P (gap F) z (up xs)) zero_element (apart F (O.zero ∷ xs) D).0) (apart F xs D.2)
      (length-map words (element F) ∙ l ∙ sym (length-map xs (element F))) (length-map xs (element F) ∙ h)
      (same_numbers _ _ (k ∙ sym (same_up (suc m) s hs))) in
      record {
        secret_lt = hs;
        coefficients = numbers r.0;
        coefficients_lt = numbers_below r.0;
        degree = length_numbers r.0 ∙ r.1;
        through =
            ap₂ (λ (z : ℕ) (zs : List ℕ). shares O (z ∷ numbers r.0) zs) (sym (number_element F s hs)) (sym (numbers_elements F xs hx))
            ∙ sym (shares_numbers F (element F s ∷ r.0) (up xs)) ∙ ap numbers r.2 ∙ numbers_elements F words hw;
      }
