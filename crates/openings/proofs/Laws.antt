-- The laws of opening, of numbers in any field with unit points. Assumes nothing.
use Rattle.std.specs.Prelude.{Some}
use mathlib.Core.Path.{◌≡◌, refl, sym, ap, ap₂, subst, ◌∙◌}
use mathlib.Core.Logic.{◌↔◌}
use mathlib.Core.Bool.{true}
use mathlib.Core.List.{List, ◌∷◌}
use Prim.Native.Nat.{ℕ, suc, ◌+◌, ◌-◌, ◌≤◌, ◌<◌}
use native.Mathlib.Omega.{arith}
use lib.ListN.{length, replicate, length-map}
use Rattle.fields.specs.Ring.{Ops}
use Rattle.fields.specs.Field.{Field}
use Rattle.ranges.specs.Below.{AllBelow}
use Rattle.fields.proofs.Below.{same_number, same_numbers, numbers, numbers_below, length_numbers, ring}
use Rattle.fields.proofs.Fields.{amount_field, byte_field}
use Rattle.sharing.specs.Polynomial.{value, shares}
use Rattle.weights.specs.Rows.{Scheme, weights, amount_scheme, byte_scheme}
use Rattle.sharing.specs.Scheme.{threshold, points}
use Rattle.weights.specs.Products.{products}
use Rattle.openings.specs.Opening.{moments, readable, settled, opened}
use Rattle.openings.specs.Law.{Passes, OnPolynomial}
use Rattle.sharing.proofs.Points.{Different, points_below, different_points}
use Rattle.sharing.proofs.Laws.{shares_lt, shares_elements}
use Rattle.openings.proofs.Weighing as weighing
use Rattle.openings.proofs.Rows.{Weights, amount_weights, byte_weights}
use Rattle.ranges.proofs.Loops.{length_from}
use Rattle.ranges.proofs.Ranges.{all_below, is_below}
use Rattle.openings.proofs.Settled.{Readable, read, is_readable, cond_true, cond_secret, settled_zeros, settled_secret, length_moments}
use Rattle.sharing.proofs.Numbers.{Element, elements_ops, element, elements, number_element, numbers_elements, shares_numbers, gap, apart}
use Rattle.openings.proofs.Numbers.{products_numbers, moments_numbers, ending_numbers, replicate_numbers}

module _ (F : Field) where
  open F use {size as q, ops as O}

  abbrev P : Ops (Element F)
  P = elements_ops F

  abbrev up : List ℕ → List (Element F)
  up xs = elements F xs

  -- ---- opening at any points that have weights

  module _ (xs w : List ℕ) (D : Different xs) (W : Weights F xs w) where
    hx : AllBelow q xs
    hx = points_below F xs D

    lifted : weighing.Weighing P W.last (up xs) (up w) (element F W.top) (element F W.inverse)
    lifted =
        let t : (element F W.top).0 ≡ W.top = number_element F W.top W.top_lt in
        record {
          points_many = length-map xs (element F) ∙ W.weighing.points_many;
          weights_many = length-map w (element F) ∙ W.weighing.weights_many;
          rule =
              same_numbers _ _
              (moments_numbers F (suc (suc W.last)) (up xs) (up w)
              ∙ ap₂ (moments O (suc (suc W.last))) (numbers_elements F xs hx) (numbers_elements F w W.weights_lt)
              ∙ W.weighing.rule
              ∙ sym (ap (λ (z : List ℕ). O.one ∷ z) (ending_numbers F W.last (element F W.top) ∙ ap (weighing.ending O W.last) t)));
          unit = same_number _ _ (ap₂ O.mul t (number_element F W.inverse W.inverse_lt) ∙ W.weighing.unit);
        }

    -- the sums of weighted words, of elements and of numbers
    sums_of : ℕ → List ℕ → List (Element F)
    sums_of m words = moments P m (up xs) (products P (up w) (up words))

    sums_numbers_of : (m : ℕ) (words : List ℕ) → AllBelow q words → numbers (sums_of m words) ≡ moments O m xs (products O w words)
    unfolding sums_of
    sums_numbers_of m words h =
        moments_numbers F m (up xs) (products P (up w) (up words))
        ∙ ap₂ (moments O m) (numbers_elements F xs hx)
        (products_numbers F (up w) (up words) ∙ ap₂ (products O) (numbers_elements F w W.weights_lt) (numbers_elements F words h))

    secret_alone : (s m : ℕ) → s < q → numbers (element F s ∷ replicate m P.zero) ≡ s ∷ replicate m O.zero
    secret_alone s m h = ap₂ (λ (z : ℕ) (zs : List ℕ). z ∷ zs) (number_element F s h) (replicate_numbers F m P.zero)

    -- The weighted shares of s add up to s. Times x, x^2, .. x^m they add up to 0, as long as there are points to spare.
    pub weighted : (s : ℕ) (cs : List ℕ) (m : ℕ) → s < q → AllBelow q cs → length cs + m < length xs
        → moments O (suc m) xs (products O w (shares O (s ∷ cs) xs)) ≡ s ∷ replicate m O.zero
    unfolding sums_of
    weighted s cs m hs hc l =
        sym (sums_numbers_of (suc m) (shares O (s ∷ cs) xs) (shares_lt F (s ∷ cs) xs (hs, hc) hx))
        ∙ ap numbers
        (ap (λ (z : List (Element F)). moments P (suc m) (up xs) (products P (up w) z))
        (shares_elements F (s ∷ cs) xs (hs, hc) hx)
        ∙ weighing.weighted (ring F.ring) lifted
        (element F s) (up cs) m (simp length-map (omega (arith, W.weighing.points_many))))
        ∙ secret_alone s m hs

    -- And words of which that holds are the shares of s.
    pub through : (t s : ℕ) (words : List ℕ) (m : ℕ) → AllBelow q words → length words ≡ length xs → suc t + m ≡ length xs
        → moments O (suc m) xs (products O w words) ≡ s ∷ replicate m O.zero → Passes F t xs s words
    unfolding sums_of
    through t s words m hw l hm e =
        let k : numbers (sums_of (suc m) words) ≡ s ∷ replicate m O.zero = sums_numbers_of (suc m) words hw ∙ e in
        let hs : s < q = (subst (AllBelow q) k (numbers_below (sums_of (suc m) words))).0 in
        let n : length xs ≡ suc W.last = W.weighing.points_many in
        let r : (cs : List (Element F)) × (suc (length cs) + m ≡ suc W.last) × (shares P (element F s ∷ cs) (up xs) ≡ up words) =
        weighing.through (ring F.ring) lifted
        (gap F) (apart F xs D) (element F s) (up words) m (length-map words (element F) ∙ l ∙ n) (omega arith)
        (same_numbers _ _ (k ∙ sym (secret_alone s m hs))) in
        record {
          secret_lt = hs;
          coefficients = numbers r.0;
          coefficients_lt = numbers_below r.0;
          degree = omega (arith, length_numbers r.0, r.1, n, hm);
          through =
              ap₂ (λ (z : ℕ) (zs : List ℕ). shares O (z ∷ numbers r.0) zs) (sym (number_element F s hs)) (sym (numbers_elements F xs hx))
              ∙ sym (shares_numbers F (element F s ∷ r.0) (up xs)) ∙ ap numbers r.2 ∙ numbers_elements F words hw;
        }

-- ---- opening all n words

-- the scheme shares in the field, and its rows are weights
pub record Fits (S : Scheme) (F : Field) : Type 0 where
  pub same_ops : S.ops ≡ F.ops
  pub same_size : S.size ≡ F.size
  pub same_gap : S.gap ≡ F.gap
  pub zero_is : F.ops.zero ≡ 0
  pub row : (n : ℕ) → 3 ≤ n → n ≤ 9 → Weights F (points n) (weights S n)

pub amount_fits : Fits amount_scheme amount_field
amount_fits = record { same_ops = refl; same_size = refl; same_gap = refl; zero_is = refl; row = amount_weights }

pub byte_fits : Fits byte_scheme byte_field
byte_fits = record { same_ops = refl; same_size = refl; same_gap = refl; zero_is = refl; row = byte_weights }

module _ {S : Scheme} {F : Field} (fits : Fits S F) where
  -- the sums that an opening takes, one and those that are to be 0
  sums_taken : (n : ℕ) (words : List ℕ) → 3 ≤ n
      → moments S.ops (n - threshold n) (points n) (products S.ops (weights S n) words)
      ≡ moments F.ops (suc (n - suc (threshold n))) (points n) (products F.ops (weights S n) words)
  sums_taken n words h =
      ap₂ (λ (O : Ops ℕ) (k : ℕ). moments O k (points n) (products O (weights S n) words)) fits.same_ops (omega arith)

  secret_first : (s m : ℕ) → s ∷ replicate m F.ops.zero ≡ s ∷ replicate m 0
  secret_first s m = ap (λ (z : ℕ). s ∷ replicate m z) fits.zero_is

  -- what is shared opens
  pub opens : (n s : ℕ) (cs : List ℕ) → 3 ≤ n → n ≤ 9 → s < F.size → AllBelow F.size cs → length cs ≡ threshold n
      → opened S n (shares F.ops (s ∷ cs) (points n)) ≡ Some s
  unfolding opened
  opens n s cs h3 h9 hs hc l =
      let words : List ℕ = shares F.ops (s ∷ cs) (points n) in
      let D : Different (points n) = different_points n h9 in
      let many : length (points n) ≡ n = length_from 1 n in
      let hw : AllBelow F.size words = shares_lt F (s ∷ cs) (points n) (hs, hc) (points_below F (points n) D) in
      cond_true (readable S.size n words) _
      (is_readable S.size n words
      record {
        least = h3;
        most = h9;
        long = length-map (points n) (value F.ops (s ∷ cs)) ∙ many;
        small = is_below S.size words (subst (λ (q : ℕ). AllBelow q words) (sym fits.same_size) hw);
      })
      ∙ ap settled
      (sums_taken n words h3
      ∙ weighted F (points n) (weights S n) D (fits.row n h3 h9) s cs (n - suc (threshold n)) hs hc (omega arith)
      ∙ secret_first s (n - suc (threshold n)))
      ∙ settled_zeros s (n - suc (threshold n))

  only_shares : (n s : ℕ) (words : List ℕ) → opened S n words ≡ Some s → OnPolynomial F n s words
  unfolding opened
  only_shares n s words e =
      let c : (readable S.size n words ≡ true)
      × (settled (moments S.ops (n - threshold n) (points n) (products S.ops (weights S n) words)) ≡ Some s) =
      cond_secret (readable S.size n words) _ s e in
      let r : Readable S.size n words = read S.size n words c.0 in
      let many : length (points n) ≡ n = length_from 1 n in
      let m : ℕ = n - suc (threshold n) in
      record {
        at_least = r.least;
        at_most = r.most;
        passes =
            through F (points n) (weights S n) (different_points n r.most) (fits.row n r.least r.most) (threshold n) s words m
            (subst (λ (q : ℕ). AllBelow q words) fits.same_size (all_below S.size words r.small)) (r.long ∙ sym many) (omega (arith, r.least, many))
            (settled_secret _ s m (length_moments F.ops (suc m) (points n) _) (ap settled (sym (sums_taken n words r.least)) ∙ c.1) ∙ sym (secret_first s m));
      }

  -- n words open exactly when a polynomial of degree at most t passes through them, and then to its value at 0
  pub exactly : (n s : ℕ) (words : List ℕ) → (opened S n words ≡ Some s) ↔ OnPolynomial F n s words
  exactly n s words = (
    only_shares n s words,
    λ p.
        let v = p.passes in
        ap (opened S n) (sym v.through) ∙ opens n s v.coefficients p.at_least p.at_most v.secret_lt v.coefficients_lt v.degree,
  )
