-- One step down: the words after one that is reached, lowered by it. Assumes nothing.
use mathlib.Core.Path.{◌≡◌, refl, sym, ap, ap₂, subst, ◌∙◌}
use mathlib.Core.List.{List, ◌∷◌, ◌++◌, append-nil}
use Prim.Native.Nat.{ℕ, suc, ◌+◌, ◌-◌, ◌≤◌, ◌<◌}
use native.Mathlib.Omega.{arith}
use lib.ListN.{length, take, drop, get_or, length-drop, drop_of_length-le}
use lib.Seq.{length-take-le, take_all, drop_at}
use borrow.Rule.Slice.PartMut.{put_mid, same_len_mid}
use Rattle.ranges.proofs.Bends.{first}
use Rattle.lowering.specs.Lines.{lowered_by, descended_by, Rising}
use Rattle.lowering.proofs.Lowering.{rising_less}

-- the rest of a slice, as it is lent
abbrev pub rest : ℕ → List ℕ → List ℕ
rest m xs = take (length xs - m) (drop m xs)

rest_is : (m : ℕ) (xs : List ℕ) → rest m xs ≡ drop m xs
rest_is m xs = take_all (length xs - m) (drop m xs) (omega (arith, length-drop m xs))

-- what is written to it
put_rest : (m : ℕ) (xs v : List ℕ) → m ≤ length xs → drop m (put_mid m (length xs - m) xs v) ≡ v
put_rest m xs v h =
    drop_at (take m xs) _ m (length-take-le m xs h)
    ∙ ap (λ (z : List ℕ). v ++ z) (drop_of_length-le (drop m xs) {i = length xs - m} (omega (arith, length-drop m xs))) ∙ append-nil v

module _ (draw : ℕ → ℕ → ℕ → ℕ → ℕ) (t : ℕ) (xs ys₀ : List ℕ) where
  -- after i steps: what is left to lower comes to what all the words come to
  pub record Stepped (ys : List ℕ) (i : ℕ) : Type 0 where
    pub done : i ≤ t
    pub long : length ys ≡ length ys₀
    pub rising : Rising 0 (drop i xs)
    pub same : descended_by draw (t - i) (drop i xs) (drop i ys) ≡ descended_by draw t xs ys₀

  pub start : Rising 0 xs → Stepped ys₀ 0
  start r = record { done = omega arith; long = refl; rising = r; same = ap (λ (k : ℕ). descended_by draw k xs ys₀) (omega arith) }

  module _ (ys : List ℕ) (i : ℕ) (S : Stepped ys i) (many : length ys₀ ≡ length xs) (more : i < length ys₀) where
    xs_more : i < length xs
    xs_more = omega arith

    ys_more : i < length ys
    ys_more = omega (arith, S.long)

    point : Rising 0 (get_or xs i 0 ∷ drop (i + 1) xs)
    point = subst (Rising 0) (first xs i xs_more) S.rising

    pub asks : (0 < get_or xs i 0) × Rising (get_or xs i 0) (rest (i + 1) xs) × (length (rest (i + 1) ys) ≡ length (rest (i + 1) xs))
    asks = rw (rest_is (i + 1) xs, rest_is (i + 1) ys) (point.0, point.2, omega (arith, length-drop (i + 1) xs, length-drop (i + 1) ys, S.long))

    descends : (k : ℕ)
        → descended_by draw k (drop (i + 1) xs) (lowered_by draw (get_or xs i 0) (get_or ys i 0) (drop (i + 1) xs) (drop (i + 1) ys))
        ≡ descended_by draw (suc k) (drop i xs) (drop i ys)
    unfolding descended_by
    descends k = sym (ap₂ (descended_by draw (suc k)) (first xs i xs_more) (first ys i ys_more))

    pub step : (v : List ℕ) → i < t → length v ≡ length (rest (i + 1) ys)
        → v ≡ lowered_by draw (get_or xs i 0) (get_or ys i 0) (rest (i + 1) xs) (rest (i + 1) ys)
        → Stepped (put_mid (i + 1) (length ys - (i + 1)) ys v) (i + 1)
    step v h l e =
        let made : v ≡ lowered_by draw (get_or xs i 0) (get_or ys i 0) (drop (i + 1) xs) (drop (i + 1) ys) =
        e ∙ ap₂ (lowered_by draw (get_or xs i 0) (get_or ys i 0)) (rest_is (i + 1) xs) (rest_is (i + 1) ys) in
        let put : drop (i + 1) (put_mid (i + 1) (length ys - (i + 1)) ys v) ≡ v = put_rest (i + 1) ys v (omega (arith, ys_more)) in
        record {
          done = omega arith;
          long = same_len_mid (i + 1) (length ys - (i + 1)) ys v l ∙ S.long;
          rising = rising_less (get_or xs i 0) 0 (drop (i + 1) xs) (omega arith) point.2;
          same =
              ap (descended_by draw (t - (i + 1)) (drop (i + 1) xs)) (put ∙ made) ∙ descends (t - (i + 1))
              ∙ ap (λ (k : ℕ). descended_by draw k (drop i xs) (drop i ys)) (omega arith) ∙ S.same;
        }

  -- after t steps nothing is left to lower
  pub last : (ys : List ℕ) (i : ℕ) → Stepped ys i → t ≤ i → drop t ys ≡ descended_by draw t xs ys₀
  unfolding descended_by
  last ys i S h =
      let all : Stepped ys t = subst (Stepped ys) (omega (arith, S.done)) S in
      let none : t - t ≡ 0 = omega arith in
      sym (ap (λ (k : ℕ). descended_by draw k (drop t xs) (drop t ys)) none) ∙ all.same
