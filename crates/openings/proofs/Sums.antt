-- An opening as a loop makes it: one sum after another. Assumes nothing.
use Rattle.std.specs.Prelude.{None, Some}
use mathlib.Core.Path.{◌≡◌, refl, sym, ap, ap₂, ◌∙◌}
use mathlib.Core.Bool.{Bool, true, false, cond, ◌&&◌}
use mathlib.Core.List.{List}
use Prim.Native.Nat.{ℕ, zero, suc, ◌+◌, ◌-◌, ◌≤◌, ◌<◌}
use native.Mathlib.Numerals.{add-one}
use native.Mathlib.Omega.{arith}
use lib.Dec.{eqb, eqb-suc-zero, eqb-zero-suc}
use lib.ListN.{drop, get_or, drop_of_length-le}
use Rattle.std.specs.List.{list_all, range_with_len}
use lib.Seq.{drop-cons}
use Rattle.fields.specs.Ring.{Ops}
use Rattle.ranges.specs.Lists.{every}
use Rattle.weights.specs.Rows.{Scheme, weights}
use Rattle.sharing.specs.Scheme.{threshold, points}
use Rattle.weights.specs.Products.{products}
use Rattle.openings.specs.Opening.{total, moments, readable, settled, opened}
use Rattle.openings.proofs.Settled.{cond_true, cond_false, length_moments}

flipped : (v : ℕ) → eqb v 0 ≡ eqb 0 v
flipped zero = refl
flipped (suc v) = eqb-suc-zero v ∙ sym (eqb-zero-suc v)

module _ (O : Ops ℕ) (xs : List ℕ) where
  -- whether the sums of x y, x^2 y, .. are 0, m of them
  abbrev pub vanish : ℕ → List ℕ → Bool
  vanish m ys = every (eqb 0) (moments O m xs (products O xs ys))

  -- ---- the sums by their places, the secret's at place 0

  -- a sum does not depend on how many are made
  moment_at : (m j : ℕ) (ys : List ℕ) → j < m → get_or (moments O m xs ys) j 0 ≡ get_or (moments O (j + 1) xs ys) j 0
  unfolding moments
  moment_at zero j ys h = absurd (omega arith)
  moment_at (suc m) zero ys h = refl
  moment_at (suc m) (suc j) ys h =
      let e : suc j + 1 ≡ suc (j + 1) = omega arith in
      moment_at m j (products O xs ys) (omega arith) ∙ ap (λ (k : ℕ). get_or (moments O k xs ys) (suc j) 0) (sym e)

  -- the sum at place j alone
  abbrev pub sum : List ℕ → ℕ → ℕ
  sum ys j = get_or (moments O (j + 1) xs ys) j 0

  module _ (m : ℕ) (ys : List ℕ) where
    abbrev sums : List ℕ
    sums = moments O (m + 1) xs ys

    tested : (a k : ℕ) → a + k ≡ m + 1 → list_all (λ (j : ℕ). eqb (sum ys j) 0) (range_with_len a k) ≡ every (eqb 0) (drop a sums)
    unfolding every
    tested a zero e = sym (ap (every (eqb 0)) (drop_of_length-le sums (omega (arith, length_moments O (m + 1) xs ys))))
    tested a (suc k) e =
        ap₂ ◌&&◌ (ap (λ (v : ℕ). eqb v 0) (sym (moment_at (m + 1) a ys (omega arith))) ∙ flipped (get_or sums a 0))
        (tested (a + 1) k (omega arith) ∙ ap (λ (i : ℕ). every (eqb 0) (drop i sums)) (add-one a))
        ∙ sym (ap (every (eqb 0)) (drop-cons sums a 0 (omega (arith, length_moments O (m + 1) xs ys))))

    -- the sums after the first, each tested alone
    pub all_tested : list_all (λ (j : ℕ). eqb (sum ys j) 0) (range_with_len 1 m) ≡ vanish m ys
    unfolding moments
    all_tested = tested 1 m (omega arith) ∙ rw (add-one m)

module _ (S : Scheme) (n : ℕ) (words : List ℕ) where
  pub unreadable : readable S.size n words ≡ false → opened S n words ≡ None
  unfolding opened
  unreadable e = cond_false (readable S.size n words) _ e

  -- the first sum is the secret, where the others are 0
  pub begun : (ys : List ℕ) (v : ℕ) → readable S.size n words ≡ true → 3 ≤ n → ys ≡ products S.ops (weights S n) words → v ≡ total S.ops ys
      → opened S n words ≡ cond (vanish S.ops (points n) (n - 1 - threshold n) ys) (Some v) None
  unfolding opened moments settled
  begun ys v e h ey ev =
      let j : n - threshold n ≡ suc (n - 1 - threshold n) = omega arith in
      cond_true (readable S.size n words) _ e
      ∙ ap₂ (λ (k : ℕ) (z : List ℕ). settled (moments S.ops k (points n) z)) j (sym ey)
      ∙ ap (λ (x : ℕ). cond (vanish S.ops (points n) (n - 1 - threshold n) ys) (Some x) None) (sym ev)
