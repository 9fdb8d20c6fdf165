-- Lists multiplied place by place, and words with their weights, in any field. Assumes nothing.
use mathlib.Core.Path.{◌≡◌, refl, sym, ap, ◌∙◌}
use mathlib.Core.List.{List, [], ◌∷◌}
use Prim.Native.Nat.{ℕ, zero, suc, ◌+◌, ◌-◌, ◌≤◌, ◌<◌}
use native.Mathlib.Nat.{suc_inj}
use native.Mathlib.Omega.{arith}
use lib.Dec.{T, eqb, eqb→eq}
use lib.ListN.{length, take, set, get_or}
use lib.Seq.{get_or-take, length-take-le, take_all}
use Rattle.fields.specs.Ring.{Ops}
use Rattle.fields.proofs.Test.{below, at}
use Rattle.ranges.proofs.Loops.{fill}
use Rattle.weights.specs.Rows.{Scheme, weights}
use Rattle.weights.specs.Products.{products}

pub length_products : {A : Type 0} (O : Ops A) (xs ys : List A) → length xs ≡ length ys → length (products O xs ys) ≡ length ys
unfolding products
length_products O [] ys h = h
length_products O (x ∷ xs) [] h = refl
length_products O (x ∷ xs) (y ∷ ys) h = ap suc (length_products O xs ys (suc_inj h))

pub getD_products : (O : Ops ℕ) (xs ys : List ℕ) (i : ℕ) → i < length xs → i < length ys → get_or (products O xs ys) i 0 ≡ O.mul (get_or xs i 0) (get_or ys i 0)
unfolding products
getD_products O [] ys i h k = absurd (omega arith)
getD_products O (x ∷ xs) [] i h k = absurd (omega arith)
getD_products O (x ∷ xs) (y ∷ ys) zero h k = refl
getD_products O (x ∷ xs) (y ∷ ys) (suc i) h k = getD_products O xs ys i (omega arith) (omega arith)

-- ---- words times their weights

-- `long`: each of the seven rows has nine weights
module _ (S : Scheme) (long : T (below (λ k. eqb (length (get_or S.rows k [])) 9) 7)) (n : ℕ) (least : 3 ≤ n) (most : n ≤ 9) where
  pub length_weights : length (weights S n) ≡ n
  length_weights =
      let e : length (get_or S.rows (n - 3) []) ≡ 9 = eqb→eq _ 9 (at (λ k. eqb (length (get_or S.rows k [])) 9) 7 long (n - 3) (omega arith)) in
      length-take-le n (get_or S.rows (n - 3) []) (omega arith)

  module _ (words : List ℕ) (same : length words ≡ n) where
    pub length_weighted : length (products S.ops (weights S n) words) ≡ n
    length_weighted = length_products S.ops (weights S n) words (length_weights ∙ sym same) ∙ same

    pub getD_weighted : (i : ℕ) → i < n
        → get_or (products S.ops (weights S n) words) i 0 ≡ S.ops.mul (get_or (get_or S.rows (n - 3) []) i 0) (get_or words i 0)
    getD_weighted i h =
        getD_products S.ops (weights S n) words i (rw length_weights h) (rw same h)
        ∙ ap (λ (x : ℕ). S.ops.mul x (get_or words i 0)) (get_or-take n (get_or S.rows (n - 3) []) i 0 h)

    -- a loop that has the first i terms makes one more, and has all of them in the end
    pub one_more : (terms : List ℕ) (i v : ℕ) → i < n → i < length terms → v ≡ S.ops.mul (get_or (get_or S.rows (n - 3) []) i 0) (get_or words i 0)
        → take i terms ≡ take i (products S.ops (weights S n) words)
        → take (i + 1) (set terms i v) ≡ take (i + 1) (products S.ops (weights S n) words)
    one_more terms i v h l e before =
        fill terms (products S.ops (weights S n) words) i v l (rw length_weighted h) (e ∙ sym (getD_weighted i h)) before

    pub all_made : (terms : List ℕ) (i : ℕ) → i ≡ n → take i terms ≡ take i (products S.ops (weights S n) words)
        → take n terms ≡ products S.ops (weights S n) words
    all_made terms i e before =
        ap (λ (k : ℕ). take k terms) (sym e) ∙ before
        ∙ take_all i (products S.ops (weights S n) words) (omega (arith, length_weighted))
