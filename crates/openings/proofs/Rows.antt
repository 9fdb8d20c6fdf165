-- The rows of weights follow their rule: one computed test of each table. Assumes nothing.
use mathlib.Core.Path.{◌≡◌, refl, ap₂}
use mathlib.Core.Bool.{Bool, true, false, ◌&&◌}
use mathlib.Core.List.{List, [], ◌∷◌, head-eq_of_cons-eq, tail-eq_of_cons-eq}
use Prim.Native.Nat.{ℕ, zero, suc, ◌≤◌, ◌<◌}
use native.Mathlib.Omega.{arith}
use lib.Dec.{T, ltb, eqb, eqb→eq}
use lib.ListN.{length, get_or}
use Rattle.fields.specs.Field.{Field}
use Rattle.fields.specs.Byte.{xor, xtimes, terms, product}
use Rattle.ranges.specs.Below.{AllBelow}
use Rattle.fields.proofs.Test.{is_true, both_left, both_right, below, at}
use Rattle.fields.proofs.Fields.{amount_field, byte_field}
use Rattle.ranges.specs.Lists.{from, every}
use Rattle.ranges.proofs.Loops.{length_from}
use Rattle.ranges.proofs.Ranges.{all_below}
use Rattle.weights.specs.Rows.{Scheme, weights, amount_scheme, byte_scheme}
use Rattle.sharing.specs.Scheme.{points}
use Rattle.weights.specs.Products.{products}
use Rattle.openings.specs.Opening.{total, moments}
use Rattle.openings.proofs.Weighing.{ending, Weighing}

-- Numbers that weigh the points xs, n of them: their sum is 1, the sums of w x, .. w x^(n-1) are 0, and that of w x^n has an inverse.
pub record Weights (F : Field) (xs w : List ℕ) : Type 0 where
  pub last : ℕ
  pub top : ℕ
  pub inverse : ℕ
  pub top_lt : top < F.size
  pub inverse_lt : inverse < F.size
  pub weights_lt : AllBelow F.size w
  pub weighing : Weighing F.ops last xs w top inverse

same : List ℕ → List ℕ → Bool
same [] [] = true
same [] (y ∷ ys) = false
same (x ∷ xs) [] = false
same (x ∷ xs) (y ∷ ys) = eqb x y && same xs ys

same_eq : (xs ys : List ℕ) → T (same xs ys) → xs ≡ ys
unfolding same
same_eq [] [] t = refl
same_eq [] (y ∷ ys) t = absurd t
same_eq (x ∷ xs) [] t = absurd t
same_eq (x ∷ xs) (y ∷ ys) t =
    ap₂ (λ (z : ℕ) (zs : List ℕ). z ∷ zs) (eqb→eq x y (both_left (eqb x y) (same xs ys) t)) (same_eq xs ys (both_right (eqb x y) (same xs ys) t))

-- for each row the sum of w x^n, and its inverse
module _ (F : Field) (S : Scheme) (tops inverses : List ℕ) where
  abbrev numbers_small : ℕ → Bool
  numbers_small i = every (λ w. ltb w F.size) (get_or tops i 0 ∷ get_or inverses i 0 ∷ weights S (suc (suc (suc i))))

  abbrev rule_holds : ℕ → Bool
  rule_holds i =
      same
      (length (weights S (suc (suc (suc i)))) ∷ F.ops.mul (get_or tops i 0) (get_or inverses i 0)
      ∷ moments F.ops (suc (suc (suc (suc i)))) (points (suc (suc (suc i)))) (weights S (suc (suc (suc i)))))
      (suc (suc (suc i)) ∷ F.ops.one ∷ F.ops.one ∷ ending F.ops (suc (suc i)) (get_or tops i 0))

  pub good_row : ℕ → Bool
  good_row i = numbers_small i && rule_holds i

  good : (i : ℕ) → T (good_row i) → Weights F (points (suc (suc (suc i)))) (weights S (suc (suc (suc i))))
  unfolding good_row
  good i t =
      let e : _ ≡ _ = same_eq _ _ (both_right (numbers_small i) (rule_holds i) t) in
      let h : AllBelow F.size (get_or tops i 0 ∷ get_or inverses i 0 ∷ weights S (suc (suc (suc i)))) =
      all_below F.size _ (is_true (numbers_small i) (both_left (numbers_small i) (rule_holds i) t)) in
      record {
        last = suc (suc i);
        top = get_or tops i 0;
        inverse = get_or inverses i 0;
        top_lt = h.0;
        inverse_lt = h.1.0;
        weights_lt = h.1.1;
        weighing =
            record {
              points_many = length_from 1 (suc (suc (suc i)));
              weights_many = head-eq_of_cons-eq e;
              rule = tail-eq_of_cons-eq (tail-eq_of_cons-eq e);
              unit = head-eq_of_cons-eq (tail-eq_of_cons-eq e);
            };
      }

  pub rows : T (below good_row 7) → (n : ℕ) → 3 ≤ n → n ≤ 9 → Weights F (points n) (weights S n)
  rows t zero l h = absurd (omega arith)
  rows t (suc zero) l h = absurd (omega arith)
  rows t (suc (suc zero)) l h = absurd (omega arith)
  rows t (suc (suc (suc i))) l h = good i (at good_row 7 t i (omega arith))

-- plus and minus 3!, .. 9! modulo p
abbrev amount_tops : List ℕ
amount_tops = 6 ∷ 2305843009213693927 ∷ 120 ∷ 2305843009213693231 ∷ 5040 ∷ 2305843009213653631 ∷ 362880 ∷ []

abbrev amount_inverses : List ℕ
amount_inverses =
    1921535841011411626 ∷ 672537544353994069 ∷ 1710166898500156347 ∷ 867893688190154251 ∷ 864233619921561086 ∷ 468431549813228352
    ∷ 1485180722829881706 ∷ []

pub amount_weights : (n : ℕ) → 3 ≤ n → n ≤ 9 → Weights amount_field (points n) (weights amount_scheme n)
unfolding good_row every same from moments products total
amount_weights = rows amount_field amount_scheme amount_tops amount_inverses tt

pub byte_weights : (n : ℕ) → 3 ≤ n → n ≤ 9 → Weights byte_field (points n) (weights byte_scheme n)
unfolding good_row every same from moments products total product terms xtimes xor
byte_weights = rows byte_field byte_scheme (6 ∷ 24 ∷ 120 ∷ 11 ∷ 49 ∷ 147 ∷ 103 ∷ []) (123 ∷ 88 ∷ 182 ∷ 192 ∷ 69 ∷ 109 ∷ 67 ∷ []) tt
