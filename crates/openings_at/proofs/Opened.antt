-- What the tests of an opening at any points say of the words. Assumes nothing.
use Rattle.std.specs.Prelude.{None, Some}
use mathlib.Core.Path.{◌≡◌, refl, ap, ap₂, ◌∙◌}
use mathlib.Core.Bool.{Bool, true, false, ◌&&◌}
use mathlib.Core.List.{List, [], ◌∷◌, map}
use Prim.Native.Nat.{ℕ, suc, ◌-◌, ◌≤◌, ◌<◌}
use native.Mathlib.Omega.{arith}
use Rattle.std.specs.List.{list_all}
use lib.Dec.{ltb, eqb}
use lib.ListN.{length, take, drop, replicate, length-drop}
use lib.Seq.{take_all}
use borrow.Author.Tests.{eq-eqb}
use Rattle.ranges.specs.Lists.{every}
use Rattle.ranges.proofs.Loops.{every_replicate, only_same}
use Rattle.weights.specs.Rows.{Scheme}
use Rattle.openings.proofs.Settled.{cond_true, cond_false, cond_secret}
use Rattle.fields.specs.Ring.{Ops}
use Rattle.lowering.specs.Lines.{descended}
use Rattle.lowering.proofs.Lowering.{length_descended}
use Rattle.openings_at.specs.At.{agreed, opened_at}

-- ---- words that agree

pub agreed_same : (s m : ℕ) → agreed (replicate (suc m) s) ≡ Some s
unfolding agreed
agreed_same s m = cond_true (every (eqb s) (replicate m s)) (Some s) (every_replicate (eqb s) s m (eq-eqb s s refl))

pub agreed_secret : (vs : List ℕ) (s : ℕ) → agreed vs ≡ Some s → (0 < length vs) × (vs ≡ replicate (length vs) s)
unfolding agreed
agreed_secret [] s e = let z : ◌≡◌ {A = ℕ} 0 1 = cc in absurd (omega arith)
agreed_secret (v ∷ vs) s e =
    let c : (every (eqb v) vs ≡ true) × (Some v ≡ Some s) = cond_secret (every (eqb v) vs) (Some v) s e in
    let z : v ≡ s = cc c.1 in
    (omega arith, ap₂ (λ (a : ℕ) (b : List ℕ). a ∷ b) z (only_same v vs c.0 ∙ ap (replicate (length vs)) z))

pub all_are : (f : ℕ → ℕ) (v : ℕ) (ws : List ℕ) → list_all (λ (w : ℕ). eqb v (f w)) ws ≡ every (eqb v) (map f ws)
unfolding every
all_are f v [] = refl
all_are f v (w ∷ ws) = ap (λ (b : Bool). eqb v (f w) && b) (all_are f v ws)

pub map_same : (ws : List ℕ) → map (λ (w : ℕ). w) ws ≡ ws
map_same [] = refl
map_same (w ∷ ws) = ap (λ (l : List ℕ). w ∷ l) (map_same ws)

pub agreed_none : (vs : List ℕ) → length vs ≡ 0 → None ≡ agreed vs
unfolding agreed
agreed_none [] e = refl
agreed_none (v ∷ vs) e = absurd (omega arith)

-- t words or fewer leave none
pub none_left : (O : Ops ℕ) (gap : ℕ → ℕ → ℕ) (t : ℕ) (xs ys : List ℕ) → length ys ≡ length xs → length ys ≤ t → None ≡ agreed (descended O gap t xs ys)
none_left O gap t xs ys l h = agreed_none _ (length_descended O gap t xs ys l ∙ omega arith)

-- the rest of a slice, as it is lent
pub rest_is : (m : ℕ) (xs : List ℕ) → take (length xs - m) (drop m xs) ≡ drop m xs
rest_is m xs = take_all (length xs - m) (drop m xs) (omega (arith, length-drop m xs))

-- ---- words in range

module _ (S : Scheme) (t : ℕ) (xs words : List ℕ) where
  pub at_bad : every (λ w. ltb w S.size) words ≡ false → opened_at S t xs words ≡ None
  unfolding opened_at
  at_bad e = cond_false (every (λ w. ltb w S.size) words) _ e

  pub at_good : every (λ w. ltb w S.size) words ≡ true → opened_at S t xs words ≡ agreed (descended S.ops S.gap t xs words)
  unfolding opened_at
  at_good e = cond_true (every (λ w. ltb w S.size) words) _ e
