-- What the tests of an opening say of the words, and of the sums that are taken. Assumes nothing.
use Rattle.std.specs.Prelude.{None, Some}
use mathlib.Core.Path.{◌≡◌, refl, ap, ap₂, ◌∙◌}
use mathlib.Core.Bool.{Bool, true, false, cond, ◌&&◌}
use mathlib.Core.List.{List, [], ◌∷◌}
use Prim.Native.Nat.{ℕ, zero, suc, ◌≤◌}
use native.Mathlib.Nat.{suc_inj}
use native.Mathlib.Omega.{arith}
use lib.Dec.{leb, ltb, eqb}
use lib.ListN.{length, replicate}
use borrow.Author.Tests.{leb-true, le-leb, eqb-true, eq-eqb}
use Rattle.std.specs.Bool.{then_some}
use Rattle.fields.specs.Ring.{Ops}
use Rattle.ranges.specs.Lists.{every}
use Rattle.ranges.proofs.Loops.{and_left, and_right, every_replicate, only_same}
use Rattle.weights.specs.Products.{products}
use Rattle.openings.specs.Opening.{moments, readable, settled}
use Rattle.openings.specs.Opening.{Opening}

-- as many words as parties, 3 to 9
abbrev pub Counted : ℕ → List ℕ → Type 0
Counted n words = (3 ≤ n) × (n ≤ 9) × (length words ≡ n)

pub count : (n : ℕ) (words : List ℕ) → leb 3 n && leb n 9 && eqb (length words) n ≡ true → Counted n words
count n words e =
    let b : leb 3 n && leb n 9 ≡ true = and_left (leb 3 n && leb n 9) (eqb (length words) n) e in (
      leb-true 3 n (and_left (leb 3 n) (leb n 9) b),
      leb-true n 9 (and_right (leb 3 n) (leb n 9) b),
      eqb-true (length words) n (and_right (leb 3 n && leb n 9) (eqb (length words) n) e),
    )

-- what readable words are
pub record Readable (size n : ℕ) (words : List ℕ) : Type 0 where
  pub least : 3 ≤ n
  pub most : n ≤ 9
  pub long : length words ≡ n
  pub small : every (λ w. ltb w size) words ≡ true

module _ (size n : ℕ) (words : List ℕ) where
  pub read : readable size n words ≡ true → Readable size n words
  unfolding readable
  read e =
      let c = count n words (and_left _ (every (λ w. ltb w size) words) e) in
      record {
        least = c.0;
        most = c.1;
        long = c.2;
        small = and_right (leb 3 n && leb n 9 && eqb (length words) n) (every (λ w. ltb w size) words) e;
      }

  pub is_readable : Readable size n words → readable size n words ≡ true
  unfolding readable
  is_readable r = rw (le-leb 3 n r.least, le-leb n 9 r.most, eq-eqb (length words) n r.long, r.small)

pub some_where : (b : Bool) (v : ℕ) → then_some b v ≡ cond b (Some v) None
some_where true v = refl
some_where false v = refl

pub cond_true : (b : Bool) (o : Opening) → b ≡ true → cond b o None ≡ o
cond_true b o e = ap (λ (c : Bool). cond c o None) e

pub cond_false : (b : Bool) (o : Opening) → b ≡ false → cond b o None ≡ None
cond_false b o e = ap (λ (c : Bool). cond c o None) e

pub cond_secret : (b : Bool) (o : Opening) (s : ℕ) → cond b o None ≡ Some s → (b ≡ true) × (o ≡ Some s)
cond_secret true o s e = (refl, e)
cond_secret false o s e = let z : ◌≡◌ {A = ℕ} 0 1 = cc in absurd (omega arith)

pub settled_zeros : (s m : ℕ) → settled (s ∷ replicate m 0) ≡ Some s
unfolding settled
settled_zeros s m = rw (every_replicate (eqb 0) 0 m refl)

pub settled_secret : (vs : List ℕ) (s m : ℕ) → length vs ≡ suc m → settled vs ≡ Some s → vs ≡ s ∷ replicate m 0
unfolding settled
settled_secret [] s m l e = absurd (omega arith)
settled_secret (v ∷ vs) s m l e =
    let c : (every (eqb 0) vs ≡ true) × (Some v ≡ Some s) = cond_secret (every (eqb 0) vs) (Some v) s e in
    let z : v ≡ s = cc c.1 in
    ap₂ (λ (a : ℕ) (b : List ℕ). a ∷ b) z (only_same 0 vs c.0 ∙ ap (λ (k : ℕ). replicate k 0) (suc_inj l))

pub length_moments : (O : Ops ℕ) (m : ℕ) (xs ys : List ℕ) → length (moments O m xs ys) ≡ m
unfolding moments
length_moments O zero xs ys = refl
length_moments O (suc m) xs ys = ap suc (length_moments O m xs (products O xs ys))
