-- Messages in which only the words of those who are present are known, and those in which all are. Assumes nothing.
use mathlib.Core.Path.{◌≡◌, refl, sym, ap, ap₂, subst, ◌∙◌}
use mathlib.Core.Bool.{Bool, true, false, cond}
use mathlib.Core.List.{List, [], ◌∷◌, map}
use Prim.Native.Nat.{ℕ, suc, ◌-◌, ◌*◌, ◌≤◌}
use native.Mathlib.Omega.{arith}
use lib.Dec.{leb, eqb}
use lib.ListN.{length, get_or, length-map, length-append, length-replicate}
use Rattle.ranges.specs.Lists.{from}
use Rattle.ranges.proofs.Loops.{length_from, same_from, every_replicate}
use Rattle.sharing.specs.Scheme.{points}
use Rattle.presence.specs.Presence.{marked, choose, is_present, everyone}
use Rattle.presence.proofs.Laws.{how_many_all}
use Rattle.auction.specs.Attendance.{Enough}
use Rattle.comparison.specs.Probe.{Each}
use Rattle.auction.specs.Coins.{flat}
use Rattle.auction.specs.Received.{blocks}
use Rattle.auction.proofs.Calls.{each_point}
use Rattle.auction.proofs.Blocks.{blocks_flat}
use Rattle.auction.proofs.Step.{Hearable}

module _ {A : Type 0} (w e : ℕ → A) where
  -- the word of a party whose mark is 1, else anything
  abbrev filled : (present : List ℕ) (a i : ℕ) → A
  filled present a i = cond (eqb 1 (get_or present (i - a) 0)) (w i) (e i)

  later : (m : ℕ) (ms : List ℕ) (a k : ℕ) → map (filled (m ∷ ms) a) (from (suc a) k) ≡ map (filled ms (suc a)) (from (suc a) k)
  later m ms a k =
      same_from (filled (m ∷ ms) a) (filled ms (suc a)) (suc a) k
      (λ i l h.
      let d : i - a ≡ suc (i - suc a) = omega arith in
      ap (λ (x : ℕ). cond (eqb 1 (get_or (m ∷ ms) x 0)) (w i) (e i)) d)

  chosen : (present : List ℕ) (a : ℕ) → choose (marked present) (map (filled present a) (from a (length present))) ≡ choose (marked present) (map w (from a (length present)))
  unfolding from
  chosen [] a = refl
  chosen (m ∷ ms) a =
      first (eqb 1 m) refl (map (filled (m ∷ ms) a) (from (suc a) (length ms))) (map w (from (suc a) (length ms)))
      (ap (choose (marked ms)) (later m ms a (length ms)) ∙ chosen ms (suc a))
    where
      here : eqb 1 m ≡ true → filled (m ∷ ms) a a ≡ w a
      here h =
          let d : a - a ≡ 0 = omega arith in
          ap (λ (x : ℕ). cond (eqb 1 (get_or (m ∷ ms) x 0)) (w a) (e a)) d ∙ ap (λ (b : Bool). cond b (w a) (e a)) h

      first : (b : Bool) → eqb 1 m ≡ b → (xs ys : List A) → choose (marked ms) xs ≡ choose (marked ms) ys
          → choose (b ∷ marked ms) (filled (m ∷ ms) a a ∷ xs) ≡ choose (b ∷ marked ms) (w a ∷ ys)
      first true h xs ys r = ap₂ (λ (z : A) (zs : List A). z ∷ zs) (here h) r
      first false h xs ys r = r

either_long : (b : Bool) (xs ys : List ℕ) (m : ℕ) → length xs ≡ m → length ys ≡ m → length (cond b xs ys) ≡ m
either_long true xs ys m h k = h
either_long false xs ys m h k = k

-- as many words as the places say
flat_many : (m : ℕ) (xss : List (List ℕ)) → Each (λ xs. length xs ≡ m) xss → length (flat xss) ≡ length xss * m
unfolding flat
flat_many m [] h = omega arith
flat_many m (xs ∷ xss) h = length-append xs (flat xss) ∙ omega (arith, h.0, flat_many m xss h.1)

each_map : {A B : Type 0} (P : B → Type 0) (f : A → B) (xs : List A) → Each (λ x. P (f x)) xs → Each P (map f xs)
each_map P f [] h = tt
each_map P f (x ∷ xs) h = (h.0, each_map P f xs h.1)

module _ (n m : ℕ) (w e : ℕ → List ℕ) (present : List ℕ) (E : Enough n present) (long : (j : ℕ) → 1 ≤ j → j ≤ n → length (w j) ≡ m)
    (else_long : (j : ℕ) → length (e j) ≡ m) where
  abbrev parts : List (List ℕ)
  parts = map (λ i. cond (is_present present i) (w i) (e i)) (points n)

  parts_long : Each (λ xs. length xs ≡ m) parts
  parts_long =
      each_map (λ xs. length xs ≡ m) (λ i. cond (is_present present i) (w i) (e i)) (points n)
      (each_point (λ i. length (cond (is_present present i) (w i) (e i)) ≡ m) n (λ i i1 im. either_long (is_present present i) (w i) (e i) m (long i i1 im) (else_long i)))

  parts_many : length parts ≡ n
  parts_many = length-map (points n) (λ i. cond (is_present present i) (w i) (e i)) ∙ length_from 1 n

  pub parts_apart : blocks m n (flat parts) ≡ parts
  parts_apart = ap (λ (k : ℕ). blocks m k (flat parts)) (sym parts_many) ∙ blocks_flat m parts parts_long

  pub present_words : Hearable n m w (flat parts) present
  present_words =
      record {
        enough = E;
        many = flat_many m parts parts_long ∙ ap (λ (k : ℕ). k * m) parts_many;
        said =
            ap (choose (marked present)) parts_apart
            ∙ subst (λ (k : ℕ). choose (marked present) (map (filled w e present 1) (from 1 k)) ≡ choose (marked present) (map w (from 1 k))) E.long
            (chosen w e present 1);
      }

-- ---- where all are present

pub everyone_enough : (n : ℕ) → 3 ≤ n → Enough n (everyone n)
everyone_enough n h =
    record {
      long = length-replicate {A = ℕ} n 1;
      marks = every_replicate (λ m. leb m 1) 1 n refl;
      many = omega (arith, how_many_all (everyone n) (every_replicate (eqb 1) 1 n refl), length-replicate {A = ℕ} n 1);
    }

pub all_hearable : (n m : ℕ) (w : ℕ → List ℕ) → 3 ≤ n → ((j : ℕ) → 1 ≤ j → j ≤ n → length (w j) ≡ m) → Hearable n m w (flat (map w (points n))) (everyone n)
all_hearable n m w h long =
    let L = each_map (λ xs. length xs ≡ m) w (points n) (each_point (λ i. length (w i) ≡ m) n long) in
    let N : length (map w (points n)) ≡ n = length-map (points n) w ∙ length_from 1 n in
    record {
      enough = everyone_enough n h;
      many = flat_many m (map w (points n)) L ∙ ap (λ (k : ℕ). k * m) N;
      said = ap (choose (marked (everyone n))) (ap (λ (k : ℕ). blocks m k (flat (map w (points n)))) (sym N) ∙ blocks_flat m (map w (points n)) L);
    }
