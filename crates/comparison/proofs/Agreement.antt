-- Two polynomials that have the same values at the points of a pool: equal where their secrets are, and every local step keeps it.
-- Assumes nothing.
use mathlib.Core.Path.{◌≡◌, refl, sym, ap, ap₂, ◌∙◌}
use mathlib.Core.List.Memᴰ
use mathlib.Core.List.{List, [], ◌∷◌, map, head-eq_of_cons-eq, tail-eq_of_cons-eq, Memᴰ}
use mathlib.Core.Logic.{◌⊎◌, inl, inr}
use Prim.Native.Nat.{ℕ, zero, suc, ◌+◌, ◌≤◌, ◌<◌}
use native.Mathlib.Omega.{arith}
use lib.ListN.{length, take}
use lib.Seq.{length-take-le}
use lib.Dec.{lit<}
use Rattle.fields.specs.Field.{Field}
use Rattle.fields.specs.Amount.{amounts}
use Rattle.fields.specs.Byte.{xor, product, bytes}
use Rattle.fields.proofs.Fields.{amount_field, byte_field}
use Rattle.sharing.specs.Polynomial.{value}
use Rattle.ranges.specs.Lists.{from}
use Rattle.sharing.specs.Scheme.{points}
use Rattle.sharing.specs.Linear.{sums, negatives, scaled}
use Rattle.ranges.specs.Distinct.{Apart}
use Rattle.sharing.proofs.Points.{Different, different_points}
use Rattle.ranges.proofs.Loops.{length_from}
use Rattle.sharing.proofs.Laws.{unique, recolour, recolour_length, recolour_lt, recolour_shares}
use Rattle.comparison.specs.Local.{on_polynomials, shifted}
use Rattle.fields.specs.Bits.{bit}
use Rattle.comparison.specs.Rounds.{offset, masked, differing, first_carry, left, right, next_carry, last}
use Rattle.comparison.specs.Probe.{Group, secret}
use Rattle.comparison.proofs.Values.{Shared, Reads, reads_plus, reads_negate, reads_times, reads_shift, reads_value, reads_secret, bit_byte}
use Rattle.comparison.proofs.Dealt.{shared_cons}

-- ---- one of a list

abbrev pub In : ℕ → List ℕ → Type 0
In x xs = Memᴰ x xs

module _ {A : Type 0} (f g : ℕ → A) where
  pub map_same : (xs : List ℕ) → ((x : ℕ) → In x xs → f x ≡ g x) → map f xs ≡ map g xs
  map_same [] h = refl
  map_same (x ∷ xs) h =
      ap₂ (λ (z : A) (zs : List A). z ∷ zs) (h x (Memᴰ.head refl)) (map_same xs (λ y m. h y (Memᴰ.tail m)))

  pub same_map : (xs : List ℕ) → map f xs ≡ map g xs → (x : ℕ) → In x xs → f x ≡ g x
  same_map [] e x m = absurd (Memᴰ.not-nil m)
  same_map (y ∷ ys) e x m = go (same_map ys (tail-eq_of_cons-eq e) x) (Memᴰ.cases_cons m)
    where
      go : (In x ys → f x ≡ g x) → (x ≡ y) ⊎ In x ys → f x ≡ g x
      go h (inl i) = ap f i ∙ head-eq_of_cons-eq e ∙ sym (ap g i)
      go h (inr i) = h i

pub in_below : (xs : List ℕ) → Different xs → (x : ℕ) → In x xs → x < 10
in_below [] D x m = absurd (Memᴰ.not-nil m)
in_below (y ∷ ys) D x m = go (in_below ys D.2 x) (Memᴰ.cases_cons m)
  where
    go : (In x ys → x < 10) → (x ≡ y) ⊎ In x ys → x < 10
    go h (inl i) = omega (arith, D.0)
    go h (inr i) = h i

in_from : (a m x : ℕ) → In x (from a m) → (a ≤ x) × (x < a + m)
unfolding from
in_from a zero x i = absurd (Memᴰ.not-nil i)
in_from a (suc m) x i = go (in_from (suc a) m x) (Memᴰ.cases_cons i)
  where
    go : (In x (from (suc a) m) → (suc a ≤ x) × (x < suc a + m)) → (x ≡ a) ⊎ In x (from (suc a) m) → (a ≤ x) × (x < a + suc m)
    go h (inl i) = (omega arith, omega arith)
    go h (inr i) = let r : (suc a ≤ x) × (x < suc a + m) = h i in (omega arith, omega arith)

in_take : (m : ℕ) (xs : List ℕ) (x : ℕ) → In x (take m xs) → In x xs
in_take zero xs x i = absurd (Memᴰ.not-nil i)
in_take (suc m) [] x i = i
in_take (suc m) (y ∷ ys) x i = go (in_take m ys x) (Memᴰ.cases_cons i)
  where
    go : (In x (take m ys) → In x ys) → (x ≡ y) ⊎ In x (take m ys) → In x (y ∷ ys)
    go h (inl e) = Memᴰ.head e
    go h (inr k) = Memᴰ.tail (h k)

apart_take : (m r : ℕ) (xs : List ℕ) → Apart r xs → Apart r (take m xs)
apart_take zero r xs A = tt
apart_take (suc m) r [] A = tt
apart_take (suc m) r (x ∷ xs) A = (A.0, apart_take m r xs A.1)

different_take : (m : ℕ) (xs : List ℕ) → Different xs → Different (take m xs)
different_take zero xs D = tt
different_take (suc m) [] D = tt
different_take (suc m) (x ∷ xs) D = (D.0, apart_take m x xs D.1, different_take m xs D.2)

-- ---- what fixes a polynomial of degree at most t

-- its values at more than t different points
pub fixed : (F : Field) (t : ℕ) (xs cs ds : List ℕ) → Different xs → t < length xs → Shared F.size t cs → Shared F.size t ds
    → ((x : ℕ) → In x xs → value F.ops cs x ≡ value F.ops ds x) → cs ≡ ds
fixed F t xs cs ds D h hc hd e =
    let l : suc t ≡ length (take (suc t) xs) = sym (length-take-le (suc t) xs h) in
    unique F (take (suc t) xs) cs ds (different_take (suc t) xs D) hc.1 hd.1 (hc.0 ∙ l) (hd.0 ∙ l)
    (map_same (value F.ops cs) (value F.ops ds) (take (suc t) xs) (λ x m. e x (in_take (suc t) xs x m)))

-- the words of n parties, more than t
pub heard : (F : Field) (t n : ℕ) (cs ds : List ℕ) → t < n → n ≤ 9 → Shared F.size t cs → Shared F.size t ds
    → ((j : ℕ) → 1 ≤ j → j ≤ n → value F.ops cs j ≡ value F.ops ds j) → cs ≡ ds
heard F t n cs ds h k hc hd e =
    fixed F t (points n) cs ds (different_points n k) (omega (arith, length_from 1 n)) hc hd
    (λ j m. let r : (1 ≤ j) × (j < 1 + n) = in_from 1 n j m in e j r.0 (omega arith))

-- two shared values of which the pool xs has the same shares
pub record Alike (F : Field) (t : ℕ) (xs cs ds : List ℕ) : Type 0 where
  pub first : Shared F.size t cs
  pub second : Shared F.size t ds
  pub same : (x : ℕ) → In x xs → value F.ops cs x ≡ value F.ops ds x

pub recolour_group : (F : Field) (t : ℕ) (xs : List ℕ) (s s' : ℕ) (cs : List ℕ) → length xs ≡ t → Group F.size t (recolour F xs s s' cs)
recolour_group F t xs s s' cs l = (recolour_length F xs s s' cs ∙ l, recolour_lt F xs s s' cs)

module _ (F : Field) (t : ℕ) (xs : List ℕ) (D : Different (F.ops.zero ∷ xs)) (l : length xs ≡ t) where
  -- where the secrets are the same too, they are one polynomial
  pub alike_same : {cs ds : List ℕ} → Alike F t xs cs ds → secret cs ≡ secret ds → cs ≡ ds
  alike_same {cs} {ds} h e =
      unique F (F.ops.zero ∷ xs) cs ds D h.first.1 h.second.1 (h.first.0 ∙ sym (ap suc l)) (h.second.0 ∙ sym (ap suc l))
      (ap₂ (λ (z : ℕ) (zs : List ℕ). z ∷ zs)
      ((reads_secret F t cs h.first).read ∙ e ∙ sym (reads_secret F t ds h.second).read)
      (map_same (value F.ops cs) (value F.ops ds) xs h.same))

  pub alike_recolour : (s s' : ℕ) (cs : List ℕ) → s < F.size → s' < F.size → Group F.size t cs
      → Alike F t xs (s ∷ cs) (s' ∷ recolour F xs s s' cs)
  alike_recolour s s' cs hs hs' hc =
      record {
        first = shared_cons s cs hs hc;
        second = shared_cons s' (recolour F xs s s' cs) hs' (recolour_group F t xs s s' cs l);
        same =
            same_map (value F.ops (s ∷ cs)) (value F.ops (s' ∷ recolour F xs s s' cs)) xs
            (sym (recolour_shares F xs s s' cs D hs hs' hc.1));
      }

-- ---- every local step keeps it

module _ {F : Field} {t : ℕ} {xs : List ℕ} (D : Different xs) where
  -- a step f on polynomials that is g on the values at a point
  by_one : (f : List ℕ → List ℕ) (g : ℕ → ℕ)
      → ((x : ℕ) → x < F.size → (cs : List ℕ) → Shared F.size t cs → Reads F t x (f cs) (g (value F.ops cs x)))
      → {cs cs' : List ℕ} → Alike F t xs cs cs' → Alike F t xs (f cs) (f cs')
  by_one f g law {cs} {cs'} h =
      record {
        first = (law 0 (omega (arith, F.points_lt)) cs h.first).shared;
        second = (law 0 (omega (arith, F.points_lt)) cs' h.second).shared;
        same =
            λ x m.
            let hx : x < F.size = omega (arith, in_below xs D x m, F.points_lt) in
            (law x hx cs h.first).read ∙ ap g (h.same x m) ∙ sym (law x hx cs' h.second).read;
      }

  by_two : (f : List ℕ → List ℕ → List ℕ) (g : ℕ → ℕ → ℕ)
      → ((x : ℕ) → x < F.size → (cs ds : List ℕ) → Shared F.size t cs → Shared F.size t ds
      → Reads F t x (f cs ds) (g (value F.ops cs x) (value F.ops ds x)))
      → {cs cs' ds ds' : List ℕ} → Alike F t xs cs cs' → Alike F t xs ds ds' → Alike F t xs (f cs ds) (f cs' ds')
  by_two f g law {cs} {cs'} {ds} {ds'} h k =
      record {
        first = (law 0 (omega (arith, F.points_lt)) cs ds h.first k.first).shared;
        second = (law 0 (omega (arith, F.points_lt)) cs' ds' h.second k.second).shared;
        same =
            λ x m.
            let hx : x < F.size = omega (arith, in_below xs D x m, F.points_lt) in
            (law x hx cs ds h.first k.first).read ∙ ap₂ g (h.same x m) (k.same x m) ∙ sym (law x hx cs' ds' h.second k.second).read;
      }

  pub plus : {cs cs' ds ds' : List ℕ} → Alike F t xs cs cs' → Alike F t xs ds ds' → Alike F t xs (sums F.ops cs ds) (sums F.ops cs' ds')
  plus = by_two (sums F.ops) F.ops.add (λ x hx cs ds hc hd. reads_plus hx (reads_value F t x cs hc) (reads_value F t x ds hd))

  negate : {cs cs' : List ℕ} → Alike F t xs cs cs' → Alike F t xs (negatives F.ops cs) (negatives F.ops cs')
  negate = by_one (negatives F.ops) F.ops.neg (λ x hx cs hc. reads_negate hx (reads_value F t x cs hc))

  pub times : (k : ℕ) → k < F.size → {cs cs' : List ℕ} → Alike F t xs cs cs' → Alike F t xs (scaled F.ops k cs) (scaled F.ops k cs')
  times k hk = by_one (scaled F.ops k) (F.ops.mul k) (λ x hx cs hc. reads_times hx k hk (reads_value F t x cs hc))

  pub shift : (k : ℕ) → k < F.size → {cs cs' : List ℕ} → Alike F t xs cs cs' → Alike F t xs (shifted F.ops k cs) (shifted F.ops k cs')
  shift k hk = by_one (shifted F.ops k) (F.ops.add k) (λ x hx cs hc. reads_shift hx k hk (reads_value F t x cs hc))

module _ (t : ℕ) (xs : List ℕ) where
  abbrev pub Amounts : List ℕ → List ℕ → Type 0
  Amounts = Alike amount_field t xs

  abbrev pub Bytes : List ℕ → List ℕ → Type 0
  Bytes = Alike byte_field t xs

module _ {t : ℕ} {xs : List ℕ} (D : Different xs) where
  pub masked_alike : {m m' d d' s s' : List ℕ} → Amounts t xs m m' → Amounts t xs d d' → Amounts t xs s s'
      → Amounts t xs (masked (on_polynomials amounts) m d s) (masked (on_polynomials amounts) m' d' s')
  unfolding masked
  masked_alike m d s = plus D (plus D (shift D offset (lit< tt) (negate D m)) d) (negate D s)

  module _ (T i : ℕ) where
    differing_alike : {b b' : List ℕ} → Bytes t xs b b' → Bytes t xs (differing (on_polynomials bytes) T i b) (differing (on_polynomials bytes) T i b')
    unfolding differing
    differing_alike b = shift D (bit i T) (bit_byte i T) b

    pub left_alike : {b b' a a' : List ℕ} → Bytes t xs b b' → Bytes t xs a a'
        → Bytes t xs (left (on_polynomials bytes) T i b a) (left (on_polynomials bytes) T i b' a')
    unfolding left
    left_alike b a = plus D (differing_alike b) a

    pub right_alike : {C C' b b' : List ℕ} → Bytes t xs C C' → Bytes t xs b b'
        → Bytes t xs (right (on_polynomials bytes) T i C b) (right (on_polynomials bytes) T i C' b')
    unfolding right
    right_alike C b = plus D (shift D (bit i T) (bit_byte i T) C) b

    -- opened to the same bytes d and e
    pub next_carry_alike : (d e : ℕ) {a a' b b' g g' : List ℕ} → d < 256 → e < 256 → Bytes t xs a a' → Bytes t xs b b' → Bytes t xs g g'
        → Bytes t xs (next_carry (on_polynomials bytes) T i d e a b g) (next_carry (on_polynomials bytes) T i d e a' b' g')
    unfolding next_carry
    next_carry_alike d e hd he a b g =
        shift D (bit i T) (bit_byte i T)
        (shift D (product d e) (byte_field.ring.mul_lt d e hd he) (plus D (plus D g (times D d hd b)) (times D e he a)))

  module _ (T : ℕ) where
    pub first_carry_alike : {b b' : List ℕ} → Bytes t xs b b' → Bytes t xs (first_carry (on_polynomials bytes) T b) (first_carry (on_polynomials bytes) T b')
    unfolding first_carry
    first_carry_alike b = shift D (bit 1 T) (bit_byte 1 T) (times D (bit 1 T) (bit_byte 1 T) (differing_alike T 1 b))

    pub last_alike : {b b' C C' : List ℕ} → Bytes t xs b b' → Bytes t xs C C'
        → Bytes t xs (last (on_polynomials bytes) T b C) (last (on_polynomials bytes) T b' C')
    unfolding last
    last_alike b C = shift D (bit 33 T) (bit_byte 33 T) (plus D b C)

-- ---- bytes: what is added twice is gone

pub restored : (a d : ℕ) → a < 256 → d < 256 → xor a (xor d a) ≡ d
restored a d ha hd =
    byte_field.ring.add_comm a (xor d a) ha (byte_field.ring.add_lt d a hd ha)
    ∙ byte_field.ring.add_assoc d a a hd ha ha ∙ ap (xor d) (byte_field.ring.add_neg a ha) ∙ byte_field.ring.add-zero d hd

pub solved : (a b d : ℕ) → a < 256 → b < 256 → d < 256 → xor a b ≡ d → b ≡ xor d a
solved a b d ha hb hd e =
    sym (restored a b ha hb) ∙ ap (xor a) (byte_field.ring.add_comm b a hb ha ∙ e) ∙ byte_field.ring.add_comm a d ha hd
