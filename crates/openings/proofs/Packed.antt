-- All sums of an opening of bytes in one word. Assumes nothing.
use Rattle.std.specs.Prelude.{None, Some}
use mathlib.Core.Path.{◌≡◌, refl, sym, ap, ap₂, ◌∙◌}
use mathlib.Core.Bool.{Bool, true, false, cond, ◌&&◌}
use mathlib.Core.List.{List, [], ◌∷◌}
use Prim.Native.Nat.{ℕ, zero, suc, ◌+◌, ◌-◌, ◌*◌, ◌%◌, ◌^◌, ◌≤◌, ◌<◌}
use native.Mathlib.Nat.{lt_trans, mul_assoc, mul_comm}
use native.Mathlib.Omega.{arith}
use lib.Bits.{bit_xor, xor_block}
use lib.Dec.{eqb, ltb, lit<}
use lib.ListN.{length, drop, get_or}
use lib.Pow.{pow-lt, pow-add, shl_exact}
use lib.Seq.{drop-cons, drop-length}
use borrow.Author.Tests.{lt-ltb, le-ltb, eq-eqb, eqb-true}
use Rattle.fields.specs.Byte.{xor, product, bytes}
use Rattle.openings.specs.Packed.{packed}
use Rattle.fields.proofs.Bytes.{product_zero}
use Rattle.fields.proofs.Fields.{byte_field}
use Rattle.fields.proofs.Xor as xors
use Rattle.ranges.specs.Below.{AllBelow}
use Rattle.ranges.specs.Lists.{every}
use Rattle.ranges.proofs.Loops.{and_left, and_right}
use Rattle.ranges.proofs.Ranges.{below_drop, below_at}
use Rattle.weights.specs.Products.{products}
use Rattle.openings.specs.Opening.{total, moments, settled}

-- ---- one word more

total_lt : (ys : List ℕ) → AllBelow 256 ys → total bytes ys < 256
unfolding total
total_lt [] h = lit< tt
total_lt (y ∷ ys) h = byte_field.ring.add_lt y (total bytes ys) h.0 (total_lt ys h.1)

pub products_lt : (xs ys : List ℕ) → AllBelow 256 xs → AllBelow 256 ys → AllBelow 256 (products bytes xs ys)
unfolding products
products_lt [] ys hx hy = tt
products_lt (x ∷ xs) [] hx hy = tt
products_lt (x ∷ xs) (y ∷ ys) hx hy = (byte_field.ring.mul_lt x y hx.0 hy.0, products_lt xs ys hx.1 hy.1)

pub packed_xor : (a b p q : ℕ) → a < 256 → b < 256 → xor (a + 256 * p) (b + 256 * q) ≡ xor a b + 256 * xor p q
unfolding xor
packed_xor a b p q ha hb =
    let ea : a + 256 * p ≡ p * 2 ^ 8 + a = omega arith in
    let eb : b + 256 * q ≡ q * 2 ^ 8 + b = omega arith in
    let er : bit_xor p q * 2 ^ 8 + bit_xor a b ≡ bit_xor a b + 256 * bit_xor p q = omega arith in
    ap₂ bit_xor ea eb ∙ xor_block 8 p q a b ha hb ∙ er

-- the sums of one word, added to those of the others, are the sums of all
one_more : (m x y : ℕ) (xs ys : List ℕ) → x < 256 → y < 256 → AllBelow 256 xs → AllBelow 256 ys
    → xor (packed (moments bytes m (x ∷ []) (y ∷ []))) (packed (moments bytes m xs ys)) ≡ packed (moments bytes m (x ∷ xs) (y ∷ ys))
unfolding moments packed total products
one_more zero x y xs ys hx hy hxs hys = byte_field.ring.add-zero 0 (lit< tt)
one_more (suc m) x y xs ys hx hy hxs hys =
    packed_xor (xor y 0) (total bytes ys) _ _ (byte_field.ring.add_lt y 0 hy (lit< tt)) (total_lt ys hys)
    ∙ ap₂ (λ (a b : ℕ). xor a (total bytes ys) + 256 * b) (byte_field.ring.add-zero y hy)
    (one_more m x (product x y) xs (products bytes xs ys) hx (byte_field.ring.mul_lt x y hx hy) hxs (products_lt xs ys hxs hys))

no_words : (m : ℕ) → packed (moments bytes m [] []) ≡ 0
unfolding moments packed total products
no_words zero = refl
no_words (suc m) = ap (λ (k : ℕ). 0 + 256 * k) (no_words m)

-- the sums of the words from place i on
module _ (m : ℕ) (xs ys : List ℕ) where
  abbrev pub from_place : ℕ → ℕ
  from_place i = packed (moments bytes m (drop i xs) (drop i ys))

  module _ (same : length xs ≡ length ys) where
    pub none_left : 0 ≡ from_place (length ys)
    none_left =
        sym
        (ap₂ (λ (us vs : List ℕ). packed (moments bytes m us vs)) (ap (λ (k : ℕ). drop k xs) (sym same) ∙ drop-length xs) (drop-length ys)
        ∙ no_words m)

    module _ (hxs : AllBelow 256 xs) (hys : AllBelow 256 ys) where
      pub one_on : (i v : ℕ) → i < length ys → v ≡ packed (moments bytes m (get_or xs i 0 ∷ []) (get_or ys i 0 ∷ []))
          → xor v (from_place (i + 1)) ≡ from_place i
      one_on i v h ev =
          let e : i + 1 ≡ suc i = omega arith in
          ap₂ (λ (z k : ℕ). xor z (from_place k)) ev e
          ∙ one_more m (get_or xs i 0) (get_or ys i 0) (drop (suc i) xs) (drop (suc i) ys) (below_at 256 xs i hxs (lit< tt))
          (below_at 256 ys i hys (lit< tt)) (below_drop 256 (suc i) xs hxs) (below_drop 256 (suc i) ys hys)
          ∙ sym (ap₂ (λ (us vs : List ℕ). packed (moments bytes m us vs)) (drop-cons xs i 0 (omega (arith, same))) (drop-cons ys i 0 h))

      pub one_back : (i v : ℕ) → 0 < i → i ≤ length ys → v ≡ packed (moments bytes m (get_or xs (i - 1) 0 ∷ []) (get_or ys (i - 1) 0 ∷ []))
          → xor (from_place i) v ≡ from_place (i - 1)
      one_back i v h l ev =
          let e : i ≡ i - 1 + 1 = omega arith in
          ap (λ (k : ℕ). xor (from_place k) v) e ∙ xors.comm _ _ ∙ one_on (i - 1) v (omega arith) ev

-- ---- the sums of one word

swapped : (r q : ℕ) → r * (256 * q) ≡ 256 * (r * q)
swapped r q = sym (mul_assoc r 256 q) ∙ ap (λ (k : ℕ). k * q) (mul_comm r 256) ∙ mul_assoc 256 r q

-- y times x, j times
abbrev pub multiplied : ℕ → ℕ → ℕ → ℕ
multiplied x zero y = y
multiplied x (suc j) y = multiplied x j (product x y)

pub multiplied_next : (x j y : ℕ) → multiplied x (suc j) y ≡ product x (multiplied x j y)
multiplied_next x zero y = refl
multiplied_next x (suc j) y = multiplied_next x j (product x y)

pub multiplied_lt : (x j y : ℕ) → x < 256 → y < 256 → multiplied x j y < 256
multiplied_lt x zero y hx hy = hy
multiplied_lt x (suc j) y hx hy = multiplied_lt x j (product x y) hx (byte_field.ring.mul_lt x y hx hy)

-- one sum more
next_sum : (x j y : ℕ) → x < 256 → y < 256
    → packed (moments bytes j (x ∷ []) (y ∷ [])) + multiplied x j y * 2 ^ (8 * j) ≡ packed (moments bytes (suc j) (x ∷ []) (y ∷ []))
unfolding moments packed total products
next_sum x zero y hx hy = let e : xor y 0 ≡ y = byte_field.ring.add-zero y hy in omega (arith, e)
next_sum x (suc j) y hx hy =
    let z = product x y in
    let more = next_sum x j z hx (byte_field.ring.mul_lt x y hx hy) in
    let place : 8 * suc j ≡ 8 + 8 * j = omega arith in
    let up : multiplied x j z * 2 ^ (8 * suc j) ≡ 256 * (multiplied x j z * 2 ^ (8 * j)) =
    ap (λ (k : ℕ). multiplied x j z * k) (ap (λ (k : ℕ). 2 ^ k) place ∙ pow-add 2 8 (8 * j)) ∙ swapped (multiplied x j z) (2 ^ (8 * j)) in
    omega (arith, more, up)

-- j sums take j bytes
sums_lt : (x j y : ℕ) → x < 256 → y < 256 → packed (moments bytes j (x ∷ []) (y ∷ [])) < 2 ^ (8 * j)
unfolding moments packed total products
sums_lt x zero y hx hy = lit< tt
sums_lt x (suc j) y hx hy =
    let e : xor y 0 ≡ y = byte_field.ring.add-zero y hy in
    let l = sums_lt x j (product x y) hx (byte_field.ring.mul_lt x y hx hy) in
    let place : 8 * suc j ≡ 8 + 8 * j = omega arith in
    let up : 2 ^ (8 * suc j) ≡ 256 * 2 ^ (8 * j) = ap (λ (k : ℕ). 2 ^ k) place ∙ pow-add 2 8 (8 * j) in
    omega (arith, e, l, up, hy)

-- the same by a shift of 64 bits, which has room for it
module _ (x j y all v : ℕ) (hx : x < 256) (hy : y < 256) (h : j < 5) (ea : all ≡ packed (moments bytes j (x ∷ []) (y ∷ []))) (ev : v ≡ multiplied x j y) where
  pub shifted_in : all + v * 2 ^ (8 * j) % 2 ^ 64 ≡ packed (moments bytes (j + 1) (x ∷ []) (y ∷ []))
  shifted_in =
      let l : v < 2 ^ 8 = rw ev (multiplied_lt x j y hx hy) in
      let s : j + 1 ≡ suc j = omega arith in
      ap₂ (λ (a b : ℕ). a + b) ea (shl_exact 8 (8 * j) 64 l (omega arith) ∙ ap (λ (k : ℕ). k * 2 ^ (8 * j)) ev) ∙ next_sum x j y hx hy
      ∙ ap (λ (k : ℕ). packed (moments bytes k (x ∷ []) (y ∷ []))) (sym s)

  pub shifted_fits : all + v * 2 ^ (8 * j) % 2 ^ 64 < 2 ^ 64
  shifted_fits =
      rw shifted_in (lt_trans (sums_lt x (j + 1) y hx hy) (pow-lt {i = 8 * (j + 1)} {j = 64} (omega arith)))

-- a word that is 0 adds nothing
pub no_sums : (x m : ℕ) → packed (moments bytes m (x ∷ []) (0 ∷ [])) ≡ 0
unfolding moments packed total products
no_sums x zero = refl
no_sums x (suc m) =
    ap₂ (λ (a b : ℕ). a + 256 * packed (moments bytes m (x ∷ []) (b ∷ []))) (byte_field.ring.add-zero 0 (lit< tt)) (product_zero x)
    ∙ ap (λ (k : ℕ). 0 + 256 * k) (no_sums x m)

-- ---- the first sum is the secret, where the others are 0

no_others : (vs : List ℕ) → packed vs ≡ 0 → every (eqb 0) vs ≡ true
unfolding packed every
no_others [] e = refl
no_others (v ∷ vs) e =
    let z : 0 ≡ v = omega (arith, e) in
    let r : packed vs ≡ 0 = omega (arith, e) in
    ap₂ ◌&&◌ (eq-eqb 0 v z) (no_others vs r)

others : (vs : List ℕ) → every (eqb 0) vs ≡ true → packed vs ≡ 0
unfolding packed every
others [] e = refl
others (v ∷ vs) e =
    let z : 0 ≡ v = eqb-true 0 v (and_left (eqb 0 v) (every (eqb 0) vs) e) in
    let r : packed vs ≡ 0 = others vs (and_right (eqb 0 v) (every (eqb 0) vs) e) in
    omega (arith, z, r)

settled_first : (v : ℕ) (vs : List ℕ) → v < 256 → settled (v ∷ vs) ≡ cond (ltb (packed (v ∷ vs)) 256) (Some (packed (v ∷ vs))) None
unfolding packed settled
settled_first v vs h = go (every (eqb 0) vs) refl
  where
    go : (b : Bool) → every (eqb 0) vs ≡ b → cond b (Some v) None ≡ cond (ltb (v + 256 * packed vs) 256) (Some (v + 256 * packed vs)) None
    go true e =
        let z : v + 256 * packed vs ≡ v = omega (arith, others vs e) in
        sym
        (ap (λ (k : ℕ). cond (ltb k 256) (Some k) None) z
        ∙ ap (λ (b : Bool). cond b (Some v) None) (lt-ltb v 256 h))
    go false e =
        let d : packed vs ≡ 0 → ⊥ = λ z. let f : true ≡ false = sym (no_others vs z) ∙ e in let w : ◌≡◌ {A = ℕ} 0 1 = cc f in omega arith in
        let l : 256 ≤ v + 256 * packed vs = omega (arith, d) in
        sym (ap (λ (b : Bool). cond b (Some (v + 256 * packed vs)) None) (le-ltb (v + 256 * packed vs) 256 l))

pub settled_packed : (m : ℕ) (xs ys : List ℕ) → AllBelow 256 ys
    → settled (moments bytes (suc m) xs ys) ≡ cond (ltb (packed (moments bytes (suc m) xs ys)) 256) (Some (packed (moments bytes (suc m) xs ys))) None
unfolding moments
settled_packed m xs ys h = settled_first (total bytes ys) (moments bytes m xs (products bytes xs ys)) (total_lt ys h)
