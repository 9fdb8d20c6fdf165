-- A row of the products of a byte: how it is made, twice as long each time, and what is read from it. Assumes nothing.
use mathlib.Core.Path.{◌≡◌, refl, sym, ap, ap₂, ◌∙◌}
use mathlib.Core.List.{List, [], ◌∷◌}
use Prim.Native.Nat.{ℕ, zero, suc, ◌+◌, ◌*◌, ◌/◌, ◌%◌, ◌^◌, ◌≤◌, ◌<◌}
use native.Mathlib.Nat.{lt_of_not-le, zero-mul, one-mul, pow-suc}
use native.Mathlib.Omega.{arith}
use lib.Bits.{xor_shifted}
use lib.Pow.{pow_mono}
use lib.ListN.{length, take, get_or, set, length-map}
use lib.Seq.{get_or-take}
use Rattle.ranges.specs.Lists.{from}
use Rattle.ranges.proofs.Loops.{fill, length_from, map_from}
use Rattle.fields.specs.Byte.{xor, xtimes, terms, product}
use Rattle.byte_rows.specs.Row.{multiples}
use Rattle.fields.proofs.Xor as xors
use Rattle.fields.proofs.Bytes.{terms_none, product_xor, product_zero}

-- ---- products by powers of 2

-- a byte times x, k times
unfoldable pub doubled : ℕ → ℕ → ℕ
doubled zero a = a
doubled (suc k) a = doubled k (xtimes a)

pub doubled_more : (k a : ℕ) → xtimes (doubled k a) ≡ doubled (suc k) a
unfolding doubled
doubled_more zero a = refl
doubled_more (suc k) a = doubled_more k (xtimes a)

terms_power : (n k a : ℕ) → k < n → terms n a (2 ^ k) ≡ doubled k a
unfolding terms doubled
terms_power zero k a h = absurd (omega arith)
terms_power (suc n) zero a h = ap₂ xor (one-mul a) (terms_none n (xtimes a)) ∙ xors.right_zero a
terms_power (suc n) (suc k) a h =
    let twice : 2 ^ suc k ≡ 2 ^ k * 2 = pow-suc 2 k in
    let even : 2 ^ suc k % 2 ≡ 0 = omega arith in
    let half : 2 ^ suc k / 2 ≡ 2 ^ k = omega arith in
    ap₂ (λ (x y : ℕ). xor (x * a) (terms n (xtimes a) y)) even half
    ∙ ap (λ (x : ℕ). xor x (terms n (xtimes a) (2 ^ k))) (zero-mul a)
    ∙ xors.comm 0 (terms n (xtimes a) (2 ^ k)) ∙ xors.right_zero (terms n (xtimes a) (2 ^ k))
    ∙ terms_power n k (xtimes a) (omega arith)

-- the products by 2^k and more are those by less, with the product by 2^k added
product_above : (k a i : ℕ) → k < 8 → i < 2 ^ k → product a (2 ^ k + i) ≡ xor (product a i) (doubled k a)
unfolding product xor
product_above k a i h l =
    let apart : xor (2 ^ k) i ≡ 2 ^ k + i = rw one-mul at (xor_shifted 1 k i l) in
    ap (product a) (sym apart ∙ xors.comm (2 ^ k) i) ∙ product_xor a i (2 ^ k) ∙ ap (xor (product a i)) (terms_power 8 k a h)

-- ---- the row

-- a row that is not whole is at most half of it
pub half_row : (k : ℕ) → 2 ^ k < 256 → (k < 8) × (2 ^ k ≤ 128)
half_row k h =
    let small : k < 8 = lt_of_not-le (λ l. let m : 256 ≤ 2 ^ k = pow_mono {i = 8} {j = k} l in omega arith) in
    (small, pow_mono {i = k} {j = 7} (omega arith))

pub length_multiples : (a : ℕ) → length (multiples a) ≡ 256
unfolding multiples
length_multiples a = length-map (from 0 256) (product a) ∙ length_from 0 256

-- every product by the byte is read from it
pub by_row : (a b : ℕ) → b < 256 → get_or (multiples a) b 0 ≡ product a b
unfolding multiples
by_row a b h = map_from (product a) 0 0 256 b h ∙ ap (product a) (omega arith)

pub row_first : (a : ℕ) → take 1 (multiples a) ≡ 0 ∷ []
unfolding multiples from
row_first a = ap (λ (x : ℕ). x ∷ []) (product_zero a)

-- one entry more
pub row_more : (a k size i bit : ℕ) (row : List ℕ) → size ≡ 2 ^ k → bit ≡ doubled k a → size < 256 → i < size → length row ≡ 256
    → take (size + i) row ≡ take (size + i) (multiples a)
    → take (size + (i + 1)) (set row (size + i) (xor (get_or row i 0) bit)) ≡ take (size + (i + 1)) (multiples a)
row_more a k size i bit row power double small l long e =
    let half = half_row k (omega arith) in
    let next : size + (i + 1) ≡ size + i + 1 = omega arith in
    let lower : get_or row i 0 ≡ product a i =
    sym (get_or-take (size + i) row i 0 (omega arith)) ∙ ap (λ (r : List ℕ). get_or r i 0) e ∙ get_or-take (size + i) (multiples a) i 0 (omega arith)
    ∙ by_row a i (omega arith) in
    let upper : product a (size + i) ≡ xor (product a i) bit =
    ap (λ (x : ℕ). product a (x + i)) power ∙ product_above k a i half.0 (omega arith) ∙ ap (xor (product a i)) (sym double) in
    rw next
    (fill row (multiples a) (size + i) _ (omega arith) (omega (arith, length_multiples a))
    (ap (λ (x : ℕ). xor x bit) lower ∙ sym (by_row a (size + i) (omega arith) ∙ upper)) e)
