-- The sums of an opening of amounts, made of plain numbers and reduced once. Assumes nothing.
use mathlib.Core.Path.{◌≡◌, refl, sym, ap, ap₂, ◌∙◌}
use mathlib.Core.List.{List, [], ◌∷◌}
use Prim.Native.Nat.{ℕ, zero, suc, ◌+◌, ◌*◌, ◌/◌, ◌%◌, ◌^◌, ◌≤◌, ◌<◌}
use native.Mathlib.Nat.{pow-zero, pow-suc, mul_assoc, one-mul, add-mod-mod, div-add-mod, mul-le-mul_left}
use native.Mathlib.Numerals.{add-one}
use native.Mathlib.Omega.{arith}
use lib.ListN.{length, drop, get_or}
use lib.Seq.{drop-cons, drop-length}
use Rattle.fields.specs.Amount.{p, amounts}
use Rattle.fields.proofs.Amounts.{mul_mod}
use Rattle.fields.proofs.Fold.{add_cong}
use Rattle.ranges.specs.Lists.{from}
use Rattle.sharing.specs.Scheme.{points}
use Rattle.weights.specs.Products.{products}
use Rattle.openings.specs.Opening.{total, moments}
use Rattle.ranges.proofs.Loops.{length_from}
use Rattle.weights.proofs.Products.{length_products}

-- numbers times the powers j of the points a, a + 1, .., added up
unfoldable pub powered : (j a : ℕ) → List ℕ → ℕ
powered j a [] = 0
powered j a (y ∷ ys) = a ^ j * y + powered j (suc a) ys

-- the sum of those from place i on, the first of all at the point 1
abbrev pub from_place : (j : ℕ) → List ℕ → ℕ → ℕ
from_place j ys i = powered j (1 + i) (drop i ys)

pub none_left : (j : ℕ) (ys : List ℕ) → from_place j ys (length ys) ≡ 0
unfolding powered
none_left j ys = ap (powered j (1 + length ys)) (drop-length ys)

-- one number more
pub one_more : (j : ℕ) (ys : List ℕ) (i t : ℕ) → i < length ys → t ≡ (i + 1) ^ j
    → from_place j ys i ≡ t * get_or ys i 0 + from_place j ys (i + 1)
unfolding powered
one_more j ys i t h e =
    let y = get_or ys i 0 in
    let a : i + 1 ≡ 1 + i = omega arith in
    let b : 1 + (i + 1) ≡ suc (1 + i) = omega arith in
    let d : i + 1 ≡ suc i = omega arith in
    ap (powered j (1 + i)) (drop-cons ys i 0 h)
    ∙ sym
    (ap (λ (n : ℕ). n * y + from_place j ys (i + 1)) (e ∙ ap (λ (n : ℕ). n ^ j) a)
    ∙ ap₂ (λ (m k : ℕ). (1 + i) ^ j * y + powered j m (drop k ys)) b d)

-- its halves, times its power
pub halves_more : (low high left v x t : ℕ) → low + 2 ^ 32 * high + (t * x + left) ≡ v → low + x % 2 ^ 32 * t + 2 ^ 32 * (high + x / 2 ^ 32 * t) + left ≡ v
halves_more low high left v x t e =
    let w : t * (2 ^ 32 * (x / 2 ^ 32) + x % 2 ^ 32) ≡ t * x = ap (λ (n : ℕ). t * n) (div-add-mod x (2 ^ 32)) in
    split (x / 2 ^ 32) (x % 2 ^ 32) w
  where
    split : (q r : ℕ) → t * (2 ^ 32 * q + r) ≡ t * x → low + r * t + 2 ^ 32 * (high + q * t) + left ≡ v
    split q r w = omega arith

-- and what these are at most
pub half_most : (k t : ℕ) → k < 2 ^ 32 → t ≤ 6561 → k * t ≤ 28_179_280_429_056
half_most k t h l = omega (arith, mul-le-mul_left k l)

-- ---- the sum of x^j y

total_is : (a : ℕ) (ys : List ℕ) → total amounts ys ≡ powered 0 a ys % p
unfolding total powered
total_is a [] = refl
total_is a (y ∷ ys) =
    let e : a ^ 0 * y ≡ y = ap (λ (n : ℕ). n * y) (pow-zero a) ∙ one-mul y in
    ap (amounts.add y) (total_is (suc a) ys) ∙ add-mod-mod y (powered 0 (suc a) ys) p ∙ ap (λ (n : ℕ). (n + powered 0 (suc a) ys) % p) (sym e)

raised_once : (j a : ℕ) (ys : List ℕ) → powered j a (products amounts (from a (length ys)) ys) % p ≡ powered (suc j) a ys % p
unfolding powered products from
raised_once j a [] = refl
raised_once j a (y ∷ ys) = add_cong (a ^ j * (a * y % p)) _ (a ^ suc j * y) _ head (raised_once j (suc a) ys)
  where
    head : a ^ j * (a * y % p) % p ≡ a ^ suc j * y % p
    head =
        mul_mod (a ^ j) (a * y) ∙ ap (λ (n : ℕ). n % p) (sym (mul_assoc (a ^ j) a y) ∙ ap (λ (n : ℕ). n * y) (sym (pow-suc a j)))

moment_at : (j a : ℕ) (ys : List ℕ) → get_or (moments amounts (suc j) (from a (length ys)) ys) j 0 ≡ powered j a ys % p
unfolding moments
moment_at zero a ys = total_is a ys
moment_at (suc j) a ys =
    let xs : List ℕ = from a (length ys) in
    let zs : List ℕ = products amounts xs ys in
    let l : length zs ≡ length ys = length_products amounts xs ys (length_from a (length ys)) in
    ap (λ (m : ℕ). get_or (moments amounts (suc j) (from a m) zs) j 0) (sym l) ∙ moment_at j a zs ∙ raised_once j a ys

pub moment_is : (j : ℕ) (ys : List ℕ) (v : ℕ) → v ≡ from_place j ys 0 % p → v ≡ get_or (moments amounts (j + 1) (points (length ys)) ys) j 0
moment_is j ys v e = e ∙ sym (moment_at j 1 ys) ∙ ap (λ (m : ℕ). get_or (moments amounts m (points (length ys)) ys) j 0) (sym (add-one j))
