-- The bits of one word: how many are set, whether none is from some place on, and one set. Assumes nothing.
use mathlib.Core.Path.{◌≡◌, refl, sym, ap, ap₂, ◌∙◌}
use mathlib.Core.Bool.{Bool, true, false, cond, not, ◌&&◌}
use Prim.Native.Nat.{ℕ, zero, suc, ◌+◌, ◌-◌, ◌*◌, ◌/◌, ◌%◌, ◌^◌, ◌<◌, max}
use native.Mathlib.Nat.{div-one, div-eq_of_lt, div_self, div-lt_iff_lt-mul, le-div_iff_mul-le, add-zero, add-suc, suc-add, one-mul, pow-succ'}
use native.Mathlib.Numerals.{one-add}
use native.Mathlib.Omega.{arith}
use lib.Arith.{bin_ind}
use lib.Bits.{bit_or, or_step, or_shr, or_comm, or_zero_l, shifted_even}
use lib.Count.{ones, ones_step}
use lib.Dec.{eqb, ltb}
use lib.Pow.{pow_pos, pow-lt, pow-add, shl-shr, shr-shr}
use borrow.Author.Tests.{eqb-true, eqb-false, eq-eqb, ltb-true, ltb-false, lt-ltb, le-ltb}
use Rattle.ranges.specs.Lists.{from, every, count}
use Rattle.ranges.proofs.Loops.{and_false}
use Rattle.ranges.proofs.Counting.{count_same, count_add}
use Rattle.roll.specs.Marks.{is_set}

pub lowest : (w : ℕ) → is_set w 0 ≡ eqb (w % 2) 1
lowest w = ap (λ (x : ℕ). eqb (x % 2) 1) (div-one w)

-- ---- how many are set

first : (w : ℕ) → count (is_set w) 1 ≡ w % 2
unfolding count
first w = ap (λ (t : Bool). cond t 1 0) (lowest w) ∙ split (eqb (w % 2) 1) refl
  where
    split : (t : Bool) → eqb (w % 2) 1 ≡ t → cond t 1 0 ≡ w % 2
    split true e = sym (eqb-true (w % 2) 1 e)
    split false e = omega (arith, eqb-false (w % 2) 1 e)

pub bits_set : (m w : ℕ) → w < 2 ^ m → count (is_set w) m ≡ ones w
unfolding count ones
bits_set zero zero h = refl
bits_set zero (suc w) h = absurd (omega arith)
bits_set (suc m) w h =
    ap (count (is_set w)) (sym (one-add m))
    ∙ count_add (is_set w) 1 m
    ∙ ap₂ ◌+◌ (first w)
    (count_same (λ i. is_set w (1 + i)) (is_set (w / 2)) m (λ i l. ap (λ (x : ℕ). eqb (x % 2) 1) (sym (shr-shr w 1 i))) ∙ bits_set m (w / 2) (omega arith))
    ∙ sym (ones_step w)

-- ---- none is set from some place on

-- of a number, shifted
below : (w i k : ℕ) → ltb w (k * 2 ^ i) ≡ ltb (w / 2 ^ i) k
below w i k = split (ltb (w / 2 ^ i) k) refl
  where
    split : (t : Bool) → ltb (w / 2 ^ i) k ≡ t → ltb w (k * 2 ^ i) ≡ t
    split true t = lt-ltb w (k * 2 ^ i) ((div-lt_iff_lt-mul (pow_pos i)).0 (ltb-true (w / 2 ^ i) k t))
    split false t = le-ltb w (k * 2 ^ i) ((le-div_iff_mul-le (pow_pos i)).0 (ltb-false (w / 2 ^ i) k t))

-- below 2 and not 1
neither : (q : ℕ) → not (eqb (q % 2) 1) && ltb q 2 ≡ ltb q 1
neither zero = refl
neither (suc zero) = refl
neither (suc (suc q)) = and_false (not (eqb (suc (suc q) % 2) 1)) _ (le-ltb (suc (suc q)) 2 (omega arith)) ∙ sym (le-ltb (suc (suc q)) 1 (omega arith))

pub none_from : (i m w : ℕ) → w < 2 ^ (i + m) → every (λ j. not (is_set w j)) (from i m) ≡ ltb w (2 ^ i)
unfolding from every
none_from i zero w h = sym (lt-ltb w (2 ^ i) (rw (add-zero i) at h))
none_from i (suc m) w h =
    ap (λ (t : Bool). not (is_set w i) && t)
    (none_from (suc i) m w (rw (add-suc i m, ← suc-add i m) at h) ∙ ap (ltb w) (pow-succ' 2 i) ∙ below w i 2)
    ∙ neither (w / 2 ^ i)
    ∙ sym (below w i 1)
    ∙ ap (ltb w) (one-mul (2 ^ i))

-- ---- one more is set

-- 2^j has no other bit
power : (i j : ℕ) → (i ≡ j → ⊥) → 2 ^ j / 2 ^ i % 2 ≡ 0
power i j h = split (ltb i j) refl
  where
    split : (t : Bool) → ltb i j ≡ t → 2 ^ j / 2 ^ i % 2 ≡ 0
    split true t =
        let l = ltb-true i j t in
        let e : j ≡ suc (j - i - 1) + i = omega arith in
        ap (λ (k : ℕ). 2 ^ k / 2 ^ i % 2) e
        ∙ ap (λ (x : ℕ). x / 2 ^ i % 2) (pow-add 2 (suc (j - i - 1)) i)
        ∙ ap (λ (x : ℕ). x % 2) (shl-shr (2 ^ suc (j - i - 1)) i)
        ∙ ap (λ (x : ℕ). x % 2) (sym (one-mul (2 ^ suc (j - i - 1))))
        ∙ shifted_even 1 (j - i - 1)
    split false t =
        let l : j < i = omega (arith, ltb-false i j t, h) in
        ap (λ (x : ℕ). x % 2) (div-eq_of_lt (pow-lt l))

-- the lowest bit of two numbers joined
low : (a b : ℕ) → bit_or a b % 2 ≡ max (a % 2) (b % 2)
low a b = omega (arith, or_step a b)

pub set_bit : (w j : ℕ) → is_set (bit_or w (2 ^ j)) j ≡ true
set_bit w j =
    ap (λ (x : ℕ). eqb (x % 2) 1) (or_shr w (2 ^ j) j)
    ∙ eq-eqb (bit_or (w / 2 ^ j) (2 ^ j / 2 ^ j) % 2) 1 (omega (arith, low (w / 2 ^ j) (2 ^ j / 2 ^ j), div_self (pow_pos j)))

pub other_bit : (w i j : ℕ) → (i ≡ j → ⊥) → is_set (bit_or w (2 ^ j)) i ≡ is_set w i
other_bit w i j h =
    let same : bit_or (w / 2 ^ i) (2 ^ j / 2 ^ i) % 2 ≡ w / 2 ^ i % 2 = omega (arith, low (w / 2 ^ i) (2 ^ j / 2 ^ i), power i j h) in
    ap (λ (x : ℕ). eqb (x % 2) 1) (or_shr w (2 ^ j) i) ∙ ap (λ (x : ℕ). eqb x 1) same

-- two more are set, in either order
pub set_swap : (w x y : ℕ) → bit_or (bit_or w x) y ≡ bit_or (bit_or w y) x
set_swap =
    bin_ind (λ (w : ℕ). (x y : ℕ) → bit_or (bit_or w x) y ≡ bit_or (bit_or w y) x) (λ x y. rw (or_zero_l x, or_zero_l y) (or_comm x y))
    (λ w ih x y. halves w x y ∙ ap₂ (λ (h l : ℕ). h * 2 + l) (ih (x / 2) (y / 2)) (omega arith) ∙ sym (halves w y x))
  where
    halves : (w x y : ℕ) → bit_or (bit_or w x) y ≡ bit_or (bit_or (w / 2) (x / 2)) (y / 2) * 2 + max (max (w % 2) (x % 2)) (y % 2)
    halves w x y = or_step (bit_or w x) y ∙ ap₂ (λ (h l : ℕ). bit_or h (y / 2) * 2 + max l (y % 2)) (or_shr w x 1) (low w x)
