-- Fills are what division by D gives: over all bids they come to D times S. Assumes nothing.
use mathlib.Core.Path.{◌≡◌, refl}
use mathlib.Core.Bool.{Bool, true, false, cond}
use mathlib.Core.List.{List, [], ◌∷◌, map}
use Prim.Native.Nat.{ℕ, zero, suc, ◌+◌, ◌*◌, ◌≤◌, ◌<◌}
use native.Mathlib.Nat.{mod-lt, div-add-mod', div-le_of_le-mul, mul-le-mul, le_of_mul-le-mul_right, lt_of_mul-lt-mul_right, pos_of_ne-zero}
use native.Mathlib.Omega.{arith}
use lib.Dec.{ltb}
use borrow.Author.Tests.{ltb-false, ne_eqb}
use Rattle.ranges.specs.Lists.{sum}
use Rattle.filling.specs.Fill.{hours, remainder}
use Rattle.filling.specs.Sums.{OneFill, buyers, AllFills}

-- ---- one fill

module _ (demand supply amount : ℕ) where
  one_exact : (demand ≡ 0 → ⊥) → hours demand supply amount * demand + remainder demand supply amount ≡ amount * supply
  unfolding hours remainder
  one_exact some = rw (ne_eqb demand 0 some) (div-add-mod' (amount * supply) demand)

  one_smaller : (demand ≡ 0 → ⊥) → remainder demand supply amount < demand
  unfolding remainder
  one_smaller some = rw (ne_eqb demand 0 some) (mod-lt (amount * supply) (pos_of_ne-zero some))

one_within : (demand supply amount : ℕ) → supply ≤ demand → hours demand supply amount ≤ amount
unfolding hours
one_within zero supply amount covered = omega arith
one_within (suc d) supply amount covered =
    rw (ne_eqb (suc d) 0 (λ e. omega arith))
    (div-le_of_le-mul (suc d) (omega (arith, mul-le-mul {n₁ = amount} {n₂ = amount} (omega arith) covered)))

pub one_fill : (demand supply amount : ℕ) → OneFill demand supply amount
one_fill demand supply amount =
    record { within = one_within demand supply amount; exact = one_exact demand supply amount; smaller = one_smaller demand supply amount }

-- ---- all fills, D not 0

module _ (demand supply : ℕ) where
  abbrev fill : ℕ → ℕ
  fill a = hours demand supply a

  abbrev told : ℕ → ℕ
  told a = hours demand supply a * demand + remainder demand supply a

  module _ (some : demand ≡ 0 → ⊥) where
    all_exact : (amounts : List ℕ) → sum (map told amounts) ≡ sum amounts * supply
    unfolding sum
    all_exact [] = omega arith
    all_exact (a ∷ amounts) = omega (arith, one_exact demand supply a some, all_exact amounts)

    no_less : (amounts : List ℕ) → sum (map fill amounts) * demand ≤ sum (map told amounts)
    unfolding sum
    no_less [] = omega arith
    no_less (a ∷ amounts) = omega (arith, no_less amounts)

    -- each buyer with a above 0 is less than one tenth short
    short : (amounts : List ℕ) → sum (map told amounts) + buyers amounts ≤ (sum (map fill amounts) + buyers amounts) * demand
    unfolding sum buyers
    short [] = omega arith
    short (a ∷ amounts) = split (ltb 0 a) refl (short amounts)
      where
        split : (t : Bool) → ltb 0 a ≡ t → sum (map told amounts) + buyers amounts ≤ (sum (map fill amounts) + buyers amounts) * demand
            → told a + sum (map told amounts) + cond t (suc (buyers amounts)) (buyers amounts)
            ≤ (fill a + sum (map fill amounts) + cond t (suc (buyers amounts)) (buyers amounts)) * demand
        split true e h = omega (arith, one_smaller demand supply a some)
        split false e h =
            let none : a ≡ 0 = omega (arith, ltb-false 0 a e) in
            let nothing : a * supply ≡ 0 = rw none (omega arith) in
            omega (arith, one_exact demand supply a some)

some_buyer : (amounts : List ℕ) → 1 ≤ sum amounts → 1 ≤ buyers amounts
unfolding sum buyers
some_buyer [] h = h
some_buyer (a ∷ amounts) h = split (ltb 0 a) refl (some_buyer amounts)
  where
    split : (t : Bool) → ltb 0 a ≡ t → (1 ≤ sum amounts → 1 ≤ buyers amounts) → 1 ≤ cond t (suc (buyers amounts)) (buyers amounts)
    split true e more = omega arith
    split false e more = more (omega (arith, ltb-false 0 a e))

-- ---- D = 0: nobody wants any, and nobody gets any

none_told : (supply : ℕ) (amounts : List ℕ) → sum (map (told 0 supply) amounts) ≡ 0
unfolding sum hours remainder
none_told supply [] = refl
none_told supply (a ∷ amounts) = omega (arith, none_told supply amounts)

none_given : (supply : ℕ) (amounts : List ℕ) → sum (map (fill 0 supply) amounts) ≡ 0
unfolding sum hours
none_given supply [] = refl
none_given supply (a ∷ amounts) = omega (arith, none_given supply amounts)

pub all_fills : (demand supply : ℕ) (amounts : List ℕ) → sum amounts ≡ demand → AllFills demand supply amounts
all_fills zero supply amounts total =
    record {
      exact = omega (arith, none_told supply amounts);
      given = omega (arith, none_given supply amounts);
      left_over = λ some. absurd (some refl);
    }
all_fills (suc d) supply amounts total =
    let some : suc d ≡ 0 → ⊥ = λ e. omega arith in
    let whole : sum (map (told (suc d) supply) amounts) ≡ suc d * supply = rw total at (all_exact (suc d) supply some amounts) in
    record {
      exact = whole;
      given = le_of_mul-le-mul_right {k = suc d} (omega (arith, no_less (suc d) supply some amounts)) (omega arith);
      left_over = λ _. lt_of_mul-lt-mul_right (suc d) (omega (arith, short (suc d) supply some amounts, some_buyer amounts (omega arith)));
    }
