-- Decimal digits, one at a time from the last. Assumes nothing.
use mathlib.Core.Path.{◌≡◌, refl, ap}
use mathlib.Core.Bool.{Bool, true, false}
use mathlib.Core.Logic.{◌⊎◌, inl, inr, ⊎_elim}
use mathlib.Core.List.{List, [], ◌∷◌, ◌++◌}
use Prim.Native.Nat.{ℕ, zero, suc, ◌+◌, ◌/◌, ◌%◌, ◌^◌, ◌≤◌, ◌<◌}
use native.Mathlib.Nat.{pow-zero, pow-suc}
use native.Mathlib.Omega.{arith}
use lib.Dec.{ltb}
use lib.ListN.{length, length-append}
use borrow.Author.Tests.{ltb-true, ltb-false, lt-ltb, le-ltb}
use Rattle.decimal.specs.Decimal.{spelled, decimal}

-- a number is a digit, or has more
pub one_or_more : (n : ℕ) → (n < 10) ⊎ (10 ≤ n)
one_or_more n = split (ltb n 10) refl
  where
    split : (t : Bool) → ltb n 10 ≡ t → (n < 10) ⊎ (10 ≤ n)
    split true e = inl (ltb-true n 10 e)
    split false e = inr (ltb-false n 10 e)

-- what is true of a digit, and of a number where it is true without its last digit, is true of every number
pub by_digits : (P : ℕ → Type 0) → ((n : ℕ) → n < 10 → P n) → ((n : ℕ) → 10 ≤ n → P (n / 10) → P n) → (n : ℕ) → P n
by_digits P one more n = go (suc n) n (omega arith)
  where
    go : (h m : ℕ) → m < h → P m
    go zero m l = absurd (omega arith)
    go (suc h) m l = ⊎_elim (one m) (λ big. more m big (go h (m / 10) (omega arith))) (one_or_more m)

-- enough digits are all of them
spelled_any : (h g n : ℕ) → n < h → n < g → spelled h n ≡ spelled g n
unfolding spelled
spelled_any zero g n a b = absurd (omega arith)
spelled_any (suc h) zero n a b = absurd (omega arith)
spelled_any (suc h) (suc g) n a b =
    ⊎_elim (λ one. rw (lt-ltb n 10 one)) (λ big. rw (le-ltb n 10 big, spelled_any h g (n / 10) (omega arith) (omega arith))) (one_or_more n)

pub decimal_digit : (n : ℕ) → n < 10 → decimal n ≡ (48 + n % 10) ∷ []
unfolding spelled
decimal_digit n h = rw (lt-ltb n 10 h)

pub decimal_more : (n : ℕ) → 10 ≤ n → decimal n ≡ decimal (n / 10) ++ ((48 + n % 10) ∷ [])
unfolding spelled
decimal_more n h =
    rw (le-ltb n 10 h) (ap (λ (l : List ℕ). l ++ ((48 + n % 10) ∷ [])) (spelled_any n (suc (n / 10)) (n / 10) (omega arith) (omega arith)))

-- a number below 10^w has at most w digits
pub decimal_fits : (w n : ℕ) → n < 10 ^ suc w → length (decimal n) ≤ suc w
decimal_fits zero n h = rw (decimal_digit n (omega (arith, pow-suc 10 0, pow-zero 10))) (omega arith)
decimal_fits (suc w) n h =
    ⊎_elim (λ one. rw (decimal_digit n one) (omega arith))
    (λ big.
    rw (decimal_more n big, length-append (decimal (n / 10)) ((48 + n % 10) ∷ []))
    (omega (arith, decimal_fits w (n / 10) (omega (arith, pow-suc 10 (suc w))))))
    (one_or_more n)
