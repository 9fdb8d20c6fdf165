-- Numbers that are counted from the left until one fails. Assumes nothing.
use Rattle.std.specs.Prelude.{Option, None, Some, unwrap_or, MatchOption}
use Rattle.std.specs.List.{AllWithin, HoldsAt}
use mathlib.Core.Path.{◌≡◌, refl, sym, ap, ◌∙◌}
use mathlib.Core.Bool.{Bool, true, false, cond, ◌&&◌}
use mathlib.Core.List.{List, [], ◌∷◌}
use Prim.Native.Nat.{ℕ, zero, suc, ◌+◌, ◌≤◌, ◌<◌}
use native.Mathlib.Nat.{zero-add}
use native.Mathlib.Numerals.{add-one}
use native.Mathlib.Omega.{arith}
use lib.Bits.{bit_xor}
use lib.Dec.{leb, ltb}
use lib.ListN.{length, take, drop, get_or, drop_of_length-le, length-take}
use lib.Seq.{take_all}
use borrow.Author.Tests.{ltb-true, leb-true}
use Rattle.ranges.specs.Lists.{every}
use Rattle.ranges.specs.Sizes.{highest_price}
use Rattle.ranges.proofs.Loops.{and_left, and_right}
use Rattle.ranges.proofs.Bends.{first}
use Rattle.lines.specs.Lines.{numbers, formed}
use Rattle.lines.proofs.Again.{counted_most, formed_most, length_numbers}
use Rattle.sections.specs.Sections.{next_price, passed, rising, xor_of, good_prices}

module _ (test : ℕ → Bool) (xs : List ℕ) (i : ℕ) where
  pub passed_more : i < length xs → test (get_or xs i 0) ≡ true → i + passed test (drop i xs) ≡ i + 1 + passed test (drop (i + 1) xs)
  unfolding passed
  passed_more h e = rw (first xs i h, e) (omega arith)

  pub passed_fails : i < length xs → test (get_or xs i 0) ≡ false → i + passed test (drop i xs) ≡ i
  unfolding passed
  passed_fails h e = rw (first xs i h, e) (omega arith)

  pub passed_ends : length xs ≤ i → i + passed test (drop i xs) ≡ i
  unfolding passed
  passed_ends h = rw (drop_of_length-le xs h) (omega arith)

-- a search that stopped at the first that fails, if any does
module _ (test : ℕ → Bool) (Yes No : ℕ → Type 0) (yes : (x : ℕ) → Yes x → test x ≡ false) (no : (x : ℕ) → No x → test x ≡ true) (xs : List ℕ) where
  passed_by : (i : ℕ) → i ≤ length xs → ((k d : ℕ) → 0 ≤ k → k < i → No (get_or xs k d)) → passed test xs ≡ i + passed test (drop i xs)
  passed_by zero h by = sym (zero-add _)
  passed_by (suc i) h by =
      passed_by i (omega arith) (λ k d a b. by k d a (omega arith)) ∙ passed_more test xs i h (no _ (by i 0 (omega arith) (omega arith)))
      ∙ ap (λ j. j + passed test (drop j xs)) (add-one i)

  pub passed_found : (r : Option ℕ)
      → MatchOption r (AllWithin No xs 0 (length xs)) (λ i. (i < length xs) × HoldsAt Yes xs i × AllWithin No xs 0 i)
      → unwrap_or r (length xs) ≡ passed test xs
  passed_found None by = sym (passed_by (length xs) (omega arith) by ∙ passed_ends test xs (length xs) (omega arith))
  passed_found (Some i) found =
      sym (passed_by i (omega (arith, found.0)) found.2 ∙ passed_fails test xs i found.0 (yes _ (found.1 0)))

module _ (last : ℕ) (xs : List ℕ) (i : ℕ) where
  pub rising_more : i < length xs → next_price last (get_or xs i 0) ≡ true
      → i + rising last (drop i xs) ≡ i + 1 + rising (get_or xs i 0) (drop (i + 1) xs)
  unfolding rising
  rising_more h e = rw (first xs i h, e) (omega arith)

  pub rising_fails : i < length xs → next_price last (get_or xs i 0) ≡ false → i + rising last (drop i xs) ≡ i
  unfolding rising
  rising_fails h e = rw (first xs i h, e) (omega arith)

  pub rising_ends : length xs ≤ i → i + rising last (drop i xs) ≡ i
  unfolding rising
  rising_ends h = rw (drop_of_length-le xs h) (omega arith)

pub xor_more : (xs : List ℕ) (i : ℕ) → i < length xs → xor_of (drop i xs) ≡ bit_xor (get_or xs i 0) (xor_of (drop (i + 1) xs))
unfolding xor_of
xor_more xs i h = ap xor_of (first xs i h)

-- all pass exactly where the count is the length
pub passed_every : (test : ℕ → Bool) (xs : List ℕ) → passed test xs ≡ length xs → every test xs ≡ true
unfolding passed every
passed_every test [] h = refl
passed_every test (x ∷ xs) h = cases (test x) (λ e. passed_every test xs e) h
  where
    cases : (t : Bool) → (passed test xs ≡ length xs → every test xs ≡ true) → cond t (suc (passed test xs)) 0 ≡ suc (length xs) → (t && every test xs) ≡ true
    cases true go h = go (omega arith)
    cases false go h = absurd (omega arith)

pub every_passed : (test : ℕ → Bool) (xs : List ℕ) → every test xs ≡ true → passed test xs ≡ length xs
unfolding passed every
every_passed test [] h = refl
every_passed test (x ∷ xs) h = cases (test x) (λ e. every_passed test xs e) h
  where
    cases : (t : Bool) → (every test xs ≡ true → passed test xs ≡ length xs) → (t && every test xs) ≡ true → cond t (suc (passed test xs)) 0 ≡ suc (length xs)
    cases true go h = ap suc (go h)
    cases false go h = cc

pub rising_most : (last : ℕ) (xs : List ℕ) → rising last xs ≤ length xs
unfolding rising
rising_most last [] = omega arith
rising_most last (x ∷ xs) = counted_most (next_price last x) (rising_most x xs)

pub passed_most : (test : ℕ → Bool) (xs : List ℕ) → passed test xs ≤ length xs
unfolding passed
passed_most test [] = omega arith
passed_most test (x ∷ xs) = counted_most (test x) (passed_most test xs)

-- of k prices, no more are good
pub good_most : (k last : ℕ) (bytes : List ℕ) → good_prices k last bytes ≤ k
good_most k last bytes =
    let l = length-take (formed k bytes) (numbers k bytes) in
    omega (arith, rising_most last (take (formed k bytes) (numbers k bytes)), l, formed_most k bytes)

-- where all are good they rise, and none is above the highest
rising_range : (last : ℕ) (xs : List ℕ) → rising last xs ≡ length xs → (i : ℕ) → i < length xs → (last < get_or xs i 0) × (get_or xs i 0 ≤ highest_price)
unfolding rising
rising_range last [] e i h = absurd (omega arith)
rising_range last (x ∷ xs) e i h = cases (next_price last x) refl e (rising_range x xs)
  where
    cases : (t : Bool) → next_price last x ≡ t → cond t (suc (rising x xs)) 0 ≡ suc (length xs)
        → (rising x xs ≡ length xs → (j : ℕ) → j < length xs → (x < get_or xs j 0) × (get_or xs j 0 ≤ highest_price))
        → (last < get_or (x ∷ xs) i 0) × (get_or (x ∷ xs) i 0 ≤ highest_price)
    cases false n e go = absurd (omega arith)
    cases true n e go =
        let above : last < x = ltb-true last x (and_left (ltb last x) (leb x highest_price) n) in
        at i h (above, leb-true x highest_price (and_right (ltb last x) (leb x highest_price) n)) (go (omega arith))
      where
        at : (j : ℕ) → j < suc (length xs) → (last < x) × (x ≤ highest_price)
            → ((j : ℕ) → j < length xs → (x < get_or xs j 0) × (get_or xs j 0 ≤ highest_price))
            → (last < get_or (x ∷ xs) j 0) × (get_or (x ∷ xs) j 0 ≤ highest_price)
        at zero h here go = here
        at (suc j) h here go = let r = go j (omega arith) in (omega (arith, here.0, r.0), r.1)

pub good_range : (k last : ℕ) (bytes : List ℕ) → good_prices k last bytes ≡ k
    → (i : ℕ) → i < k → (last < get_or (numbers k bytes) i 0) × (get_or (numbers k bytes) i 0 ≤ highest_price)
good_range k last bytes e i h =
    let many = length_numbers k bytes in
    let good = take (formed k bytes) (numbers k bytes) in
    let all : good ≡ numbers k bytes =
    take_all (formed k bytes) (numbers k bytes) (omega (arith, rising_most last good, length-take (formed k bytes) (numbers k bytes))) in
    rising_range last (numbers k bytes) (ap (rising last) (sym all) ∙ e ∙ sym many) i (omega arith)
