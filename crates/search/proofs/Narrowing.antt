-- What every step of a search keeps, whatever the test that moves its ends. Assumes nothing.
use mathlib.Core.Path.{◌≡◌, refl, sym, ◌∙◌}
use mathlib.Core.Bool.{Bool, true, false, true≢false}
use Prim.Native.Nat.{ℕ, ◌+◌, ◌-◌, ◌*◌, ◌^◌, ◌≤◌, ◌<◌}
use native.Mathlib.Nat.{pow-suc, pow-le-pow_right, mul-le-mul_right}
use native.Mathlib.Numerals.{add-one}
use native.Mathlib.Decide.{dec_le}
use native.Mathlib.Omega.{arith}
use borrow.Author.Tests.{eqb-true, eqb-false, ne_eqb}
use Rattle.search.specs.declared.bracket.Bracket.{Bracket}
use Rattle.search.specs.Bracket.{start, middle, over, raise, lower, step}
use Rattle.search.specs.Limit.{limit}
use Rattle.search.specs.Clearing.{highest}
use Rattle.search.proofs.Logarithm.{limit_law}
use Rattle.search.proofs.Highest.{Highest, highest_law, Ending}

-- ---- over, and the middle until then

pub over_true : (b : Bracket) → over b ≡ true → b.hi ≡ b.lo + 1
unfolding over
over_true b e = omega (arith, eqb-true (b.hi - b.lo) 1 e)

pub over_false : (b : Bracket) → b.lo < b.hi → over b ≡ false → b.lo + 1 < b.hi
unfolding over
over_false b lt e = omega (arith, eqb-false (b.hi - b.lo) 1 e)

-- a search of at least one index is not over at its start
pub open_at_start : (k : ℕ) → 1 ≤ k → over (start k) ≡ false
unfolding start over
open_at_start k le = ne_eqb ((start k).hi - (start k).lo) 1 (λ e. omega arith)

module _ (b : Bracket) (gap : b.lo + 1 < b.hi) where
  pub middle_above : b.lo < middle b
  unfolding middle
  middle_above = omega arith

  pub middle_below : middle b < b.hi
  unfolding middle
  middle_below = omega arith

  -- either side of the middle is at most half as long, counted without its ends
  upper_half : (b.hi - middle b - 1) * 2 ≤ b.hi - b.lo - 1
  unfolding middle
  upper_half = omega arith

  lower_half : (middle b - b.lo - 1) * 2 ≤ b.hi - b.lo - 1
  unfolding middle
  lower_half = omega arith

-- ---- the room that is left, whatever the verdicts

-- the bracket after m steps of a search among the indices 1 to k
pub record Room (k m : ℕ) (b : Bracket) : Type 0 where
  pub apart : b.lo < b.hi
  pub inside : b.hi ≤ k + 1
  -- the distance is at most (k + 1) / 2 ^ m rounded up
  pub narrow : (b.hi - b.lo - 1) * 2 ^ m ≤ k
  pub few : m ≤ limit k

-- a side that is half as long keeps the bound at one step more
halved : (m e : ℕ) {d k : ℕ} → e * 2 ≤ d → d * 2 ^ m ≤ k → e * 2 ^ (m + 1) ≤ k
halved m e le h = rw (add-one, pow-suc) (omega (arith, mul-le-mul_right (2 ^ m) le))

-- where an index is left between the ends 2 ^ m is at most k, so the limit is not reached
more : (m : ℕ) {d k : ℕ} → 0 < d → d * 2 ^ m ≤ k → m < limit k
more m {d} {k} lt h =
    elim (dec_le (limit k) m) [
      | yes le ↦ absurd (omega (arith, mul-le-mul_right (2 ^ m) lt, limit_law k, pow-le-pow_right {n = 2} (omega arith) le))
      | no gt ↦ omega arith
    ]

pub room_start : (k : ℕ) → Room k 0 (start k)
unfolding start
room_start k = record { apart = omega arith; inside = omega arith; narrow = omega arith; few = omega arith }

module _ {k m : ℕ} {b : Bracket} (R : Room k m b) where
  -- before the limit is reached
  pub room_left : over b ≡ false → m < limit k
  room_left going =
      let gap : b.lo + 1 < b.hi = over_false b R.apart going in
      more m {d = b.hi - b.lo - 1} (omega arith) R.narrow

  -- as many steps as the limit are enough
  pub room_spent : m ≡ limit k → over b ≡ true
  room_spent e = split (over b) refl
    where
      split : (t : Bool) → over b ≡ t → over b ≡ true
      split true o = o
      split false o = absurd (omega (arith, room_left o))

  pub room_step : over b ≡ false → (up : Bool) → Room k (m + 1) (step b up)
  unfolding step raise lower
  room_step going true =
      let gap : b.lo + 1 < b.hi = over_false b R.apart going in
      record {
        apart = middle_below b gap;
        inside = R.inside;
        narrow = halved m (b.hi - middle b - 1) (upper_half b gap) R.narrow;
        few = omega (arith, room_left going);
      }
  room_step going false =
      let gap : b.lo + 1 < b.hi = over_false b R.apart going in
      record {
        apart = middle_above b gap;
        inside = omega (arith, R.inside, middle_below b gap);
        narrow = halved m (middle b - b.lo - 1) (lower_half b gap) R.narrow;
        few = omega (arith, room_left going);
      }

-- ---- what is sought is inside

clash : {t : Bool} → t ≡ true → t ≡ false → ⊥
clash p q = true≢false (sym p ∙ q)

-- a search for the last index from 1 to k that passes: lo is 0 or passes, hi is k + 1 or does not
pub record Around (passes : ℕ → Bool) (k : ℕ) (b : Bracket) : Type 0 where
  pub lo_passes : 0 < b.lo → passes b.lo ≡ true
  pub hi_fails : b.hi ≤ k → passes b.hi ≡ false

module _ (passes : ℕ → Bool) (k : ℕ) where
  pub around_start : Around passes k (start k)
  unfolding start
  around_start = record { lo_passes = λ lt. absurd (omega arith); hi_fails = λ le. absurd (omega arith) }

  module _ {b : Bracket} (A : Around passes k b) where
    -- a step up exactly where the middle passes
    pub around_step : (up : Bool) → up ≡ passes (middle b) → Around passes k (step b up)
    unfolding step raise lower
    around_step true e = record { lo_passes = λ lt. sym e; hi_fails = A.hi_fails }
    around_step false e = record { lo_passes = A.lo_passes; hi_fails = λ le. sym e }

    module _ {m : ℕ} (R : Room k m b) where
      -- the highest index that passes is at least lo, and below hi
      pub lo_at_most : b.lo ≤ highest passes k
      lo_at_most =
          elim (dec_le b.lo (highest passes k)) [
            | yes le ↦ le
            | no gt ↦
                absurd
                (clash (A.lo_passes (omega arith)) ((highest_law passes k).above b.lo (omega arith) (omega (arith, R.apart, R.inside))))
          ]

      pub hi_above : Ending passes k → highest passes k < b.hi
      hi_above ends =
          elim (dec_le b.hi (highest passes k)) [
            | yes le ↦
                absurd
                (clash (ends b.hi (highest passes k) (omega (arith, R.apart)) le H.within (H.passing (omega (arith, R.apart))))
                (A.hi_fails (omega (arith, H.within))))
            | no gt ↦ omega arith
          ]
        where
          H : Highest passes k (highest passes k)
          H = highest_law passes k

      -- so once over lo is that index
      pub lo_found : Ending passes k → over b ≡ true → b.lo ≡ highest passes k
      lo_found ends o = omega (arith, over_true b o, lo_at_most, hi_above ends)
