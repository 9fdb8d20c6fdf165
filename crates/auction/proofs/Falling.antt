-- At each probe few masks fall outside when moved by the difference of two auctions' surpluses. Assumes nothing.
use mathlib.Core.Path.{◌≡◌, refl}
use mathlib.Core.Bool.{Bool, true, false, cond, not, true≢false}
use Prim.Native.Nat.{ℕ, zero, suc, ◌+◌, ◌-◌, ◌^◌, ◌≤◌, ◌<◌, min}
use native.Mathlib.Omega.{arith}
use lib.Dec.{ltb}
use borrow.Author.Tests.{le-leb, lt-ltb, ltb-true, ltb-false}
use Rattle.ranges.specs.Lists.{count}
use Rattle.auction.specs.Auction.{Auction, IsAuction, left_side, right_side}
use Rattle.auction.specs.Demands.{stays}
use Rattle.auction.proofs.Totals.{left_small, right_small}

-- ---- counting

-- one number more: it is counted only below u or from v on
count_step : (b : Bool) (m u v n : ℕ) → (u ≤ m → m < v → b ≡ false) → u ≤ v → n ≤ min m u + (m - v)
    → cond b (suc n) n ≤ min (suc m) u + (suc m - v)
count_step false m u v n f h l = omega arith
count_step true m u v n f h l = go (ltb m u) refl (ltb m v) refl
  where
    go : (below : Bool) → ltb m u ≡ below → (before : Bool) → ltb m v ≡ before → suc n ≤ min (suc m) u + (suc m - v)
    go true p before q = omega (arith, ltb-true m u p)
    go false p true q = absurd (true≢false (f (ltb-false m u p) (ltb-true m v q)))
    go false p false q = omega (arith, ltb-false m u p, ltb-false m v q)

module _ (test : ℕ → Bool) (u v : ℕ) (fails : (x : ℕ) → u ≤ x → x < v → test x ≡ false) (ordered : u ≤ v) where
  count_least : (m : ℕ) → count test m ≤ min m u + (m - v)
  unfolding count
  count_least zero = omega arith
  count_least (suc m) = count_step (test m) m u v (count test m) (fails m) ordered (count_least m)

-- a test that fails from u on and below v
pub count_outside : (test : ℕ → Bool) (m u v : ℕ) → ((x : ℕ) → u ≤ x → x < v → test x ≡ false) → u ≤ v → v ≤ m → count test m ≤ u + (m - v)
count_outside test m u v f h l = omega (arith, count_least test u v f h m)

-- a test that fails at every x where x + down - up is from 0 on and below m
pub count_moved : (test : ℕ → Bool) (m w up down : ℕ) → ((x : ℕ) → up ≤ x + down → x + down < m + up → test x ≡ false)
    → up ≤ w → down ≤ w → w ≤ m → count test m ≤ w
count_moved test m w up down f h k l =
    omega (arith, count_outside test m (up - down) (m - (down - up)) (λ x p q. f x (omega arith) (omega arith)) (omega arith) (omega arith))

-- ---- masks

module _ (a b : Auction) (which i : ℕ) where
  abbrev up : ℕ
  up = left_side a which i + right_side b which i

  abbrev down : ℕ
  down = left_side b which i + right_side a which i

  falls_not : (mask : ℕ) → up ≤ mask + down → mask + down < 2 ^ 58 + up → not (stays a b which i mask) ≡ false
  unfolding stays
  falls_not mask h k =
      rw (
        le-leb up (mask + left_side b which i + right_side a which i) (omega arith),
        lt-ltb (mask + left_side b which i + right_side a which i) (2 ^ 58 + up) (omega arith),
      )

  pub few_fall : IsAuction a → IsAuction b → count (λ mask. not (stays a b which i mask)) (2 ^ 58) ≤ 2 ^ 33 - 2
  few_fall A B =
      let la = left_small A which i in
      let ra = right_small A which i in
      let lb = left_small B which i in
      let rb = right_small B which i in
      count_moved (λ mask. not (stays a b which i mask)) (2 ^ 58) (2 ^ 33 - 2) up down falls_not (omega arith) (omega arith) (omega arith)
