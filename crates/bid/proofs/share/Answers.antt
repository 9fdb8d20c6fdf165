-- `share` meets its contract: the halves so far are those of the point times the value of the coins that were passed.
-- Assumes nothing.
use Rattle.std.proofs.Common.{rules, arith, ◌≡◌, ◌∷◌, [], ◌++◌, ◌+◌, ◌*◌, ◌/◌, ◌%◌, ◌^◌, ◌≤◌, ◌<◌, ℕ, zero, suc, List, length, length-append, refl, ap, ◌∙◌}
use native.Mathlib.Nat.{mul-le-mul}
use Rattle.fields.specs.Amount.{amounts}
use Rattle.fields.proofs.Halves.{plus, times}
use Rattle.sharing.specs.Polynomial.{value}
use Rattle.sharing.proofs.Horner.{none, one_more, all}
use Rattle.bid.proofs.share.Invariants.{most, Halves}
use Rattle.bid.proofs.share.Goals as goal
use Rattle.bid.proofs.share.Goals.{In-Some}

below : (i : ℕ) → most i ≤ 2 ^ 52
below zero = omega arith
below (suc zero) = omega arith
below (suc (suc zero)) = omega arith
below (suc (suc (suc zero))) = omega arith
below (suc (suc (suc (suc i)))) = omega arith

nine_times : (a x b : ℕ) → a ≤ b → x ≤ 9 → a * x ≤ b * 9
nine_times a x b l m = mul-le-mul l m

-- one coin more
next : (i h k x : ℕ) → i < 4 → h ≤ most (suc i) → k < 2 ^ 32 → x ≤ 9 → (h + k) * x ≤ most i
next zero h k x m b f s = omega (arith, nine_times (h + k) x (2 ^ 47 + 2 ^ 32) (omega arith) s)
next (suc zero) h k x m b f s = omega (arith, nine_times (h + k) x (2 ^ 42 + 2 ^ 32) (omega arith) s)
next (suc (suc zero)) h k x m b f s = omega (arith, nine_times (h + k) x (2 ^ 37 + 2 ^ 32) (omega arith) s)
next (suc (suc (suc zero))) h k x m b f s = omega (arith, nine_times (h + k) x (2 ^ 32 + 2 ^ 32) (omega arith) s)
next (suc (suc (suc (suc i)))) h k x m b f s = absurd (omega arith)

module _ (own : ℕ) (coins left left' : List ℕ) (coin low high : ℕ) (small : own ≤ 9) (few : length coins ≤ 4)
    (step : left ≡ left' ++ (coin ∷ [])) (fits : coin < 2 ^ 64) (H : Halves own coins left low high) where
  longer : length left ≡ suc (length left')
  longer = ap length step ∙ length-append left' (coin ∷ []) ∙ omega arith

  left_few : length left ≤ 4
  left_few = omega (arith, ap length H.passed.parts, length-append left H.passed.passed)

  more : (h k : ℕ) → h ≤ most (length left) → k < 2 ^ 32 → (h + k) * own ≤ most (length left')
  more h k l m =
      let l' : h ≤ most (suc (length left')) = rw longer at l in
      next (length left') h k own (omega (arith, longer, left_few)) l' m small

  low_more : (low + coin % 2 ^ 32) * own ≤ most (length left')
  low_more = more low (coin % 2 ^ 32) H.low_most (omega arith)

  high_more : (high + coin / 2 ^ 32) * own ≤ most (length left')
  high_more = more high (coin / 2 ^ 32) H.high_most (omega arith)

  one_coin : Halves own coins left' ((low + coin % 2 ^ 32) * own) ((high + coin / 2 ^ 32) * own)
  one_coin =
      record {
        value = amounts.add coin (amounts.mul own H.value);
        passed = one_more amounts own coins left left' coin H.value step H.passed;
        low_most = low_more;
        high_most = high_more;
        joined = times (low + coin % 2 ^ 32) (high + coin / 2 ^ 32) _ (plus low high _ H.joined coin) own;
      }

pub loop-coin-init : goal.loop-coin-init
loop-coin-init c =
    let a = c.args in
    let e : c.into_iter-coin-iterator.result.iter.rest.now ≡ a.coins.now = search rules in
    rw e
    record {
      value = 0;
      passed = none amounts a.own a.coins.now a.coins.now refl;
      low_most = omega arith;
      high_most = omega arith;
      joined = omega arith;
    }

-- the halves with the coin's
module _ (c : In-Some) (fits : c.in-Some.coin.now < 2 ^ 64) where
  step : Halves c.args.own c.args.coins.now c.next.new.self.iter.rest.now ((c.loop-coin.low + c.in-Some.coin.now % 2 ^ 32) * c.args.own)
      ((c.loop-coin.high + c.in-Some.coin.now / 2 ^ 32) * c.args.own)
  step = one_coin c.args.own c.args.coins.now _ _ c.in-Some.coin.now c.loop-coin.low c.loop-coin.high c.requires.1 c.requires.0 c.in-Some.ensures.steps fits c.loop-coin.invariant

pub overflow_add-low : goal.overflow_add-low
overflow_add-low c = omega (arith, below (length c.loop-coin.coin-iterator.iter.rest.now), c.loop-coin.invariant.low_most)

pub overflow_mul-low : goal.overflow_mul-low
overflow_mul-low c =
    let d = (goal.at.overflow_mul-low c).In-Some in
    omega (arith, below (length d.next.new.self.iter.rest.now), (step d (omega arith)).low_most)

pub overflow_add-high : goal.overflow_add-high
overflow_add-high c = omega (arith, below (length c.loop-coin.coin-iterator.iter.rest.now), c.loop-coin.invariant.high_most)

pub overflow_mul-high : goal.overflow_mul-high
overflow_mul-high c =
    let d = (goal.at.overflow_mul-high c).In-Some in
    omega (arith, below (length d.next.new.self.iter.rest.now), (step d (omega arith)).high_most)

pub loop-coin-preserved : goal.loop-coin-preserved
loop-coin-preserved c = step (goal.at.loop-coin-preserved c).In-Some (omega arith)

pub overflow_add-low-2 : goal.overflow_add-low-2
overflow_add-low-2 c = omega (arith, below (length c.loop-coin.coin-iterator.iter.rest.now), c.loop-coin.invariant.low_most)

pub overflow_add-high-2 : goal.overflow_add-high-2
overflow_add-high-2 c = omega (arith, below (length c.loop-coin.coin-iterator.iter.rest.now), c.loop-coin.invariant.high_most)

pub returns : goal.returns
unfolding value
returns c =
    let l = c.loop-coin in
    let a = c.args in
    let v = all amounts a.own a.coins.now _ _ c.in-None.ensures.steps.0 l.invariant.passed in
    c.joined.ensures ∙ plus l.low l.high _ (l.invariant.joined ∙ ap (amounts.mul a.own) v) a.amount
