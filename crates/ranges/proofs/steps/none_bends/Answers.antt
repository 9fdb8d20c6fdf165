-- `none_bends` meets its contract: where what was seen is below 2^63, each step so far passes. Assumes nothing.
use Rattle.std.proofs.Common.{◌≡◌, ℕ, ◌+◌, ◌-◌, ◌%◌, ◌^◌, ◌<◌, Bool, true, false, cond, ◌&&◌, get_or, drop, sym, ap, ◌∙◌, ap₂, arith, ltb-true, le-leb}
use lib.Bits.{bit_or}
use Rattle.ranges.specs.Steps.{steps, in_order}
use Rattle.ranges.proofs.Bends.{steps_back, steps_last}
use Rattle.ranges.proofs.Joined.{left_le, right_le}
use Rattle.ranges.proofs.steps.none_bends.Goals as goal
use Rattle.ranges.proofs.steps.none_bends.Goals.{then-rising, else-rising}

-- a difference that does not wrap
ordered : (rising : Bool) (x y : ℕ) (pair : ℕ × ℕ) → pair ≡ cond rising (x, y) (y, x) → pair.0 < 2 ^ 63 → (pair.1 + (2 ^ 64 - pair.0)) % 2 ^ 64 < 2 ^ 63
    → in_order rising x y ≡ true
ordered true x y pair e l d = le-leb x y (omega (arith, ap (λ (p : ℕ × ℕ). p.0) e, ap (λ (p : ℕ × ℕ). p.1) e, l, d))
ordered false x y pair e l d = le-leb y x (omega (arith, ap (λ (p : ℕ × ℕ). p.0) e, ap (λ (p : ℕ × ℕ). p.1) e, l, d))

-- what was seen before, the lower word and the difference are all below
below : (s low d : ℕ) → bit_or s (bit_or low d) < 2 ^ 63 → (s < 2 ^ 63) × (low < 2 ^ 63) × (d < 2 ^ 63)
below s low d h =
    (omega (arith, left_le s (bit_or low d), h), omega (arith, left_le low d, right_le s (bit_or low d), h), omega (arith, right_le low d, right_le s (bit_or low d), h))

pub loop-i-preserved : goal.loop-i-preserved
loop-i-preserved c =
    let l = c.loop-i in
    let words = c.args.words.now in
    let test = in_order c.args.rising in
    let x : ℕ = get_or words (l.i - 1) 0 in
    let y : ℕ = get_or words l.i 0 in
    let pair : c.if-rising.low ≡ cond c.args.rising (x, y) (y, x) =
    elim c.if-rising.branch [
      | then-rising w ↦ w.low-is ∙ sym (ap (λ (b : Bool). cond b (x, y) (y, x)) w.if-rising.true)
      | else-rising w ↦ w.low-is ∙ sym (ap (λ (b : Bool). cond b (x, y) (y, x)) w.if-rising.false)
    ] in (
      omega arith,
      λ s t.
          let parts = below l.seen _ _ s in
          let rest : steps test (drop l.i words) ≡ true = ap (λ (j : ℕ). steps test (drop j words)) (omega arith) ∙ t in
          l.invariant.1 parts.0
          (steps_back test words l.i l.invariant.0 c.loop-i-test.true ∙ ap₂ ◌&&◌ (ordered c.args.rising x y _ pair parts.1 parts.2) rest),
    )

pub returns : goal.returns
returns c =
    let l = c.loop-i in
    λ e. l.invariant.1 (ltb-true _ _ e) (steps_last _ _ (l.i - 1) (omega (arith, c.loop-i-test.false)))
