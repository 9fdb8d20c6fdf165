-- `none_reaches` meets its contract: what was seen is below 2^63 where the words before are below size. Assumes nothing.
use Rattle.std.proofs.Common.{◌≡◌, ℕ, ◌+◌, ◌-◌, ◌%◌, ◌^◌, ◌<◌, ◌≤◌, Bool, true, false, ◌&&◌, ltb, sym, refl, ap, ◌∙◌, arith, ltb-false, ltb-true, le-ltb, lt-ltb}
use lib.Bits.{bit_or, or_lt}
use Rattle.ranges.proofs.Joined.{left_le, right_le, both_below}
use Rattle.ranges.proofs.Loops.{every_joined, every_joined_end}
use Rattle.ranges.proofs.lists.none_reaches.Goals as goal

-- one word
reaches : (w size : ℕ) → size ≤ 2 ^ 63 → ltb (bit_or w (w % 2 ^ 63 + (2 ^ 63 - size))) (2 ^ 63) ≡ ltb w size
reaches w size h = by (w % 2 ^ 63 + (2 ^ 63 - size)) refl (ltb w size) refl
  where
    by : (e : ℕ) → e ≡ w % 2 ^ 63 + (2 ^ 63 - size) → (y : Bool) → ltb w size ≡ y → ltb (bit_or w e) (2 ^ 63) ≡ y
    by e d true g = let l : w < size = ltb-true w size g in lt-ltb (bit_or w e) (2 ^ 63) (or_lt 63 w e (omega arith) (omega arith))
    by e d false g = le-ltb (bit_or w e) (2 ^ 63) (omega (arith, left_le w e, right_le w e, ltb-false w size g))

pub loop-word-preserved : goal.loop-word-preserved
loop-word-preserved c =
    let l = c.loop-word in
    l.invariant
    ∙ every_joined _ _ _ (ltb l.seen (2 ^ 63)) _ c.loop-word-test.true
    (both_below 63 l.seen _ ∙ ap (λ (b : Bool). ltb l.seen (2 ^ 63) && b) (reaches _ c.args.size c.requires))

pub returns : goal.returns
returns c = let l = c.loop-word in sym (l.invariant ∙ every_joined_end _ _ _ (ltb l.seen (2 ^ 63)) c.loop-word-test.false)
