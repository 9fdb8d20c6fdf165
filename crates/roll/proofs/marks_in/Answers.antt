-- `marks_in` meets its contract: the marks of the words before i are counted. Assumes nothing.
use mathlib.Core.Path.{◌≡◌, ap, ◌∙◌}
use Prim.Native.Nat.{ℕ, ◌+◌, ◌*◌, ◌/◌, ◌%◌}
use native.Mathlib.Omega.{arith}
use lib.ListN.{get_or}
use Rattle.ranges.specs.Lists.{count}
use Rattle.ranges.proofs.Counting.{count_same, count_add}
use Rattle.roll.specs.declared.Roll.{Roll}
use Rattle.roll.specs.Marks.{is_set, marked, marks}
use Rattle.roll.proofs.marks_in.Goals as goal

-- one word more
step : (roll : Roll) (i : ℕ) → count (marked roll) (64 * (i + 1)) ≡ count (marked roll) (64 * i) + count (is_set (get_or roll.words i 0)) 64
unfolding marked
step roll i =
    let more : 64 * (i + 1) ≡ 64 * i + 64 = omega arith in
    ap (count (marked roll)) more
    ∙ count_add (marked roll) (64 * i) 64
    ∙ ap (λ (m : ℕ). count (marked roll) (64 * i) + m)
    (count_same (λ j. marked roll (64 * i + j)) (is_set (get_or roll.words i 0)) 64
    (λ j l.
    let at : (64 * i + j) / 64 ≡ i = omega arith in
    let place : (64 * i + j) % 64 ≡ j = omega arith in
    rw (at, place)))

pub loop-i-init : goal.loop-i-init
unfolding count
loop-i-init c = omega arith

pub overflow_add-sum : goal.overflow_add-sum
overflow_add-sum c = omega (arith, c.set_bits-sum.ensures.1)

pub loop-i-preserved : goal.loop-i-preserved
loop-i-preserved c =
    let e = c.set_bits-sum.ensures in
    omega (arith, step (record { words = c.args.words.now }) c.loop-i.i)

pub returns : goal.returns
unfolding marks
returns c =
    let l = c.loop-i in
    let end : 64 * l.i ≡ 1024 = omega arith in
    l.invariant.2 ∙ ap (count (marked (record { words = c.args.words.now }))) end
