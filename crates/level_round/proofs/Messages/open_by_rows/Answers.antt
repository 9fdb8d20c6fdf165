-- `open_by_rows` meets its contract: a turn adds what the words of one party bring, from the last on. Assumes nothing.
use mathlib.Core.Path.{◌≡◌, refl, sym, ap, ◌∙◌}
use mathlib.Core.Bool.{Bool, cond, ◌&&◌}
use Prim.Native.Nat.{ℕ, ◌+◌, ◌-◌, ◌*◌, ◌≤◌, ◌<◌}
use native.Mathlib.Nat.{mul-le-mul_right}
use native.Mathlib.Omega.{arith}
use lib.Dec.{ltb}
use lib.ListN.{length}
use borrow.Author.Tests.{ltb-true}
use Rattle.fields.specs.Byte.{xor}
use Rattle.ranges.proofs.Loops.{and-true}
use Rattle.presence.specs.Presence.{everyone}
use Rattle.level_round.specs.Words.{column_word}
use Rattle.level_round.proofs.Words.{low_from, high_from, small_from, one_less, start_low, start_high, start_small, turn_low, turn_high, turn_small, by_rows}
use Rattle.level_round.proofs.Messages.open_by_rows.Goals as goal
use Rattle.level_round.proofs.Messages.open_by_rows.Goals.{After-loop-i, In-loop-i, Then-bits-low}

-- in a turn, of party i: where its word stands
module _ (c : In-loop-i) where
  abbrev i : ℕ
  i = c.loop-i.i

  inside : c.args.j + (i - 1) * c.args.self.now.w < length c.args.self.now.words.now
  inside =
      let most : i * c.args.self.now.w ≤ c.args.self.now.n * c.args.self.now.w = mul-le-mul_right c.args.self.now.w (omega arith) in
      omega (arith, one_less i c.args.self.now.w (omega arith), most, c.requires.0, c.args.self.now.sized.3)

pub loop-i-init : goal.loop-i-init
loop-i-init c =
    let R = c.requires.1 in (
      start_low _ _ _ _ R.least R.most,
      start_high _ _ _ _ R.least R.most,
      start_small _ _ _ _ R.least R.most,
    )

pub overflow_mul-word : goal.overflow_mul-word
overflow_mul-word c = omega (arith, inside (goal.at.overflow_mul-word c).In-loop-i)

pub overflow_add-word : goal.overflow_add-word
overflow_add-word c = omega (arith, inside (goal.at.overflow_add-word c).In-loop-i)

pub bounds-self-j : goal.bounds-self-j
bounds-self-j c = inside (goal.at.bounds-self-j c).In-loop-i

pub brought-low-requires : goal.brought-low-requires
brought-low-requires c =
    let R = c.requires.1 in (R.long, omega (arith, R.most), omega arith)

pub brought-high-requires : goal.brought-high-requires
brought-high-requires c =
    let R = c.requires.1 in (R.long, omega (arith, R.most), omega arith)

pub loop-i-preserved : goal.loop-i-preserved
unfolding xor
loop-i-preserved c =
    let R = c.requires.1 in
    let v = c.loop-i.invariant in
    let i = c.loop-i.i in
    let some : 0 < i = omega arith in
    let few : i ≤ c.args.self.now.n = omega arith in
    let near : i - 1 < c.args.self.now.n = omega arith in (
      turn_low _ _ _ _ R.least R.most i _ some few refl _ _ v.0 (c.brought-low.ensures c.args.self.now.n R near),
      turn_high _ _ _ _ R.least R.most i _ some few refl _ _ v.1 (c.brought-high.ensures c.args.self.now.n R near),
      turn_small _ _ _ _ R.least R.most i _ some few refl c.loop-i.bits v.2,
    )

-- at the end: all is read
module _ (c : After-loop-i) where
  none : c.loop-i.i ≡ 0
  none = omega arith

  read :
      let l = c.loop-i in
      column_word c.args.self.now.n c.args.self.now.w (everyone c.args.self.now.n) c.args.self.now.words.now c.args.j
      ≡ cond (ltb l.bits 65536 && ltb l.low 256 && ltb l.high 256) (l.low + 256 * l.high) 65536
  read =
      let a = c.args in
      let R = c.requires.1 in
      let v = c.loop-i.invariant in
      by_rows _ _ _ _ R.least R.most _ _ c.loop-i.bits (v.0 ∙ ap (low_from a.self.now.n a.self.now.w a.j a.self.now.words.now) none)
      (v.1 ∙ ap (high_from a.self.now.n a.self.now.w a.j a.self.now.words.now) none) (v.2 ∙ ap (small_from a.self.now.n a.self.now.w a.j a.self.now.words.now) none)

-- both sums are bytes
bytes : (c : Then-bits-low) → (c.loop-i.low < 256) × (c.loop-i.high < 256)
bytes c =
    let l = c.loop-i in
    let p = and-true (ltb l.bits 65536 && ltb l.low 256) (ltb l.high 256) c.if-bits-low.true in
    (ltb-true l.low 256 (and-true (ltb l.bits 65536) (ltb l.low 256) p.0).1, ltb-true l.high 256 p.1)

pub overflow_mul-result : goal.overflow_mul-result
overflow_mul-result c = omega (arith, bytes c)

pub overflow_add-result : goal.overflow_add-result
overflow_add-result c = omega (arith, bytes c)

pub returns-then-bits-low : goal.returns-then-bits-low
returns-then-bits-low c =
    sym (read (goal.at.returns-then-bits-low c).After-loop-i ∙ ap (λ (b : Bool). cond b (c.loop-i.low + 256 * c.loop-i.high) 65536) c.if-bits-low.true)

pub returns : goal.returns
returns c =
    sym (read (goal.at.returns c).After-loop-i ∙ ap (λ (b : Bool). cond b (c.loop-i.low + 256 * c.loop-i.high) 65536) c.if-bits-low.false)
