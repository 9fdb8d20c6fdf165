-- `says_level` meets its contract. Assumes nothing.
use mathlib.Core.Path.{◌≡◌, sym, ap, ap₂, ◌∙◌}
use mathlib.Core.List.{List, ◌++◌}
use Prim.Native.Nat.{ℕ, ◌+◌, ◌-◌, ◌*◌, ◌≤◌}
use native.Mathlib.Omega.{arith}
use native.Mathlib.Nat.{mul-le-mul_right}
use lib.ListN.{length, take, drop, replicate, length-replicate, length-append}
use lib.Seq.{length-take-le, take_at}
use Rattle.ranges.specs.Lists.{same}
use Rattle.ways.specs.Way.{tree, width}
use Rattle.level.proofs.Laws.{words_many, wide as width-facts}
use Rattle.listening.proofs.says_level.Goals as goal
use Rattle.listening.proofs.says_level.Goals.{After-width-w, After-write_words}

-- how many words, and where the own ones stand
width_is : (c : After-width-w) → c.width-w.result ≡ width tree c.args.level.now.round
width_is c = c.width-w.ensures

wide : (c : After-width-w) → c.width-w.result ≤ 32
wide c =
    let l = c.args.level.now in
    let w = width-facts l.round l.ready.least l.ready.most in
    omega (arith, width_is c, w.twice, w.most)

stands : (c : After-width-w) → ((c.args.own - 1) * c.width-w.result ≤ 9 * c.width-w.result) × ((c.args.own - 1) * c.width-w.result + c.width-w.result ≤ length c.args.messages.now)
stands c =
    let a : c.args.own - 1 ≤ 9 = omega (arith, c.requires.1) in
    let b : (c.args.own - 1 + 1) * c.width-w.result ≡ c.args.own * width tree c.args.level.now.round = ap₂ ◌*◌ (omega (arith, c.requires.0)) (width_is c) in
    (mul-le-mul_right c.width-w.result a, omega (arith, b, c.requires.2))

-- the words that are said
abbrev words : After-write_words → List ℕ
words c = c.write_words.new.said

words_long : (c : After-write_words) → length (words c) ≡ c.width-w.result
words_long c =
    let l = c.args.level.now in
    ap length c.write_words.ensures ∙ words_many l.round l.sum l.kept.now l.sheet.now l.ready ∙ sym c.width-w.ensures

part : (from w : ℕ) (xs : List ℕ) → take (from + w - from) (drop from xs) ≡ take w (drop from xs)
part from w xs =
    let e : from + w - from ≡ w = omega arith in
    rw e

more : (xs ys : List ℕ) → length xs ≤ length (xs ++ ys)
more xs ys = omega (arith, length-append xs ys)

pub overflow_sub-from : goal.overflow_sub-from
overflow_sub-from c = c.requires.0

pub overflow_mul-from : goal.overflow_mul-from
overflow_mul-from c = omega (arith, (stands c).0, wide c)

pub overflow_add-to : goal.overflow_add-to
overflow_add-to c = omega (arith, (stands c).0, wide c)

pub slice_bounds-said-end : goal.slice_bounds-said-end
slice_bounds-said-end c = omega (arith, wide c)

lent : (c : After-width-w) → length (take c.width-w.result (replicate {A = ℕ} 32 0)) ≡ c.width-w.result
lent c = length-take-le c.width-w.result (replicate 32 0) (omega (arith, wide c, length-replicate {A = ℕ} 32 0))

pub slice_bounds-write_words-end : goal.slice_bounds-write_words-end
slice_bounds-write_words-end c = sym (lent (goal.at.slice_bounds-write_words-end c).After-width-w)

pub write_words-requires : goal.write_words-requires
write_words-requires c = lent (goal.at.write_words-requires c).After-width-w ∙ width_is (goal.at.write_words-requires c).After-width-w

pub offset_bounds-messages-from : goal.offset_bounds-messages-from
offset_bounds-messages-from c =
    omega (arith, (stands (goal.at.offset_bounds-messages-from c).After-width-w).0, wide (goal.at.offset_bounds-messages-from c).After-width-w)

pub slice_bounds-same_words-end : goal.slice_bounds-same_words-end
slice_bounds-same_words-end c = omega (arith, (stands (goal.at.slice_bounds-same_words-end c).After-width-w).1)

pub slice_bounds-said-end-2 : goal.slice_bounds-said-end-2
slice_bounds-said-end-2 c =
    rw (sym (words_long (goal.at.slice_bounds-said-end-2 c).After-write_words)) (more (words (goal.at.slice_bounds-said-end-2 c).After-write_words) _)

pub slice_bounds-same_words-end-2 : goal.slice_bounds-same_words-end-2
slice_bounds-same_words-end-2 c =
    sym (ap length (take_at (words (goal.at.slice_bounds-same_words-end-2 c).After-write_words) _ c.width-w.result (words_long (goal.at.slice_bounds-same_words-end-2 c).After-write_words)) ∙ words_long (goal.at.slice_bounds-same_words-end-2 c).After-write_words)

pub returns : goal.returns
returns c =
    let a = c.args in
    c.same_words.ensures
    ∙ ap₂ same
    (part ((a.own - 1) * c.width-w.result) c.width-w.result a.messages.now
    ∙ ap (λ (v : ℕ). take v (drop ((a.own - 1) * v) a.messages.now)) (width_is (goal.at.returns c).After-width-w))
    (take_at (words (goal.at.returns c).After-write_words) _ c.width-w.result (words_long (goal.at.returns c).After-write_words) ∙ c.write_words.ensures)
