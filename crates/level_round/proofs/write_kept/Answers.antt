-- `write_kept` meets its contract: product by product a word is kept. Assumes nothing.
use mathlib.Core.Path.{◌≡◌, sym, ap, ◌∙◌}
use mathlib.Core.List.{List, map}
use Prim.Native.Nat.{ℕ, ◌<◌}
use native.Mathlib.Omega.{arith}
use lib.Dec.{ltb}
use lib.ListN.{length, take, get_or, length-set, length-map, get_or-map}
use lib.Seq.{take_all}
use borrow.Author.Tests.{ltb-true}
use Rattle.ranges.proofs.Loops.{fill, every_at}
use Rattle.ways.specs.Way.{tree, width}
use Rattle.comparison.specs.Pairs.{Sides}
use Rattle.level.specs.Level.{level_kept, next_word}
use Rattle.level.proofs.Laws.{wide, kept_at, kept_length}
use Rattle.level_round.specs.Words.{word_sides}
use Rattle.level_round.proofs.write_kept.Goals as goal
use Rattle.level_round.proofs.write_kept.Goals.{In-loop-j}

-- in a turn: the product, and what is kept
module _ (c : In-loop-j) where
  inside : c.loop-j.j < width tree c.args.level.now.round
  inside = omega (arith, c.requires.0, c.loop-j-test.true)

  two_bytes : get_or c.args.products.now c.loop-j.j 0 < 65536
  two_bytes = ltb-true _ 65536 (every_at (λ v. ltb v 65536) c.args.products.now c.loop-j.j c.requires.2 (omega (arith, inside, c.requires.0)))

  abbrev os : List (Sides ℕ)
  os = map word_sides c.args.products.now

  many : length os ≡ width tree c.args.level.now.round
  many = length-map c.args.products.now word_sides ∙ c.requires.0

  abbrev K : List ℕ
  K = level_kept c.args.level.now.round c.args.level.now.sum c.args.level.now.kept.now c.args.level.now.sheet.now os

  long : length K ≡ 32
  long = kept_length c.args.level.now.round c.args.level.now.sum c.args.level.now.kept.now c.args.level.now.sheet.now c.args.level.now.ready os many

pub bounds-words-j : goal.bounds-words-j
bounds-words-j c = omega (arith, inside (goal.at.bounds-words-j c).In-loop-j, c.loop-j.invariant.0)

pub next_word-requires : goal.next_word-requires
next_word-requires c =
    let here = (goal.at.next_word-requires c).In-loop-j in
    (inside here, omega arith, omega (arith, two_bytes here))

pub loop-j-preserved : goal.loop-j-preserved
loop-j-preserved c =
    let here = (goal.at.loop-j-preserved c).In-loop-j in
    let s = c.args.level.now in
    let j = c.loop-j.j in
    let W = wide s.round s.ready.least s.ready.most in
    let value : c.next_word.result ≡ get_or (K here) j 0 =
    c.next_word.ensures
    ∙ ap (λ (z : Sides ℕ). next_word s.round s.sum s.kept.now s.sheet.now j z.left z.right) (sym (get_or-map word_sides c.args.products.now j 0))
    ∙ sym (kept_at s.round s.sum s.kept.now s.sheet.now s.ready (os here) (many here) j (inside here)) in (
      length-set c.loop-j.words j c.next_word.result ∙ c.loop-j.invariant.0,
      fill c.loop-j.words (K here) j c.next_word.result (omega (arith, inside here, c.loop-j.invariant.0))
          (omega (arith, inside here, long here, W.twice, W.most)) value c.loop-j.invariant.1,
    )

pub returns : goal.returns
returns c =
    let l = c.loop-j in
    let s = c.args.level.now in
    let e : l.j ≡ width tree s.round = omega (arith, c.requires.0) in
    sym (take_all l.j l.words (omega (arith, l.invariant.0, e))) ∙ l.invariant.1
    ∙ ap (λ (k : ℕ). take k (level_kept s.round s.sum s.kept.now s.sheet.now (map word_sides c.args.products.now))) e
