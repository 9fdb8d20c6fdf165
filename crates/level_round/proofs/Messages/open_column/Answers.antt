-- `open_column` meets its contract: the words of one product are gathered, and opened. Assumes nothing.
use mathlib.Core.Path.{◌≡◌, refl, sym, ap, ap₂, ◌∙◌}
use mathlib.Core.List.{List, ◌++◌, map}
use Prim.Native.Nat.{ℕ, ◌+◌, ◌*◌, ◌/◌, ◌%◌, ◌≤◌, ◌<◌}
use native.Mathlib.Nat.{mul-le-mul_right}
use native.Mathlib.Omega.{arith}
use lib.ListN.{length, take, drop, get_or, replicate, length-set}
use lib.Seq.{take_all, take_at, length-take-le}
use Rattle.ranges.proofs.Loops.{fill}
use Rattle.weights.specs.Rows.{byte_scheme}
use Rattle.openings.specs.Opening.{Opening}
use Rattle.presence.specs.Presence.{all_or}
use Rattle.present_openings.specs.Present.{opened_by}
use Rattle.level_round.specs.Columns.{column}
use Rattle.level_round.specs.Words.{product_word, column_word}
use Rattle.level_round.proofs.Laws.{column_length, column_at}
use Rattle.level_round.proofs.Words.{opened_byte}
use Rattle.level_round.proofs.Messages.open_column.Goals as goal
use Rattle.level_round.proofs.Messages.open_column.Goals.{After-open_present_pair_by-pair, In-loop-i}

-- the word is there
inside : (c : In-loop-i) → c.args.j + c.loop-i.i * c.args.self.now.w < length c.args.self.now.words.now
inside c =
    let r : (c.loop-i.i + 1) * c.args.self.now.w ≤ c.args.self.now.n * c.args.self.now.w = mul-le-mul_right c.args.self.now.w (omega (arith, c.loop-i.invariant.0)) in
    omega (arith, c.requires, c.args.self.now.sized.3)

pub slice_bounds-words-end : goal.slice_bounds-words-end
slice_bounds-words-end c = c.args.self.now.sized.1

pub loop-i-init : goal.loop-i-init
loop-i-init c = (length-take-le c.args.self.now.n (replicate 9 0) c.args.self.now.sized.1, refl)

pub overflow_mul-word : goal.overflow_mul-word
overflow_mul-word c = omega (arith, inside (goal.at.overflow_mul-word c).In-loop-i)

pub overflow_add-word : goal.overflow_add-word
overflow_add-word c = omega (arith, inside (goal.at.overflow_add-word c).In-loop-i)

pub bounds-self-j : goal.bounds-self-j
bounds-self-j c = inside (goal.at.bounds-self-j c).In-loop-i

pub loop-i-preserved : goal.loop-i-preserved
loop-i-preserved c =
    let l = c.loop-i in
    let a = c.args in
    let v = get_or a.self.now.words.now (a.j + l.i * a.self.now.w) 0 in
    let near : l.i < a.self.now.n = omega (arith, l.invariant.0) in (
      length-set l.word-items l.i v ∙ l.invariant.0,
      fill l.word-items (column a.self.now.n a.self.now.w a.j a.self.now.words.now) l.i v (omega (arith, l.invariant.0))
          (omega (arith, column_length a.self.now.n a.self.now.w a.j a.self.now.words.now))
          (sym (column_at a.self.now.n a.self.now.w a.j a.self.now.words.now l.i near)) l.invariant.1,
    )

-- the words are the column, and what they open to are bytes
module _ (c : After-open_present_pair_by-pair) where
  abbrev col : List ℕ
  col = column c.args.self.now.n c.args.self.now.w c.args.j c.args.self.now.words.now

  abbrev by : (ℕ → ℕ) → List ℕ → Opening
  by f ws = opened_by byte_scheme c.args.self.now.n (all_or c.args.self.now.all c.args.self.now.n c.args.self.now.present.now) (map f ws)

  whole : take c.args.self.now.n (c.loop-i.word-items ++ drop c.args.self.now.n (replicate 9 0)) ≡ col
  whole =
      let l = c.loop-i in
      let e : l.i ≡ c.args.self.now.n = omega (arith, l.invariant.0) in
      take_at l.word-items (drop c.args.self.now.n (replicate 9 0)) c.args.self.now.n l.invariant.0
      ∙ sym (take_all l.i l.word-items (omega (arith, l.invariant.0))) ∙ l.invariant.1
      ∙ take_all l.i col (omega (arith, column_length c.args.self.now.n c.args.self.now.w c.args.j c.args.self.now.words.now))

  low : c.open_present_pair_by-pair.result.low ≡ by (λ v. v % 256) col
  low = c.open_present_pair_by-pair.ensures.0 ∙ ap (by (λ v. v % 256)) whole

  high : c.open_present_pair_by-pair.result.high ≡ by (λ v. v / 256) col
  high = c.open_present_pair_by-pair.ensures.1 ∙ ap (by (λ v. v / 256)) whole

pub product_word-requires : goal.product_word-requires
product_word-requires c = (rw (low c) (opened_byte _ _ _), rw (high c) (opened_byte _ _ _))

pub returns : goal.returns
unfolding column_word
returns c =
    c.product_word.ensures ∙ ap₂ product_word (low (goal.at.returns c).After-open_present_pair_by-pair) (high (goal.at.returns c).After-open_present_pair_by-pair)
