-- `judge_prices` meets its contract: k and the prices, and the rest by `judge_bids`. Assumes nothing.
use Rattle.std.specs.Prelude.{Some, Err}
use Rattle.refusal.specs.declared.Refusal.TheVariants.{Malformed}
use mathlib.Core.Path.{◌≡◌, sym, ap, ap₂, ◌∙◌}
use mathlib.Core.Bool.{true, ◌&&◌}
use mathlib.Core.List.{List}
use Prim.Native.Nat.{ℕ, ◌+◌, ◌≤◌, ◌<◌}
use native.Mathlib.Omega.{arith}
use lib.Dec.{leb}
use lib.ListN.{drop}
use lib.Seq.{length-take-le, drop-drop}
use borrow.Author.Tests.{leb-true}
use Rattle.ranges.proofs.Loops.{and_right}
use Rattle.lines.specs.Lines.{lines, first_line, line_length, rest, numbers, bytes_of, past}
use Rattle.plan.specs.Plan.{read_bids}
use Rattle.plan.specs.Judged.{as_judged, seeds_of}
use Rattle.sections.specs.Sections.{at_line, good_prices}
use Rattle.lines.proofs.Again.{line_more, bytes_add, after_add}
use Rattle.sections.proofs.Counts.{good_most}
use Rattle.plan.proofs.Answers.{k_misshapen, k_range, price_bad, prices_good}
use Rattle.plan.proofs.judging.judge_prices.Goals as goal
use Rattle.plan.proofs.judging.judge_prices.Goals.{After-read_line-first, After-read_prices-read, Else-not-k, In-Some}

two : (n : ℕ) → n + 1 + 1 ≡ n + 2
two n = omega arith

abbrev lent : After-read_line-first → List ℕ
lent c = c.args.input.now

abbrev left : After-read_line-first → List ℕ
left c = drop c.args.at (lent c)

first : (c : After-read_line-first) → c.read_line-first.result.line ≡ first_line (left c)
first c = c.read_line-first.ensures.0

second : (c : After-read_line-first) → c.read_line-first.result.next ≡ c.args.at + line_length (left c)
second c = c.read_line-first.ensures.1

abbrev k_of : In-Some → ℕ
k_of c = c.in-Some.k

is_k : (c : In-Some) → first_line (drop c.args.at c.args.input.now) ≡ Some (k_of c)
is_k c = sym (c.read_line-first.ensures.0) ∙ c.in-Some.is

in_range : (c : Else-not-k) → (leb 1 c.in-Some.k && leb c.in-Some.k 256) ≡ true
in_range c = c.if-not-k.false

at_most : (c : Else-not-k) → c.in-Some.k ≤ 256
at_most c = leb-true _ _ (and_right (leb 1 c.in-Some.k) _ (in_range c))

-- they begin after the line
moved : (bytes : List ℕ) (at next : ℕ) → next ≡ at + line_length (drop at bytes) → drop next bytes ≡ rest (drop at bytes)
moved bytes at next e = ap (λ (j : ℕ). drop j bytes) e ∙ sym (drop-drop (line_length (drop at bytes)) at bytes)

good : (c : After-read_prices-read) → c.read_prices-read.result.good ≡ good_prices c.in-Some.k 0 (rest (drop c.args.at c.args.input.now))
good c =
    c.read_prices-read.ensures.0
    ∙ ap₂ (λ (m : ℕ) (bs : List ℕ). good_prices m 0 bs) (length-take-le _ _ (leb-true _ _ (and_right (leb 1 c.in-Some.k) _ c.if-not-k.false))) (moved _ _ _ c.read_line-first.ensures.1)

nxt : (c : After-read_prices-read) → c.read_prices-read.result.next
    ≡ c.read_line-first.result.next + bytes_of c.in-Some.k (rest (drop c.args.at c.args.input.now))
nxt c =
    c.read_prices-read.ensures.1
    ∙ ap₂ (λ (m : ℕ) (bs : List ℕ). c.read_line-first.result.next + bytes_of m bs) (length-take-le _ _ (leb-true _ _ (and_right (leb 1 c.in-Some.k) _ c.if-not-k.false)))
    (moved _ _ _ c.read_line-first.ensures.1)

-- the same places, counted in lines
prices_from : (bytes : List ℕ) (n at next : ℕ) → next ≡ at + line_length (drop at bytes) → at ≡ bytes_of (n + 1) bytes → next ≡ bytes_of (n + 2) bytes
prices_from bytes n at next e h = e ∙ line_more bytes at (n + 1) h ∙ ap (λ (j : ℕ). bytes_of j bytes) (two n)

at_prices : (c : After-read_line-first) → c.read_line-first.result.next ≡ bytes_of (c.args.n + 2) (lent c)
at_prices c = prices_from _ _ _ _ c.read_line-first.ensures.1 c.requires.1

past_from : (bytes : List ℕ) (n at next : ℕ) → next ≡ at + line_length (drop at bytes) → at ≡ bytes_of (n + 1) bytes → rest (drop at bytes) ≡ past (n + 2) bytes
past_from bytes n at next e h = sym (moved bytes at next e) ∙ ap (λ (j : ℕ). drop j bytes) (prices_from bytes n at next e h)

from_prices : (c : After-read_line-first) → rest (left c) ≡ past (c.args.n + 2) (lent c)
from_prices c = past_from _ _ _ _ c.read_line-first.ensures.1 c.requires.1

at_bids : (c : After-read_prices-read) → c.read_prices-read.result.next ≡ bytes_of (c.args.n + 2 + c.in-Some.k) (c.args.input.now)
at_bids c =
    nxt c ∙ ap₂ (λ (j : ℕ) (bs : List ℕ). j + bytes_of c.in-Some.k bs) (prices_from _ _ _ _ c.read_line-first.ensures.1 c.requires.1) (past_from _ _ _ _ c.read_line-first.ensures.1 c.requires.1)
    ∙ sym (bytes_add (c.args.n + 2) c.in-Some.k (c.args.input.now))

pub returns-in_default : goal.returns-in_default
unfolding as_judged
returns-in_default c =
    ap Err c.new.ensures ∙ sym (ap (as_judged (lent (goal.at.returns-in_default c).After-read_line-first)) (k_misshapen c.args.n (seeds_of c.args.n (lent (goal.at.returns-in_default c).After-read_line-first)) (left (goal.at.returns-in_default c).After-read_line-first) (sym (first (goal.at.returns-in_default c).After-read_line-first) ∙ c.in_default.is)))

pub returns-then-not-k : goal.returns-then-not-k
unfolding as_judged
returns-then-not-k c =
    ap Err c.new-then-not-k.ensures ∙ sym (ap (as_judged (lent (goal.at.returns-then-not-k c).After-read_line-first)) (k_range c.args.n (seeds_of c.args.n (lent (goal.at.returns-then-not-k c).After-read_line-first)) (left (goal.at.returns-then-not-k c).After-read_line-first) (k_of (goal.at.returns-then-not-k c).In-Some) (is_k (goal.at.returns-then-not-k c).In-Some) c.if-not-k.true))

pub slice_bounds-prices-end : goal.slice_bounds-prices-end
slice_bounds-prices-end c = at_most c

pub slice_bounds-read_prices-end : goal.slice_bounds-read_prices-end
slice_bounds-read_prices-end c = sym (length-take-le _ _ (at_most (goal.at.slice_bounds-read_prices-end c).Else-not-k))

pub overflow_add-n-then-read-m-2 : goal.overflow_add-n-then-read-m-2
overflow_add-n-then-read-m-2 c =
    omega (arith, good (goal.at.overflow_add-n-then-read-m-2 c).After-read_prices-read, good_most (k_of (goal.at.overflow_add-n-then-read-m-2 c).In-Some) 0 (rest (left (goal.at.overflow_add-n-then-read-m-2 c).After-read_line-first)), at_most (goal.at.overflow_add-n-then-read-m-2 c).Else-not-k, c.requires)

pub returns-then-read-m : goal.returns-then-read-m
unfolding as_judged
returns-then-read-m c =
    let bytes = rest (left (goal.at.returns-then-read-m c).After-read_line-first) in
    let h : good_prices (k_of (goal.at.returns-then-read-m c).In-Some) 0 bytes ≡ k_of (goal.at.returns-then-read-m c).In-Some → ⊥ = λ e. c.if-read-m.true (good (goal.at.returns-then-read-m c).After-read_prices-read ∙ e) in
    let l : good_prices (k_of (goal.at.returns-then-read-m c).In-Some) 0 bytes < k_of (goal.at.returns-then-read-m c).In-Some = omega (arith, good_most (k_of (goal.at.returns-then-read-m c).In-Some) 0 bytes) in
    ap Err c.new-then-read-m.ensures ∙ ap (λ (j : ℕ). Err (at_line Malformed (c.args.n + 3 + j))) (good (goal.at.returns-then-read-m c).After-read_prices-read)
    ∙ sym (ap (as_judged (lent (goal.at.returns-then-read-m c).After-read_line-first)) (price_bad c.args.n (seeds_of c.args.n (lent (goal.at.returns-then-read-m c).After-read_line-first)) (left (goal.at.returns-then-read-m c).After-read_line-first) (k_of (goal.at.returns-then-read-m c).In-Some) (is_k (goal.at.returns-then-read-m c).In-Some) (in_range (goal.at.returns-then-read-m c).Else-not-k) l))

pub judge_bids-requires : goal.judge_bids-requires
judge_bids-requires c =
    (c.requires.0, at_most (goal.at.judge_bids-requires c).Else-not-k, at_prices (goal.at.judge_bids-requires c).After-read_line-first, at_bids (goal.at.judge_bids-requires c).After-read_prices-read, c.requires.2)

pub returns : goal.returns
returns c =
    let bytes = lent (goal.at.returns c).After-read_line-first in
    let h = sym (good (goal.at.returns c).After-read_prices-read) ∙ c.if-read-m.false in
    c.judge_bids.ensures
    ∙ ap₂ (λ (vs bs : List ℕ). as_judged bytes (read_bids c.args.n (seeds_of c.args.n bytes) (k_of (goal.at.returns c).In-Some) vs (lines bs)))
    (ap (numbers (k_of (goal.at.returns c).In-Some)) (sym (from_prices (goal.at.returns c).After-read_line-first)))
    (ap (λ (j : ℕ). drop j bytes) (at_bids (goal.at.returns c).After-read_prices-read) ∙ sym (after_add (c.args.n + 2) (k_of (goal.at.returns c).In-Some) bytes) ∙ ap (past (k_of (goal.at.returns c).In-Some)) (sym (from_prices (goal.at.returns c).After-read_line-first)))
    ∙ sym (ap (as_judged bytes) (prices_good c.args.n (seeds_of c.args.n bytes) (left (goal.at.returns c).After-read_line-first) (k_of (goal.at.returns c).In-Some) (is_k (goal.at.returns c).In-Some) (in_range (goal.at.returns c).Else-not-k) h))
