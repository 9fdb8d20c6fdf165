-- `judge` meets its contract: n and the seeds, and the rest by `judge_prices`. Assumes nothing.
use Rattle.std.specs.Prelude.{Some, Err}
use Rattle.refusal.specs.declared.Refusal.TheVariants.{Malformed}
use mathlib.Core.Path.{◌≡◌, sym, ap, ap₂, ◌∙◌}
use mathlib.Core.Bool.{true, ◌&&◌}
use mathlib.Core.List.{List}
use Prim.Native.Nat.{ℕ, ◌+◌, ◌≤◌, ◌<◌}
use native.Mathlib.Omega.{arith}
use lib.Dec.{leb}
use lib.ListN.{drop}
use lib.Seq.{length-take-le, drop-drop}
use borrow.Author.Tests.{leb-true}
use Rattle.ranges.proofs.Loops.{and_right}
use Rattle.lines.specs.Lines.{lines, first_line, line_length, rest, numbers, bytes_of, formed}
use Rattle.plan.specs.Plan.{read_prices}
use Rattle.sections.specs.Sections.{at_line, xor_of}
use Rattle.plan.specs.Judged.{as_judged}
use Rattle.lines.proofs.Again.{past_one, bytes_first, formed_most}
use Rattle.plan.proofs.Answers.{n_misshapen, n_range, seeds_torn, seeds_all}
use Rattle.plan.proofs.judging.judge.Goals as goal
use Rattle.plan.proofs.judging.judge.Goals.{After-read_line-first, After-read_seeds-read, Else-not-n, In-Some}

-- what was lent, and its first line
abbrev lent : After-read_line-first → List ℕ
lent c = c.args.input.now

first : (c : After-read_line-first) → c.read_line-first.result.line ≡ first_line (lent c)
first c = c.read_line-first.ensures.0

from_zero : {x y : ℕ} → x ≡ 0 + y → x ≡ y
from_zero h = omega (arith, h)

second : (c : After-read_line-first) → c.read_line-first.result.next ≡ line_length (lent c)
second c = omega (arith, c.read_line-first.ensures.1)

abbrev n_of : In-Some → ℕ
n_of c = c.in-Some.n

is_n : (c : In-Some) → first_line (c.args.input.now) ≡ Some (n_of c)
is_n c = sym (c.read_line-first.ensures.0) ∙ c.in-Some.is

in_range : (c : Else-not-n) → (leb 3 c.in-Some.n && leb c.in-Some.n 9) ≡ true
in_range c = c.if-not-n.false

at_most : (c : Else-not-n) → c.in-Some.n ≤ 9
at_most c = leb-true _ _ (and_right (leb 3 c.in-Some.n) _ (in_range c))

snd : (c : After-read_seeds-read) → c.read_seeds-read.result.formed ≡ formed c.in-Some.n (rest (c.args.input.now))
snd c =
    c.read_seeds-read.ensures.0
    ∙ ap₂ (λ (m j : ℕ). formed m (drop j (c.args.input.now))) (length-take-le _ _ (leb-true _ _ (and_right (leb 3 c.in-Some.n) _ c.if-not-n.false))) (from_zero c.read_line-first.ensures.1)

xor : (c : After-read_seeds-read) → c.read_seeds-read.result.xor ≡ xor_of (numbers c.in-Some.n (rest (c.args.input.now)))
xor c =
    c.read_seeds-read.ensures.1
    ∙ ap₂ (λ (m j : ℕ). xor_of (numbers m (drop j (c.args.input.now)))) (length-take-le _ _ (leb-true _ _ (and_right (leb 3 c.in-Some.n) _ c.if-not-n.false))) (from_zero c.read_line-first.ensures.1)

nxt : (c : After-read_seeds-read) → c.read_seeds-read.result.next
    ≡ line_length (c.args.input.now) + bytes_of c.in-Some.n (rest (c.args.input.now))
nxt c =
    c.read_seeds-read.ensures.2
    ∙ ap₂ (λ (m j : ℕ). j + bytes_of m (drop j (c.args.input.now))) (length-take-le _ _ (leb-true _ _ (and_right (leb 3 c.in-Some.n) _ c.if-not-n.false))) (from_zero c.read_line-first.ensures.1)

pub returns-in_default : goal.returns-in_default
unfolding as_judged
returns-in_default c =
    ap Err c.new.ensures ∙ sym (ap (as_judged (lent (goal.at.returns-in_default c).After-read_line-first)) (n_misshapen (lent (goal.at.returns-in_default c).After-read_line-first) (sym (first (goal.at.returns-in_default c).After-read_line-first) ∙ c.in_default.is)))

pub returns-then-not-n : goal.returns-then-not-n
unfolding as_judged
returns-then-not-n c =
    ap Err c.new-then-not-n.ensures ∙ sym (ap (as_judged (lent (goal.at.returns-then-not-n c).After-read_line-first)) (n_range (lent (goal.at.returns-then-not-n c).After-read_line-first) (n_of (goal.at.returns-then-not-n c).In-Some) (is_n (goal.at.returns-then-not-n c).In-Some) c.if-not-n.true))

pub slice_bounds-seeds-end : goal.slice_bounds-seeds-end
slice_bounds-seeds-end c = at_most c

pub slice_bounds-read_seeds-end : goal.slice_bounds-read_seeds-end
slice_bounds-read_seeds-end c = sym (length-take-le _ _ (at_most (goal.at.slice_bounds-read_seeds-end c).Else-not-n))

pub overflow_add-read : goal.overflow_add-read
overflow_add-read c =
    omega (arith, snd (goal.at.overflow_add-read c).After-read_seeds-read, formed_most (n_of (goal.at.overflow_add-read c).In-Some) (rest (lent (goal.at.overflow_add-read c).After-read_line-first)), at_most (goal.at.overflow_add-read c).Else-not-n)

pub returns-then-read-m : goal.returns-then-read-m
unfolding as_judged
returns-then-read-m c =
    let h : formed (n_of (goal.at.returns-then-read-m c).In-Some) (rest (lent (goal.at.returns-then-read-m c).After-read_line-first)) ≡ n_of (goal.at.returns-then-read-m c).In-Some → ⊥ = λ e. c.if-read-m.true (snd (goal.at.returns-then-read-m c).After-read_seeds-read ∙ e) in
    let l : formed (n_of (goal.at.returns-then-read-m c).In-Some) (rest (lent (goal.at.returns-then-read-m c).After-read_line-first)) < n_of (goal.at.returns-then-read-m c).In-Some = omega (arith, formed_most (n_of (goal.at.returns-then-read-m c).In-Some) (rest (lent (goal.at.returns-then-read-m c).After-read_line-first))) in
    ap Err c.new-then-read-m.ensures ∙ ap (λ (j : ℕ). Err (at_line Malformed (2 + j))) (snd (goal.at.returns-then-read-m c).After-read_seeds-read) ∙ sym (ap (as_judged (lent (goal.at.returns-then-read-m c).After-read_line-first)) (seeds_torn (lent (goal.at.returns-then-read-m c).After-read_line-first) (n_of (goal.at.returns-then-read-m c).In-Some) (is_n (goal.at.returns-then-read-m c).In-Some) (in_range (goal.at.returns-then-read-m c).Else-not-n) l))

pub judge_prices-requires : goal.judge_prices-requires
judge_prices-requires c =
    (at_most (goal.at.judge_prices-requires c).Else-not-n, nxt (goal.at.judge_prices-requires c).After-read_seeds-read ∙ bytes_first (n_of (goal.at.judge_prices-requires c).In-Some) (lent (goal.at.judge_prices-requires c).After-read_line-first), xor (goal.at.judge_prices-requires c).After-read_seeds-read ∙ ap (λ (l : List ℕ). xor_of (numbers (n_of (goal.at.judge_prices-requires c).In-Some) l)) (sym (past_one (lent (goal.at.judge_prices-requires c).After-read_line-first))))

pub returns : goal.returns
returns c =
    let bytes = lent (goal.at.returns c).After-read_line-first in
    let h = sym (snd (goal.at.returns c).After-read_seeds-read) ∙ c.if-read-m.false in
    c.judge_prices.ensures
    ∙ ap₂ (λ (vs bs : List ℕ). as_judged bytes (read_prices (n_of (goal.at.returns c).In-Some) vs (lines bs))) (ap (numbers (n_of (goal.at.returns c).In-Some)) (past_one bytes))
    (ap (λ (j : ℕ). drop j bytes) (nxt (goal.at.returns c).After-read_seeds-read) ∙ sym (drop-drop (bytes_of (n_of (goal.at.returns c).In-Some) (rest bytes)) (line_length bytes) bytes))
    ∙ sym (ap (as_judged bytes) (seeds_all bytes (n_of (goal.at.returns c).In-Some) (is_n (goal.at.returns c).In-Some) (in_range (goal.at.returns c).Else-not-n) h))
