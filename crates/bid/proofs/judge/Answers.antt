-- `judge` meets its contract: each return answers one test of the list. Assumes nothing.
use mathlib.Core.Path.{◌≡◌, sym, ap, ◌∙◌}
use mathlib.Core.List.{List}
use mathlib.Core.Bool.{Bool, false, not, ◌&&◌}
use Prim.Native.Nat.{ℕ, ◌*◌, ◌≤◌}
use native.Mathlib.Nat.{mul-le-mul}
use native.Mathlib.Omega.{arith}
use borrow.Author.Tests.{not-false}
use Rattle.sharing.specs.Scheme.{threshold}
use Rattle.ranges.specs.Sizes.{party, listed, long}
use Rattle.ranges.proofs.Ranges.{OnList, on_list}
use Rattle.refusal.proofs.Judging.{refuses, passes}
use Rattle.bid.specs.Split.{split_judgement}
use Rattle.bid.proofs.Laws.{table_long}
use Rattle.bid.proofs.judge.Goals as goal
use Rattle.bid.proofs.judge.Goals.{Else-not-on_list, Else-not-table-entries}

-- each test that was passed, by its fault
range : (c : Else-not-on_list) → not (party c.args.n c.args.own && listed c.args.k) ≡ false
range c = ap not (sym c.on_list.ensures) ∙ c.if-not-on_list.false-raw

missized : ℕ → ℕ → List ℕ → List ℕ → List ℕ → Bool
missized k t table coins shares = not (long (2 * k) table && long (2 * k * t) coins && long (2 * k) shares)

sized : (c : Else-not-table-entries) → missized c.args.k (threshold c.args.n) c.args.table.now c.args.coins.now c.args.shares.now ≡ false
unfolding missized
sized c = rw (sym c.threshold-t.ensures) c.if-not-table-entries.false-raw

-- the numbers are small
on : (c : Else-not-on_list) → OnList c.args.n c.args.own c.args.k
on c = on_list _ _ _ (not-false _ (range c))

pub returns-then-not-on_list : goal.returns-then-not-on_list
unfolding split_judgement
returns-then-not-on_list c = sym (refuses _ _ _ (ap not (sym c.on_list.ensures) ∙ c.if-not-on_list.true-raw))

pub overflow_mul-entries : goal.overflow_mul-entries
overflow_mul-entries c = omega (arith, (on c).prices_most)

pub overflow_mul-entries-2 : goal.overflow_mul-entries-2
overflow_mul-entries-2 c =
    let t : c.threshold-t.result ≤ 4 = omega (arith, (on (goal.at.overflow_mul-entries-2 c).Else-not-on_list).parties_most, c.threshold-t.ensures) in
    let m : 2 * c.args.k ≤ 2048 = omega (arith, (on (goal.at.overflow_mul-entries-2 c).Else-not-on_list).prices_most) in
    omega (arith, mul-le-mul m t)

pub returns-then-not-table-entries : goal.returns-then-not-table-entries
unfolding split_judgement
returns-then-not-table-entries c =
    sym (passes _ _ _ (range (goal.at.returns-then-not-table-entries c).Else-not-on_list) ∙ refuses _ _ _ (rw (sym c.threshold-t.ensures) c.if-not-table-entries.true-raw))

pub judge_lent-requires : goal.judge_lent-requires
unfolding missized
judge_lent-requires c =
    let a = c.args in
    ((on (goal.at.judge_lent-requires c).Else-not-on_list).prices_least, table_long (2 * a.k) a.table.now (long (2 * a.k * threshold a.n) a.coins.now) (long (2 * a.k) a.shares.now) (sized c))

pub returns : goal.returns
unfolding split_judgement missized
returns c =
    c.judge_lent.ensures ∙ sym (passes _ _ _ (range (goal.at.returns c).Else-not-on_list) ∙ passes _ _ _ (sized (goal.at.returns c).Else-not-table-entries))
