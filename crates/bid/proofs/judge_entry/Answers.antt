-- `judge_entry` meets its contract: each return answers one test of the list. Assumes nothing.
use mathlib.Core.Path.{◌≡◌, refl, sym, ap, ◌∙◌}
use mathlib.Core.List.{List}
use mathlib.Core.Bool.{Bool, true, false, not, ◌&&◌}
use Prim.Native.Nat.{ℕ, ◌*◌}
use native.Mathlib.Omega.{arith}
use borrow.Author.Tests.{not-false}
use Rattle.sharing.specs.Scheme.{threshold}
use Rattle.ranges.specs.Sizes.{party, listed, long}
use Rattle.ranges.proofs.Ranges.{OnList, on_list}
use Rattle.refusal.proofs.Judging.{refuses, passes}
use Rattle.bid.specs.Entry.{is_entry, split_entry_judgement}
use Rattle.bid.proofs.Laws.{table_long}
use Rattle.bid.proofs.judge_entry.Lts.View as view
use Rattle.bid.proofs.judge_entry.Goals as goal
use Rattle.bid.proofs.judge_entry.Goals.{Else-not-entry-k, Else-not-on_list, Else-not-table-entries, Start}

-- each test that was passed, by its fault
abbrev on_table : Start → Bool
on_table s = party s.args.n s.args.own && listed s.args.k

abbrev on_entry : Start → Bool
on_entry s = is_entry s.args.k s.args.entry

range : (c : Else-not-on_list) → not (on_table c.before.before.before.before.before.before) ≡ false
range c = ap not (sym c.on_list.ensures) ∙ c.if-not-on_list.false-raw

-- the entry is judged where the rest is in range
then_entry : (c : Else-not-on_list) → not (on_table c.before.before.before.before.before.before && on_entry c.before.before.before.before.before.before) ≡ not (on_entry c.before.before.before.before.before.before)
then_entry c = ap (λ (b : Bool). not (b && on_entry c.before.before.before.before.before.before)) (not-false (on_table c.before.before.before.before.before.before) (range c))

outside : (a b : Bool) → not a ≡ true → not (a && b) ≡ true
outside true b e = cc
outside false b e = refl

entered : (c : Else-not-entry-k) → not (on_table c.before.before.before.before.before.before.before && on_entry c.before.before.before.before.before.before.before) ≡ false
entered c = then_entry (view.up-Else-not-on_list _ _ _ c.before.before) ∙ c.if-not-entry-k.false-raw

missized : ℕ → ℕ → List ℕ → List ℕ → List ℕ → Bool
missized k t table coins shares = not (long (2 * k) table && long t coins && long (2 * k) shares)

sized : (c : Else-not-table-entries) → missized c.args.k (threshold c.args.n) c.args.table.now c.args.coins.now c.args.shares.now ≡ false
unfolding missized
sized c = rw (sym c.threshold-t.ensures) c.if-not-table-entries.false-raw

-- the numbers are small
on : (c : Else-not-on_list) → OnList c.args.n c.args.own c.args.k
on c = on_list _ _ _ (not-false _ (range c))

pub returns-then-not-on_list : goal.returns-then-not-on_list
unfolding split_entry_judgement
returns-then-not-on_list c =
    sym (refuses (not (on_table (goal.at.returns-then-not-on_list c).Start && on_entry (goal.at.returns-then-not-on_list c).Start)) _ _ (outside (on_table (goal.at.returns-then-not-on_list c).Start) (on_entry (goal.at.returns-then-not-on_list c).Start) (ap not (sym c.on_list.ensures) ∙ c.if-not-on_list.true-raw)))

pub overflow_mul-k : goal.overflow_mul-k
overflow_mul-k c = omega (arith, (on c).prices_most)

pub returns-then-not-entry-k : goal.returns-then-not-entry-k
unfolding split_entry_judgement
returns-then-not-entry-k c =
    sym (refuses _ _ _ (then_entry (goal.at.returns-then-not-entry-k c).Else-not-on_list ∙ c.if-not-entry-k.true-raw))

pub overflow_mul-entries : goal.overflow_mul-entries
overflow_mul-entries c = omega (arith, (on (goal.at.overflow_mul-entries c).Else-not-on_list).prices_most)

pub returns-then-not-table-entries : goal.returns-then-not-table-entries
unfolding split_entry_judgement
returns-then-not-table-entries c =
    sym (passes _ _ _ (entered (goal.at.returns-then-not-table-entries c).Else-not-entry-k) ∙ refuses _ _ _ (rw (sym c.threshold-t.ensures) c.if-not-table-entries.true-raw))

pub judge_lent-requires : goal.judge_lent-requires
unfolding missized
judge_lent-requires c =
    let a = c.args in
    ((on (goal.at.judge_lent-requires c).Else-not-on_list).prices_least, table_long (2 * a.k) a.table.now (long (threshold a.n) a.coins.now) (long (2 * a.k) a.shares.now) (sized c))

pub returns : goal.returns
unfolding split_entry_judgement missized
returns c =
    c.judge_lent.ensures ∙ sym (passes _ _ _ (entered (goal.at.returns c).Else-not-entry-k) ∙ passes _ _ _ (sized (goal.at.returns c).Else-not-table-entries))
