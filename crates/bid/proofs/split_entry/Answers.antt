-- `split_entry` meets its contract: nothing is written unless the call is accepted, and then one place. Assumes nothing.
use Rattle.std.proofs.Common.{arith, ◌≡◌, ◌∷◌, ◌-◌, List, ℕ, Ok, Err, sym, ap, ◌∙◌}
use Rattle.std.proofs.lemmas.Result.{err_from_is_err_and}
use lib.ListN.{set, get_or}
use Rattle.fields.specs.Amount.{amounts}
use Rattle.refusal.proofs.Judging.{kept_new, kept_old}
use Rattle.sharing.specs.Polynomial.{value}
use Rattle.bid.specs.Entry.{split_entry_judgement, split_entry_left}
use Rattle.bid.proofs.Laws.{SplitsEntry, splits_entry}
use Rattle.bid.proofs.split_entry.Goals as goal
use Rattle.bid.proofs.split_entry.Goals.{In_ok-judge_entry}

yes : (c : In_ok-judge_entry) → split_entry_judgement c.args.n c.args.own c.args.k c.args.entry c.args.table.now c.args.coins.now c.args.shares.now
    ≡ Ok tt
yes c = sym c.judge_entry.ensures ∙ c.in_ok-judge_entry.was

-- so all of it is in range
facts : (c : In_ok-judge_entry) → SplitsEntry c.args.n c.args.own c.args.k c.args.entry c.args.table.now c.args.coins.now c.args.shares.now
facts c = splits_entry _ _ _ _ _ _ _ (yes c)

-- what is written then
written : (n own k entry : ℕ) (table coins shares : List ℕ) (share : ℕ) → split_entry_judgement n own k entry table coins shares ≡ Ok tt
    → share ≡ value amounts (get_or table (entry - 1) 0 ∷ coins) own → set shares (entry - 1) share ≡ split_entry_left n own k entry table coins shares
written n own k entry table coins shares share yes e = ap (set shares (entry - 1)) e ∙ sym (kept_new _ _ shares yes)

pub returns-in_err-judge_entry : goal.returns-in_err-judge_entry
returns-in_err-judge_entry c =
    let p = err_from_is_err_and c.from_residual.result c.from_residual.ensures.1 in
    let a = c.args in
    let no : split_entry_judgement a.n a.own a.k a.entry a.table.now a.coins.now a.shares.now ≡ Err c.in_err-judge_entry.field-0.0 = sym c.judge_entry.ensures ∙ c.in_err-judge_entry.was in
    (p.1 ∙ ap Err p.2 ∙ sym no, sym (kept_old _ _ _ _ no))

pub overflow_sub-place : goal.overflow_sub-place
overflow_sub-place c = (facts c).entry_least

pub offset_bounds-table-place : goal.offset_bounds-table-place
offset_bounds-table-place c = omega (arith, (facts c).entry_most, (facts c).listed.prices_most)

pub bounds-table-place : goal.bounds-table-place
bounds-table-place c =
    let f = facts (goal.at.bounds-table-place c).In_ok-judge_entry in
    omega (arith, f.entry_least, f.entry_most, f.table_long)

pub share-requires : goal.share-requires
share-requires c =
    let f = facts (goal.at.share-requires c).In_ok-judge_entry in
    (omega (arith, f.coins_long, f.listed.parties_most), omega (arith, f.listed.own_most, f.listed.parties_most))

pub offset_bounds-shares-place : goal.offset_bounds-shares-place
offset_bounds-shares-place c =
    let f = facts (goal.at.offset_bounds-shares-place c).In_ok-judge_entry in
    omega (arith, f.entry_most, f.listed.prices_most)

pub bounds-shares-place : goal.bounds-shares-place
bounds-shares-place c =
    let f = facts (goal.at.bounds-shares-place c).In_ok-judge_entry in
    omega (arith, f.entry_least, f.entry_most, f.shares_long)

pub returns : goal.returns
returns c =
    let a = c.args in
    let y = yes (goal.at.returns c).In_ok-judge_entry in
    (sym y, written a.n a.own a.k a.entry a.table.now a.coins.now a.shares.now _ y c.share.ensures)
