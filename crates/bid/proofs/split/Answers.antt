-- `split` meets its contract: nothing is written unless the call is accepted. Assumes nothing.
use Rattle.std.proofs.Common.{arith, ◌≡◌, List, ℕ, Ok, Err, sym, ap, ◌∙◌}
use Rattle.std.proofs.lemmas.Result.{err_from_is_err_and}
use Rattle.sharing.specs.Scheme.{threshold}
use Rattle.bid.specs.Split.{split_judgement, bid_shares, split_left}
use Rattle.refusal.proofs.Judging.{kept_new, kept_old}
use Rattle.bid.proofs.Laws.{splits}
use Rattle.bid.proofs.split.Goals as goal
use Rattle.bid.proofs.split.Goals.{In_ok-judge}

yes : (c : In_ok-judge) → split_judgement c.args.n c.args.own c.args.k c.args.table.now c.args.coins.now c.args.shares.now ≡ Ok tt
yes c = sym c.judge.ensures ∙ c.in_ok-judge.was

-- what was written then
written : (n own k t : ℕ) (table coins shares now : List ℕ) → split_judgement n own k table coins shares ≡ Ok tt → t ≡ threshold n
    → now ≡ bid_shares t own table coins → now ≡ split_left n own k table coins shares
written n own k t table coins shares now yes e w =
    w ∙ ap (λ (m : ℕ). bid_shares m own table coins) e ∙ sym (kept_new _ (bid_shares (threshold n) own table coins) shares yes)

pub returns-in_err-judge : goal.returns-in_err-judge
returns-in_err-judge c =
    let p = err_from_is_err_and c.from_residual.result c.from_residual.ensures.1 in
    let a = c.args in
    let no : split_judgement a.n a.own a.k a.table.now a.coins.now a.shares.now ≡ Err c.in_err-judge.field-0.0 = sym c.judge.ensures ∙ c.in_err-judge.was in
    (p.1 ∙ ap Err p.2 ∙ sym no, sym (kept_old _ _ _ _ no))

pub write-requires : goal.write-requires
write-requires c =
    let h = splits _ _ _ _ _ _ (yes (goal.at.write-requires c).In_ok-judge) in
    let t = c.threshold.ensures in
    (h.coins_long ∙ cc, h.shares_long ∙ sym h.table_long, omega (arith, h.listed.parties_most), omega (arith, h.listed.parties_most, h.listed.own_most))

pub returns : goal.returns
returns c =
    let a = c.args in
    let y = yes (goal.at.returns c).In_ok-judge in
    (sym y, written a.n a.own a.k c.threshold.result a.table.now a.coins.now a.shares.now _ y c.threshold.ensures c.write.ensures)
