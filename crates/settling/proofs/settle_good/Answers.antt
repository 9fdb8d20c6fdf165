-- `settle_good` meets its contract. Assumes nothing.
use mathlib.Core.Path.{sym, ap, ap₂, ◌∙◌}
use mathlib.Core.List.{List, ◌++◌}
use Prim.Native.Nat.{ℕ, ◌*◌, ◌<◌}
use native.Mathlib.Nat.{pos_of_ne-zero}
use native.Mathlib.Omega.{arith}
use lib.ListN.{drop}
use lib.Seq.{length-take-le}
use Rattle.listing.proofs.Writing.{wrote_same}
use Rattle.settling.proofs.Page.{zeros_left}
use Rattle.settling.proofs.Settled.{Settles, settles}
use borrow.Author.Rules.{rules}
use Rattle.settling.proofs.settle_good.Goals as goal
use Rattle.settling.proofs.settle_good.Goals.{After-run-ended}

known : (c : After-run-ended) → Settles c.args.input.now c.args.shape c.run-ended.result.course.answer c.run-ended.result.party
known c =
    settles c.args.input.now c.args.shape c.run-ended.result.course c.run-ended.result.party c.requires.0 c.run-ended.ensures.1 c.run-ended.ensures.2

pub returns-then-index-eq0 : goal.returns-then-index-eq0
returns-then-index-eq0 c =
    wrote_same (sym ((known (goal.at.returns-then-index-eq0 c).After-run-ended).no_price c.if-index-eq0.true)) (c.write_no_price.ensures.0 (omega (arith, c.requires.1)))

pub overflow_mul-told : goal.overflow_mul-told
overflow_mul-told c = search (rules, (known (goal.at.overflow_mul-told c).After-run-ended).few_bids)

pub slice_bounds-entries-end : goal.slice_bounds-entries-end
slice_bounds-entries-end c = search (rules, (known (goal.at.slice_bounds-entries-end c).After-run-ended).few_bids)

pub slice_bounds-enter_bids-end : goal.slice_bounds-enter_bids-end
slice_bounds-enter_bids-end c =
    sym (length-take-le _ _ (search (rules, (known (goal.at.slice_bounds-enter_bids-end c).After-run-ended).few_bids)))

pub enter_bids-requires : goal.enter_bids-requires
enter_bids-requires c =
    let K = known (goal.at.enter_bids-requires c).After-run-ended in
    (pos_of_ne-zero c.if-index-eq0.false, K.within, K.few_prices, length-take-le _ _ (search (rules, K.few_bids)))

pub returns : goal.returns
returns c =
    let a = c.args in
    let K = known (goal.at.returns c).After-run-ended in
    let some : 0 < c.run-ended.result.course.answer = pos_of_ne-zero c.if-index-eq0.false in
    let page =
    K.page some c.price_at-price.result _ a.out.now c.price_at-price.ensures
    (ap₂ (λ (x y : List ℕ). x ++ y)
    c.enter_bids.ensures
    (ap (drop (4 * a.shape.bids)) c.no_entries-entries.ensures ∙ zeros_left 4000 (4 * a.shape.bids)))
    c.requires.1 in
    wrote_same page.1 (c.write_page.ensures page.0)
