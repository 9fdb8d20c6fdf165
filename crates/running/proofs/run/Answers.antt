-- `run` meets its contract. Assumes nothing.
use mathlib.Core.Path.{sym, ap, ◌∙◌}
use Prim.Native.Nat.{ℕ, ◌*◌, ◌≤◌}
use native.Mathlib.Omega.{arith}
use lib.ListN.{length}
use lib.Seq.{length-take-le}
use Rattle.panel.proofs.Parts.{sheets_eighteen}
use Rattle.running.proofs.Accepted.{good_runs}
use borrow.Author.Rules.{rules}
use Rattle.running.proofs.run.Goals as goal
use Rattle.running.proofs.run.Goals.{After-most_probes, After-no_sheets-sheets, After-totals-1}

-- the sheets are few, and fit their room
few_sheets : (c : After-most_probes) → c.most_probes.result ≤ 18
few_sheets c = omega (arith, c.most_probes.ensures, sheets_eighteen c.args.shape.k (good_runs c.args.input.now c.args.shape c.requires).few_prices)

lent : (c : After-most_probes) → c.args.shape.n * (127 * c.most_probes.result) ≤ 20574
lent c = rw c.most_probes.ensures (good_runs c.args.input.now c.args.shape c.requires).lent

-- both rooms are long enough
totals_fit : (c : After-no_sheets-sheets) → c.args.shape.n * (2 * c.args.shape.k) ≤ length c.no_totals-totals.result
totals_fit c = search (rules, (good_runs c.args.input.now c.args.shape c.requires).held)

sheets_fit : (c : After-totals-1) → c.args.shape.n * (127 * c.most_probes.result) ≤ length c.no_sheets-sheets.result
sheets_fit c =
    let l : c.args.shape.n * (127 * c.most_probes.result) ≤ 20574 = rw c.most_probes.ensures (good_runs c.args.input.now c.args.shape c.requires).lent in
    search (rules, l)

pub overflow_mul-held : goal.overflow_mul-held
overflow_mul-held c = search (rules, (good_runs c.args.input.now c.args.shape c.requires).few_prices)

pub overflow_mul-held-2 : goal.overflow_mul-held-2
overflow_mul-held-2 c = search (rules, (good_runs c.args.input.now c.args.shape c.requires).held)

pub overflow_mul-lent : goal.overflow_mul-lent
overflow_mul-lent c = search (rules, few_sheets c)

pub overflow_mul-lent-2 : goal.overflow_mul-lent-2
overflow_mul-lent-2 c = search (rules, lent c)

pub slice_bounds-totals-end : goal.slice_bounds-totals-end
slice_bounds-totals-end c = totals_fit c

pub slice_bounds-hold-end : goal.slice_bounds-hold-end
slice_bounds-hold-end c =
    sym (length-take-le _ _ (totals_fit (goal.at.slice_bounds-hold-end c).After-no_sheets-sheets))

pub slice_bounds-sheets-end : goal.slice_bounds-sheets-end
slice_bounds-sheets-end c = sheets_fit c

pub slice_bounds-hold-end-2 : goal.slice_bounds-hold-end-2
slice_bounds-hold-end-2 c = sym (length-take-le _ _ (sheets_fit (goal.at.slice_bounds-hold-end-2 c).After-totals-1))

pub hold-requires : goal.hold-requires
hold-requires c =
    let r = good_runs c.args.input.now c.args.shape c.requires in (
      r.few_prices,
      r.few_bids,
      r.an_auction,
      length-take-le _ _ (totals_fit (goal.at.hold-requires c).After-no_sheets-sheets),
      length-take-le _ _ (sheets_fit (goal.at.hold-requires c).After-totals-1) ∙ ap (λ (z : ℕ). c.args.shape.n * (127 * z)) c.most_probes.ensures,
    )

pub returns : goal.returns
returns c = c.hold.ensures
