-- `totals_at` meets its contract: the index is on the list. Assumes nothing.
use mathlib.Core.Path.{◌≡◌, ap}
use Prim.Native.Nat.{ℕ, ◌+◌, ◌-◌, ◌≤◌}
use native.Mathlib.Omega.{arith}
use lib.ListN.{get_or}
use Rattle.record.proofs.Soundness.{sound_facts}
use Rattle.message.specs.Message.{index}
use Rattle.message.proofs.Sheets.{index_on_list}
use Rattle.message.proofs.word.totals_at.Goals as goal
use Rattle.message.proofs.word.totals_at.Goals.{After-index}

facts : (c : After-index) → (1 ≤ index c.args.q) × (index c.args.q ≤ c.args.q.k)
facts c = index_on_list c.args.q (sound_facts c.args.q c.requires.0) c.requires.1

few : (c : After-index) → c.args.q.k ≤ 1024
few c = (sound_facts _ c.requires.0).listed.prices_most

pub overflow_sub-at : goal.overflow_sub-at
overflow_sub-at c = omega (arith, c.index.ensures, (facts c).0)

pub offset_bounds-totals-at : goal.offset_bounds-totals-at
offset_bounds-totals-at c =
    let here = (goal.at.offset_bounds-totals-at c).After-index in
    omega (arith, c.index.ensures, (facts here).1, few here)

pub bounds-totals-at : goal.bounds-totals-at
bounds-totals-at c =
    let here = (goal.at.bounds-totals-at c).After-index in
    omega (arith, c.index.ensures, (facts here).0, (facts here).1, c.requires.2)

pub overflow_add-result : goal.overflow_add-result
overflow_add-result c =
    let here = (goal.at.overflow_add-result c).After-index in
    omega (arith, c.index.ensures, (facts here).1, few here)

pub offset_bounds-totals-q : goal.offset_bounds-totals-q
offset_bounds-totals-q c =
    let here = (goal.at.offset_bounds-totals-q c).After-index in
    omega (arith, c.index.ensures, (facts here).1, few here)

pub bounds-totals-q : goal.bounds-totals-q
bounds-totals-q c =
    let here = (goal.at.bounds-totals-q c).After-index in
    omega (arith, c.index.ensures, (facts here).0, (facts here).1, c.requires.2)

pub returns-clause-demand : goal.returns-clause-demand
returns-clause-demand c = ap (λ (i : ℕ). get_or c.args.totals.now (i - 1) 0) c.index.ensures

pub returns-clause-supply : goal.returns-clause-supply
returns-clause-supply c =
    let here = (goal.at.returns-clause-supply c).After-index in
    let place : c.args.q.k + (c.index.result - 1) ≡ c.args.q.k + index c.args.q - 1 = omega (arith, c.index.ensures, (facts here).0) in
    ap (λ (i : ℕ). get_or c.args.totals.now i 0) place
