-- `table_fault` meets its contract: each return answers one test of the definition. Assumes nothing.
use Rattle.std.specs.Prelude.{Err}
use mathlib.Core.Path.{◌≡◌, sym, ap, ◌∙◌}
use Prim.Native.Nat.{ℕ, ◌+◌, ◌-◌}
use native.Mathlib.Omega.{arith}
use lib.Dec.{leb}
use lib.ListN.{length, take, drop, length-drop}
use lib.Seq.{length-take-le, take_all}
use Rattle.ranges.specs.Steps.{bend}
use Rattle.ranges.proofs.Bends.{bend_most}
use Rattle.bid.specs.Table.{most}
use Rattle.refusal.specs.declared.Refusal.TheVariants.{AmountTooLarge, NotMonotone}
use Rattle.sections.specs.Sections.{at_line, passed, unless}
use Rattle.sections.proofs.Counts.{passed_most}
use Rattle.sections.proofs.Tables.{large, rises, falls, formed_table}
use Rattle.sections.proofs.table.table_fault.Goals as goal
use Rattle.sections.proofs.table.table_fault.Goals.{After-first_bend-demand, After-first_bend-supply, After-first_large-small, Else-demand-half, Else-small-table, Start}

-- the counts, each by its definition
amounts : (c : After-first_large-small) → c.first_large-small.result ≡ passed (λ a. leb a most) c.args.table.now
amounts c = c.first_large-small.ensures

demand : (c : After-first_bend-demand) → c.first_bend-demand.result ≡ bend (λ x y. leb y x) (take c.args.half c.args.table.now)
demand c = c.first_bend-demand.ensures

supply : (c : After-first_bend-supply) → c.first_bend-supply.result ≡ bend leb (drop c.args.half c.args.table.now)
supply c =
    let a = c.args in
    c.first_bend-supply.ensures
    ∙ ap (bend leb) (take_all (length a.table.now - a.half) (drop a.half a.table.now) (omega (arith, length-drop a.half a.table.now)))

-- the tests that were passed
amounts_all : (c : Else-small-table) → passed (λ a. leb a most) c.args.table.now ≡ length c.args.table.now
amounts_all c = sym c.first_large-small.ensures ∙ c.if-small-table.false

half_length : (c : Start) → length (take c.args.half c.args.table.now) ≡ c.args.half
half_length c = length-take-le _ _ c.requires.0

demand_all : (c : Else-demand-half) → bend (λ x y. leb y x) (take c.args.half c.args.table.now)
    ≡ length (take c.args.half c.args.table.now)
demand_all c = sym c.first_bend-demand.ensures ∙ c.if-demand-half.false ∙ sym (length-take-le _ _ c.requires.0)

pub overflow_add-line : goal.overflow_add-line
overflow_add-line c =
    omega (arith, passed_most (λ a. leb a most) c.args.table.now, amounts (goal.at.overflow_add-line c).After-first_large-small, c.requires)

pub returns-then-small-table : goal.returns-then-small-table
returns-then-small-table c =
    let a = c.args in
    ap Err c.new.ensures
    ∙ ap (λ (r : ℕ). Err (at_line AmountTooLarge (a.line + r))) (amounts (goal.at.returns-then-small-table c).After-first_large-small)
    ∙ sym (ap (λ f. unless f tt) (large a.half a.line a.table.now (λ e. c.if-small-table.true (amounts (goal.at.returns-then-small-table c).After-first_large-small ∙ e))))

pub slice_bounds-first_bend-end : goal.slice_bounds-first_bend-end
slice_bounds-first_bend-end c = sym (length-take-le _ _ c.requires.0)

pub overflow_add-line-then-demand-half : goal.overflow_add-line-then-demand-half
overflow_add-line-then-demand-half c =
    omega (arith, bend_most (λ x y. leb y x) (take c.args.half c.args.table.now), demand (goal.at.overflow_add-line-then-demand-half c).After-first_bend-demand, half_length (goal.at.overflow_add-line-then-demand-half c).Start, c.requires)

pub returns-then-demand-half : goal.returns-then-demand-half
returns-then-demand-half c =
    let a = c.args in
    ap Err c.new-then-demand-half.ensures
    ∙ ap (λ (r : ℕ). Err (at_line NotMonotone (a.line + r))) (demand (goal.at.returns-then-demand-half c).After-first_bend-demand)
    ∙ sym (ap (λ f. unless f tt) (rises a.half a.line a.table.now (amounts_all (goal.at.returns-then-demand-half c).Else-small-table) (λ e. c.if-demand-half.true (demand (goal.at.returns-then-demand-half c).After-first_bend-demand ∙ e ∙ half_length (goal.at.returns-then-demand-half c).Start))))

pub overflow_add-half : goal.overflow_add-half
overflow_add-half c =
    omega (arith, bend_most leb (drop c.args.half c.args.table.now), supply (goal.at.overflow_add-half c).After-first_bend-supply, length-drop c.args.half c.args.table.now, c.requires)

pub overflow_add-line-then-supply-table : goal.overflow_add-line-then-supply-table
overflow_add-line-then-supply-table c =
    omega (arith, bend_most leb (drop c.args.half c.args.table.now), supply (goal.at.overflow_add-line-then-supply-table c).After-first_bend-supply, length-drop c.args.half c.args.table.now, c.requires)

pub returns-then-supply-table : goal.returns-then-supply-table
returns-then-supply-table c =
    let a = c.args in
    ap Err c.new-then-supply-table.ensures
    ∙ ap (λ (r : ℕ). Err (at_line NotMonotone (a.line + (a.half + r)))) (supply (goal.at.returns-then-supply-table c).After-first_bend-supply)
    ∙ sym
    (ap (λ f. unless f tt) (falls a.half a.line a.table.now (amounts_all (goal.at.returns-then-supply-table c).Else-small-table) (demand_all (goal.at.returns-then-supply-table c).Else-demand-half)
    (λ e. c.if-supply-table.true (supply (goal.at.returns-then-supply-table c).After-first_bend-supply ∙ e ∙ length-drop a.half a.table.now))))

pub returns : goal.returns
returns c =
    let a = c.args in
    sym
    (ap (λ f. unless f tt) (formed_table a.half a.line a.table.now (amounts_all (goal.at.returns c).Else-small-table) (demand_all (goal.at.returns c).Else-demand-half)
    (sym (supply (goal.at.returns c).After-first_bend-supply) ∙ c.if-supply-table.false ∙ sym (length-drop a.half a.table.now))))
