-- `judge_lent` meets its contract: each return answers one test of the list. Assumes nothing.
use mathlib.Core.Path.{◌≡◌, sym, ap, ap₂, ◌∙◌}
use mathlib.Core.List.{List}
use mathlib.Core.Bool.{Bool, true, false, not, ◌&&◌}
use Prim.Native.Nat.{ℕ, ◌-◌, ◌*◌}
use native.Mathlib.Omega.{arith}
use lib.Dec.{leb, ltb, eqb}
use lib.ListN.{length, take, drop, length-drop}
use lib.Seq.{length-take-le, take_all}
use Rattle.fields.specs.Amount.{p}
use Rattle.ranges.specs.Lists.{every}
use Rattle.ranges.specs.Steps.{in_order, steps, bend, never_rising, never_falling}
use Rattle.ranges.proofs.Bends.{steps_by_bend}
use Rattle.refusal.proofs.Judging.{refuses, passes, all_passed}
use Rattle.bid.specs.Table.{most, monotone}
use Rattle.bid.proofs.judge_lent.Goals as goal
use Rattle.bid.proofs.judge_lent.Goals.{After-first_bend-2, Else-not-is_small}

-- as many amounts as the length stand before the first bend exactly where there is none
no_bend : (rising : Bool) (part : List ℕ) (r k : ℕ) → r ≡ bend (in_order rising) part → length part ≡ k → eqb r k ≡ steps (in_order rising) part
no_bend rising part r k e l = ap₂ eqb e (sym l) ∙ steps_by_bend (in_order rising) part

-- in both halves
halves : (k : ℕ) (table : List ℕ) (r s : ℕ) → length table ≡ 2 * k → r ≡ bend (in_order false) (take k table)
    → s ≡ bend (in_order true) (take (length table - k) (drop k table)) → eqb r k && eqb s k ≡ never_rising (take k table) && never_falling (drop k table)
halves k table r s l e f =
    let rest = take_all (length table - k) (drop k table) (omega (arith, length-drop k table)) in
    ap₂ ◌&&◌ (no_bend false (take k table) r k e (length-take-le _ _ (omega (arith, l))))
    (no_bend true (drop k table) s k (f ∙ ap (bend (in_order true)) rest) (length-drop k table ∙ omega (arith, l)))

-- the coins are in range
drawn : (c : After-first_bend-2) → not (every (λ x. ltb x p) c.args.coins.now) ≡ false
drawn c =
    ap not (sym c.all_below.ensures) ∙ c.if-not-all_below.false-raw

-- and the amounts
small : (c : Else-not-is_small) → not (every (λ a. leb a most) c.args.table.now) ≡ false
small c = ap not (sym c.is_small.ensures) ∙ c.if-not-is_small.false-raw

walked : (c : After-first_bend-2) → eqb c.first_bend.result c.args.half && eqb c.first_bend-2.result c.args.half
    ≡ never_rising (take c.args.half c.args.table.now) && never_falling (drop c.args.half c.args.table.now)
walked c = halves c.args.half c.args.table.now _ _ c.requires.1 c.first_bend.ensures c.first_bend-2.ensures

ordered : (c : After-first_bend-2) → eqb c.first_bend.result c.args.half && eqb c.first_bend-2.result c.args.half
    ≡ monotone c.args.half c.args.table.now
unfolding monotone
ordered c = walked c

pub returns-then-not-all_below : goal.returns-then-not-all_below
returns-then-not-all_below c = sym (refuses _ _ _ (ap not (sym c.all_below.ensures) ∙ c.if-not-all_below.true-raw))

pub slice_bounds-first_bend-end : goal.slice_bounds-first_bend-end
slice_bounds-first_bend-end c = sym (length-take-le _ _ (omega (arith, c.requires.1)))

pub is_small-requires : goal.is_small-requires
is_small-requires c = (c.requires.0, c.requires.1, walked c)

pub returns-then-not-is_small : goal.returns-then-not-is_small
returns-then-not-is_small c =
    sym (passes _ _ _ (drawn (goal.at.returns-then-not-is_small c).After-first_bend-2) ∙ refuses _ _ _ (ap not (sym c.is_small.ensures) ∙ c.if-not-is_small.true-raw))

pub returns-then-not-in_order : goal.returns-then-not-in_order
returns-then-not-in_order c =
    sym
    (passes _ _ _ (drawn (goal.at.returns-then-not-in_order c).After-first_bend-2) ∙ passes _ _ _ (small (goal.at.returns-then-not-in_order c).Else-not-is_small)
    ∙ refuses _ _ _ (ap not (sym (ordered (goal.at.returns-then-not-in_order c).After-first_bend-2)) ∙ c.if-not-in_order.true-raw))

pub returns : goal.returns
returns c =
    sym
    (passes _ _ _ (drawn (goal.at.returns c).After-first_bend-2) ∙ passes _ _ _ (small (goal.at.returns c).Else-not-is_small)
    ∙ passes _ _ _ (ap not (sym (ordered (goal.at.returns c).After-first_bend-2)) ∙ c.if-not-in_order.false-raw) ∙ all_passed)
