-- `open_amount` meets its contract: the words open to the first sum, where the sums that are left are 0. Assumes nothing.
use Rattle.std.specs.Prelude.{None, Some}
use mathlib.Core.Path.{◌≡◌, sym, ap, ◌∙◌}
use mathlib.Core.Bool.{Bool, true, cond}
use mathlib.Core.List.{List}
use Prim.Native.Nat.{ℕ, ◌-◌, ◌≤◌}
use native.Mathlib.Omega.{arith}
use lib.Dec.{eqb}
use lib.ListN.{length, take}
use lib.Seq.{length-take-le}
use borrow.Author.Rules.{rules}
use borrow.Author.Tests.{tests}
use Rattle.std.specs.Bool.{then_some}
use Rattle.std.specs.List.{list_all, range_with_len}
use Rattle.std.proofs.lemmas.Iterator.{YieldsList-from_range, serves_from_Range}
use Rattle.std.proofs.lemmas.Iterator.Search.{all_from_yields_List}
use Rattle.fields.specs.Amount.{p, amounts}
use Rattle.sharing.specs.Scheme.{threshold, points}
use Rattle.weights.specs.Rows.{amount_scheme}
use Rattle.openings.specs.Opening.{moments, readable, opened}
use Rattle.openings.proofs.Settled.{Readable, read, some_where}
use Rattle.openings.proofs.Sums.{vanish, sum, all_tested, unreadable, begun}
use Rattle.openings.proofs.amount.open_amount.Goals as goal
use Rattle.openings.proofs.amount.open_amount.Goals.{After-all-silent, After-weighted-weighted, Else-not-readable}

pub returns-then-not-readable : goal.returns-then-not-readable
returns-then-not-readable c = sym (unreadable amount_scheme _ _ (sym c.readable.ensures ∙ c.if-not-readable.true))

-- the words were found readable
passed : (c : Else-not-readable) → readable p c.args.n c.args.words.now ≡ true
passed c = sym c.readable.ensures ∙ c.if-not-readable.false

good : (c : Else-not-readable) → Readable p c.args.n c.args.words.now
good c = read p _ _ (passed c)

pub weighted-weighted-requires : goal.weighted-weighted-requires
weighted-weighted-requires c = let G = good c in (G.least, G.most, G.long)

-- the terms that are lent
module _ (c : After-weighted-weighted) (G : Readable p c.args.n c.args.words.now) where
  fit : c.args.n ≤ length c.weighted-weighted.result
  fit = omega (arith, c.weighted-weighted.type_inv, G.most)

  whole : length (take c.args.n c.weighted-weighted.result) ≡ c.args.n
  whole = length-take-le c.args.n c.weighted-weighted.result fit

  few : length (take c.args.n c.weighted-weighted.result) ≤ 9
  few = omega (arith, whole, G.most)

pub slice_bounds-weighted-end : goal.slice_bounds-weighted-end
slice_bounds-weighted-end c = fit c (good (goal.at.slice_bounds-weighted-end c).Else-not-readable)

pub slice_bounds-terms-end : goal.slice_bounds-terms-end
slice_bounds-terms-end c =
    let s = goal.at.slice_bounds-terms-end c in sym (whole s.After-weighted-weighted (good s.Else-not-readable))

pub all-silent-requires-clause-callable : goal.all-silent-requires-clause-callable
all-silent-requires-clause-callable c =
    let s = goal.at.all-silent-requires-clause-callable c in
    serves_from_Range (λ x q k. search rules)
    (λ x lo hi.
    let lent : length (take c.args.n c.weighted-weighted.result) ≤ 9 = few s.After-weighted-weighted (good s.Else-not-readable) in
    let power : x ≤ 4 = omega (arith, (good s.Else-not-readable).most, c.threshold.ensures) in
    search (rules, lent, power))

-- by the terms, whether the sums after the first are all 0, and what the words open to
module _ (c : After-all-silent) (w : length (take c.args.n c.weighted-weighted.result) ≡ c.args.n) (R : readable p c.args.n c.args.words.now ≡ true) where
  abbrev n : ℕ
  n = c.args.n

  abbrev terms : List ℕ
  terms = take n c.weighted-weighted.result

  least : 3 ≤ n
  least = (read p _ c.args.words.now R).least

  tested : c.all-silent.result ≡ vanish amounts (points n) (n - 1 - threshold n) terms
  tested =
      all_from_yields_List (λ (j : ℕ). eqb (sum amounts (points (length terms)) terms j) 0) _ _ _ c.all-silent.ensures.ran
      (YieldsList-from_range 1 (n - c.threshold.result) (n - 1 - threshold n) (cc) (omega (arith, c.threshold.ensures))) (λ x b q k. search (rules, tests))
      ∙ ap (λ (k : ℕ). list_all (λ (j : ℕ). eqb (sum amounts (points k) terms j) 0) (range_with_len 1 (n - 1 - threshold n))) w
      ∙ all_tested amounts (points n) (n - 1 - threshold n) terms

  opens : (v : ℕ) → v ≡ sum amounts (points (length terms)) terms 0 → then_some c.all-silent.result v ≡ opened amount_scheme n c.args.words.now
  unfolding moments
  opens v e =
      some_where _ v ∙ ap (λ (b : Bool). cond b (Some v) None) tested
      ∙ sym (begun amount_scheme _ _ terms v R least c.weighted-weighted.ensures (e ∙ ap (λ (k : ℕ). sum amounts (points k) terms 0) w))

pub moment-requires : goal.moment-requires
moment-requires c =
    let s = goal.at.moment-requires c in (few s.After-weighted-weighted (good s.Else-not-readable), omega arith)

pub returns : goal.returns
returns c =
    let s = goal.at.returns c in
    c.then_some.ensures ∙ opens s.After-all-silent (whole s.After-weighted-weighted (good s.Else-not-readable)) (passed s.Else-not-readable) _ c.moment.ensures
