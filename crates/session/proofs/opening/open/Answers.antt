-- `open` meets its contract: each early return answers one test of the list, before anything is written. Assumes nothing.
use mathlib.Core.Path.{◌≡◌, sym, ap, ap₂, ◌∙◌}
use mathlib.Core.Bool.{Bool, false, not, ◌&&◌}
use Prim.Native.Nat.{ℕ, ◌≤◌}
use native.Mathlib.Omega.{arith}
use lib.ListN.{replicate}
use borrow.Author.Tests.{not-false, eq-eqb, ne_eqb}
use Rattle.ranges.specs.Sizes.{party, listed}
use Rattle.ways.specs.Way.{is_way}
use Rattle.ranges.proofs.Loops.{and-true}
use Rattle.session.specs.Open.{open_judgement}
use Rattle.search.specs.Bracket.{start}
use Rattle.search.specs.Searches.{first_search}
use Rattle.record.specs.Updates.{fresh}
use Rattle.refusal.proofs.Judging.{refuses, passes, all_passed, kept_new, kept_old}
use Rattle.record.proofs.Replies.{next_accepted, next_refused}
use Rattle.ranges.proofs.Ranges.{on_list}
use Rattle.session.proofs.opening.open.Goals as goal
use Rattle.session.proofs.opening.open.Goals.{Else-not-on_list-is_way}

who : (whose way : Bool) (n own k last : ℕ) → whose ≡ (party n own && listed k) → way ≡ is_way last
    → not (party n own && listed k && is_way last) ≡ not (whose && way)
who whose way n own k last e f = ap not (ap₂ ◌&&◌ (sym e) (sym f))

ranged : (c : Else-not-on_list-is_way) → not (party c.args.n c.args.own && listed c.args.k && is_way c.args.last) ≡ false
ranged c = who _ _ _ _ _ _ c.on_list.ensures c.is_way.ensures ∙ c.if-not-on_list-is_way.false-raw

few : (c : Else-not-on_list-is_way) → c.args.k ≤ 1024
few c = (on_list _ _ _ (and-true _ _ (not-false _ (ranged c))).0).prices_most

pub returns-then-not-on_list-is_way : goal.returns-then-not-on_list-is_way
unfolding open_judgement
returns-then-not-on_list-is_way c =
    let j = refuses _ _ _ (who _ _ _ _ _ _ c.on_list.ensures c.is_way.ensures ∙ c.if-not-on_list-is_way.true-raw) in
    (c.refused.ensures ∙ rw c.blank.ensures (sym (next_refused _ _ _ _ j)), sym (kept_old _ _ _ _ j))

pub overflow_mul-k : goal.overflow_mul-k
overflow_mul-k c = omega (arith, few c)

pub returns-then-totals-k : goal.returns-then-totals-k
unfolding open_judgement
returns-then-totals-k c =
    let j = passes _ _ _ (ranged (goal.at.returns-then-totals-k c).Else-not-on_list-is_way) ∙ refuses _ _ _ (ap not (ne_eqb _ _ c.if-totals-k.true)) in
    (c.refused-then-totals-k.ensures ∙ rw c.blank-then-totals-k.ensures (sym (next_refused _ _ _ _ j)), sym (kept_old _ _ _ _ j))

pub overflow_add-hi : goal.overflow_add-hi
overflow_add-hi c = omega (arith, few (goal.at.overflow_add-hi c).Else-not-on_list-is_way)

pub returns : goal.returns
unfolding open_judgement fresh first_search start
returns c =
    let j = passes _ _ _ (ranged (goal.at.returns c).Else-not-on_list-is_way) ∙ passes _ _ _ (ap not (eq-eqb _ _ c.if-totals-k.false)) ∙ all_passed in
    (c.accepted.ensures ∙ rw (c.empty.ensures, c.none.ensures) (sym (next_accepted _ _ _ j)), c.fill.ensures.after (λ y e. e) ∙ ap (λ (m : ℕ). replicate m 0) c.if-totals-k.false ∙ sym (kept_new _ _ _ j))
