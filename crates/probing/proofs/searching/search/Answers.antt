-- `search` meets its contract: the probes made are noted, in every auction in which the parties may stand. Assumes nothing.
use mathlib.Core.Path.{◌≡◌, refl, sym, ap, ap₂, subst, ◌∙◌}
use mathlib.Core.Bool.{false, not}
use Prim.Native.Nat.{◌<◌}
use native.Mathlib.Omega.{arith}
use lib.Dec.{ltb}
use borrow.Author.Tests.{ltb-true, not-true}
use Rattle.ranges.proofs.Loops.{and_left, and_right}
use lib.ListN.{length, get_or, length-set}
use Rattle.search.specs.Bracket.{middle}
use Rattle.search.specs.Searches.{finished}
use Rattle.record.specs.declared.Party.{Party}
use Rattle.record.specs.Record.{blank}
use Rattle.panel.proofs.Parts.{getD_there}
use Rattle.session.specs.Answer.{answer_reply}
use Rattle.auction.specs.Demands.{FleetTold}
use Rattle.total_rounds.proofs.Closing.{stopped}
use Rattle.listing.specs.Lines.{most_listed}
use Rattle.probing.specs.Follows.{priced, verdict_read}
use Rattle.probing.proofs.Leading.{led_start, led_more, led_over, follows, told}
use borrow.Author.Rules.{rules}
use Rattle.probing.proofs.searching.search.Goals as goal
use Rattle.probing.proofs.searching.search.Goals.{In-loop-done}

inside : (c : In-loop-done) → c.loop-done.done < most_listed
inside c =
    let l = c.loop-done in
    ltb-true l.done most_listed (and_left (ltb l.done most_listed) c.going.result c.loop-done-test.true)

pub loop-done-init : goal.loop-done-init
loop-done-init c = (omega arith, search rules, search rules, λ bids d A C H. led_start _ _ bids d A C _ _ _ _ H)

pub bounds-trail-done : goal.bounds-trail-done
bounds-trail-done c = omega (arith, inside (goal.at.bounds-trail-done c).In-loop-done, c.loop-done.invariant.1)

pub loop-done-smaller : goal.loop-done-smaller
loop-done-smaller c = omega (arith, inside (goal.at.loop-done-smaller c).In-loop-done)

pub loop-done-preserved : goal.loop-done-preserved
loop-done-preserved c =
    let l = c.loop-done in
    let a = c.args in
    let h : l.done < most_listed = inside (goal.at.loop-done-preserved c).In-loop-done in
    let after = c.probe-after in
    let long : length after.result ≡ 9 = search rules in
    let here = getD_there l.here 0 _ blank (omega (arith, l.invariant.2)) in
    let next = getD_there after.result 0 _ blank (omega arith) in
    let on = not-true _ (sym c.going.ensures ∙ and_right (ltb l.done most_listed) c.going.result c.loop-done-test.true) in
    let g : finished (get_or l.here 0 blank).search ≡ false = ap (λ (q : Party). finished q.search) (sym here) ∙ on in (
      omega arith,
      simp length-set l.invariant.1,
      long,
      λ bids d A C H.
          led_more a.n a.k bids d A C a.totals.now a.sheets.now l.here after.result l.trail l.done
          (l.invariant.3 bids d A C H) g after.ensures _ (c.probed.ensures ∙ ap (λ (q : Party). middle q.search.bracket) here)
          (c.decided.ensures ∙ ap₂ (λ (q r : Party). verdict_read q.search r.search) here next) (omega (arith, h, l.invariant.1)),
    )

pub returns : goal.returns
returns c =
    let l = c.loop-done in
    let a = c.args in
    let closed = c.open_totals-closed in
    let long : length closed.result ≡ 9 = search rules in
    let last = getD_there closed.result 0 _ blank (omega arith) in
    let here = getD_there l.here 0 _ blank (omega (arith, l.invariant.2)) in
    let told_on = c.going.ensures ∙ ap (λ (q : Party). not (finished q.search)) here in (
      l.invariant.0,
      λ bids d A C H.
          let L = l.invariant.3 bids d A C H in
          let over =
          led_over a.n a.k bids d A C a.totals.now a.sheets.now l.here l.trail l.done L c.requires.1
          (stopped l.done most_listed c.going.result _ c.loop-done-test.false told_on) in (
            follows a.n a.k bids d A C a.totals.now a.sheets.now l.here closed.result l.trail l.done L over
                closed.ensures _ refl refl (c.price-answer.ensures ∙ ap (λ (q : Party). priced (answer_reply q)) last)
                (ap (λ (q : Party). q.demand) last) (ap (λ (q : Party). q.supply) last),
            subst (FleetTold _) (sym last) (told a.n a.k bids d A C a.totals.now a.sheets.now l.here closed.result l.trail l.done L over closed.ensures),
          ),
    )
