-- `open_totals` meets its contract: rounds are made to the end of every auction in which the parties may stand. Assumes nothing.
use mathlib.Core.Path.{◌≡◌, refl, sym, ap, ◌∙◌}
use mathlib.Core.Bool.{false, true, true≢false}
use native.Mathlib.Omega.{arith}
use lib.ListN.{get_or}
use Rattle.record.specs.Record.{ended, blank}
use Rattle.panel.proofs.Parts.{getD_there}
use Rattle.auction.proofs.Whole.{end_over}
use Rattle.total_rounds.proofs.Closing.{closing_start, closing_more, closing_end}
use borrow.Author.Rules.{rules}
use Rattle.total_rounds.proofs.open_totals.Goals as goal

pub loop-init : goal.loop-init
loop-init c = (search rules, λ bids d A C H. closing_start _ d A refl _ _ C _ H)

pub loop-preserved : goal.loop-preserved
loop-preserved c =
    let l = c.loop in
    let a = c.args in
    let first = getD_there l.here 0 _ blank (omega (arith, l.invariant.0)) in
    let going : ended (get_or l.here 0 blank) ≡ false = ap ended (sym first) ∙ sym c.ended.ensures ∙ c.if-ended.false in (
      search rules,
      λ bids d A C H.
          closing_more _ d A refl a.totals.now a.sheets.now _ (end_over _ d A C 1) l.here l.counter (l.invariant.1 bids d A C H) going c.round-here.result c.round-here.ensures,
    )

pub returns-then-ended : goal.returns-then-ended
returns-then-ended c =
    let l = c.loop in
    let a = c.args in
    let first = getD_there l.here 0 _ blank (omega (arith, l.invariant.0)) in
    let over : ended (get_or l.here 0 blank) ≡ true = ap ended (sym first) ∙ sym c.ended.ensures ∙ c.if-ended.true in
    λ bids d A C H.
    closing_end _ d A refl a.totals.now a.sheets.now _ (end_over _ d A C 1) l.here l.counter (l.invariant.1 bids d A C H)
    (λ going. absurd (true≢false (sym over ∙ going)))

pub returns : goal.returns
returns c =
    let l = c.loop in
    let a = c.args in
    λ bids d A C H.
    closing_end _ d A refl a.totals.now a.sheets.now _ (end_over _ d A C 1) l.here l.counter (l.invariant.1 bids d A C H) (λ going. omega (arith, c.loop-test.false))
