-- `say_all` meets its contract: the first i parties have said their words. Assumes nothing.
use mathlib.Core.Path.{◌≡◌, refl, ap₂, ◌∙◌}
use mathlib.Core.List.{List}
use Prim.Native.Nat.{ℕ, ◌+◌, ◌-◌, ◌*◌, ◌≤◌, ◌<◌}
use native.Mathlib.Omega.{arith}
use lib.ListN.{length}
use Rattle.record.specs.declared.Party.{Party}
use Rattle.record.specs.Record.{blank}
use Rattle.saying.specs.Say.{say_left}
use Rattle.panel.specs.Parties.{part}
use Rattle.panel_rounds.specs.Round.{said_by}
use Rattle.panel.proofs.Parts.{room, spread_start, spread_more, lent, getD_there}
use borrow.Author.Rules.{rules}
use Rattle.panel_rounds.proofs.rounds.say_all.Goals as goal
use Rattle.panel_rounds.proofs.rounds.say_all.Goals.{In-loop-i}

-- there is room for a part more
fits : (c : In-loop-i) → c.loop-i.i * c.args.width + c.args.width ≤ length c.loop-i.messages
fits c =
    let l = c.loop-i in
    omega (arith, room c.args.width c.args.n l.i c.loop-i-test.true, l.invariant.long, c.requires.4)

pub loop-i-init : goal.loop-i-init
loop-i-init c = spread_start _ _ _ _

pub overflow_mul-at : goal.overflow_mul-at
overflow_mul-at c = omega (arith, fits c, c.well_formed)

pub overflow_add-next : goal.overflow_add-next
overflow_add-next c = omega (arith, fits c, c.well_formed)

pub offset_bounds-messages-at : goal.offset_bounds-messages-at
offset_bounds-messages-at c = search (rules, fits (goal.at.offset_bounds-messages-at c).In-loop-i)

pub slice_bounds-say_one-end : goal.slice_bounds-say_one-end
slice_bounds-say_one-end c = search (rules, fits (goal.at.slice_bounds-say_one-end c).In-loop-i)

pub say_one-requires : goal.say_one-requires
say_one-requires c =
    let i = c.loop-i.i in
    let h = c.loop-i-test.true in (
      c.requires.1,
      omega (arith, h, c.requires.0),
      omega (arith, room (2 * c.args.k) c.args.n i h, c.requires.2),
      omega (arith, room c.args.lent c.args.n i h, c.requires.3),
    )

pub loop-i-preserved : goal.loop-i-preserved
unfolding said_by
loop-i-preserved c =
    let l = c.loop-i in
    let a = c.args in
    let h : l.i < a.n = c.loop-i-test.true in
    let q = getD_there a.parties l.i _ blank (omega (arith, c.well_formed, c.requires.0, h)) in
    let at : ℕ = l.i * a.width in
    let k : at + a.width - at ≡ a.width = omega arith in
    let p = lent a.width a.n _ a.messages.now l.messages l.i at _ l.invariant h refl k in
    spread_more a.width a.n _ a.messages.now l.messages l.i at _ _ l.invariant c.requires.4 h refl k c.messages-1.given.0
    (c.say_one.ensures
    ∙ ap₂ (λ (q : Party) (said : List ℕ). say_left q (part (2 * a.k) l.i a.totals.now) (part a.lent l.i a.sheets.now) said) q p)

pub returns : goal.returns
returns c i h =
    let l = c.loop-i in
    l.invariant.done i (omega (arith, c.loop-i-test.false))
