-- `deal_each` meets its contract: the first i parties are dealt the sheet. Assumes nothing.
use mathlib.Core.Path.{◌≡◌, refl, ap, ◌∙◌}
use Prim.Native.Nat.{ℕ, ◌+◌, ◌*◌, ◌-◌, ◌≤◌, ◌<◌}
use native.Mathlib.Omega.{arith}
use lib.ListN.{length, length-take, length-drop}
use Rattle.panel.specs.Parties.{sheet_dealt}
use Rattle.panel.proofs.Parts.{room, spread_start, spread_more, lent}
use borrow.Author.Rules.{rules}
use Rattle.panel.proofs.dealing.deal_each.Goals as goal
use Rattle.panel.proofs.dealing.deal_each.Goals.{In-loop-i}

-- there is room for a part more
fits : (c : In-loop-i) → c.loop-i.i * c.args.width + c.args.width ≤ length c.loop-i.sheets
fits c =
    let l = c.loop-i in
    omega (arith, room c.args.width c.args.n l.i c.loop-i-test.true, l.invariant.long, c.requires.2)

pub loop-i-init : goal.loop-i-init
loop-i-init c = spread_start _ _ _ _

pub overflow_mul-from : goal.overflow_mul-from
overflow_mul-from c = omega (arith, fits c, c.well_formed)

pub overflow_add-to : goal.overflow_add-to
overflow_add-to c = omega (arith, fits c, c.well_formed)

pub offset_bounds-sheets-from : goal.offset_bounds-sheets-from
offset_bounds-sheets-from c = search (rules, fits c)

pub slice_bounds-deal_one-end : goal.slice_bounds-deal_one-end
slice_bounds-deal_one-end c = search (rules, fits c)

pub deal_one-requires : goal.deal_one-requires
deal_one-requires c =
    let f = fits (goal.at.deal_one-requires c).In-loop-i in simp (length-take, length-drop) (omega (arith, f, c.requires.1))

pub loop-i-preserved : goal.loop-i-preserved
loop-i-preserved c =
    let l = c.loop-i in
    let a = c.args in
    let h : l.i < a.n = c.loop-i-test.true in
    let from : ℕ = l.i * a.width in
    let k : from + a.width - from ≡ a.width = omega arith in
    spread_more a.width a.n _ a.sheets.now l.sheets l.i from _ _ l.invariant c.requires.2 h refl k c.sheets-1.given.0
    (c.deal_one.ensures
    ∙ ap (sheet_dealt a.n (l.i + 1) a.last a.words.now a.bytes.now a.at) (lent a.width a.n _ a.sheets.now l.sheets l.i from _ l.invariant h refl k))

pub returns : goal.returns
returns c i h =
    let l = c.loop-i in
    l.invariant.done i (omega (arith, c.loop-i-test.false))
