-- `open_all` meets its contract: the first i sessions are opened. Assumes nothing.
use mathlib.Core.Path.{◌≡◌, refl, ap, ◌∙◌}
use Prim.Native.Nat.{ℕ, ◌+◌, ◌-◌, ◌*◌, ◌≤◌, ◌<◌}
use native.Mathlib.Omega.{arith}
use lib.ListN.{length}
use Rattle.record.specs.declared.Reply.{Reply}
use Rattle.record.specs.Record.{blank}
use Rattle.session.specs.Open.{open_reply, open_left}
use Rattle.panel.proofs.Parts.{room, spread_start, spread_more, lent, rowed_start, rowed_more}
use borrow.Author.Rules.{rules}
use Rattle.panel.proofs.parties.open_all.Goals as goal
use Rattle.panel.proofs.parties.open_all.Goals.{In-loop-i}

-- there is room for a part more
fits : (c : In-loop-i) → c.loop-i.i * (2 * c.args.k) + 2 * c.args.k ≤ length c.loop-i.totals
fits c =
    let l = c.loop-i in
    omega (arith, room (2 * c.args.k) c.args.n l.i c.loop-i-test.true, l.invariant.0.long, c.requires.2)

pub loop-i-init : goal.loop-i-init
loop-i-init c = (spread_start _ _ _ _, rowed_start _ _ _ _)

pub overflow_mul-at : goal.overflow_mul-at
overflow_mul-at c = omega (arith, fits c, c.well_formed, c.requires.0, c.requires.1)

pub overflow_add-next : goal.overflow_add-next
overflow_add-next c = omega (arith, fits c, c.well_formed, c.requires.0, c.requires.1)

pub offset_bounds-totals-at : goal.offset_bounds-totals-at
offset_bounds-totals-at c = search (rules, fits c)

pub slice_bounds-open-end : goal.slice_bounds-open-end
slice_bounds-open-end c = search (rules, fits c)

pub loop-i-preserved : goal.loop-i-preserved
loop-i-preserved c =
    let l = c.loop-i in
    let a = c.args in
    let h : l.i < a.n = c.loop-i-test.true in
    let at : ℕ = l.i * (2 * a.k) in
    let k : at + 2 * a.k - at ≡ 2 * a.k = omega arith in
    let p = lent (2 * a.k) a.n _ a.totals.now l.totals l.i at _ l.invariant.0 h refl k in (
      spread_more (2 * a.k) a.n _ a.totals.now l.totals l.i at _ _ l.invariant.0 c.requires.2 h refl k c.totals-1.given.0
          (c.open-reply.ensures.1 ∙ ap (open_left a.n (l.i + 1) a.k a.last) p),
      rowed_more blank a.n _ _ l.parties l.i _ l.invariant.1 (omega arith)
          (c.returned.ensures ∙ ap (λ (r : Reply). r.party) (c.open-reply.ensures.0 ∙ ap (open_reply a.n (l.i + 1) a.k a.last) p)),
    )

pub returns : goal.returns
returns c i h =
    let l = c.loop-i in
    let m : i < l.i = omega (arith, c.loop-i-test.false) in
    (l.invariant.1.done i m, l.invariant.0.done i m)
