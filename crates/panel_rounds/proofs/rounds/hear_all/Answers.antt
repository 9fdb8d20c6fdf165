-- `hear_all` meets its contract. Assumes nothing.
use mathlib.Core.Path.{ap, ◌∙◌}
use Prim.Native.Nat.{◌*◌}
use native.Mathlib.Omega.{arith}
use Rattle.record.specs.declared.Party.{Party}
use Rattle.record.specs.Record.{blank}
use Rattle.hearing.specs.Hear.{hear_reply}
use Rattle.panel.specs.Parties.{part}
use Rattle.panel_rounds.specs.Round.{heard_by}
use Rattle.panel.proofs.Parts.{room, rowed_start, rowed_more, getD_there}
use Rattle.panel_rounds.proofs.rounds.hear_all.Goals as goal

pub loop-i-init : goal.loop-i-init
loop-i-init c = rowed_start _ _ _ _

pub hear_one-requires : goal.hear_one-requires
hear_one-requires c =
    let i = c.loop-i.i in
    let h = c.loop-i-test.true in (
      c.requires.1,
      omega (arith, h, c.requires.0),
      omega (arith, room (2 * c.args.k) c.args.n i h, c.requires.2),
      omega (arith, room c.args.lent c.args.n i h, c.requires.3),
    )

pub loop-i-preserved : goal.loop-i-preserved
unfolding heard_by
loop-i-preserved c =
    let l = c.loop-i in
    let a = c.args in
    let there = getD_there a.parties l.i _ blank (omega (arith, c.well_formed, c.requires.0, c.loop-i-test.true)) in
    rowed_more blank a.n _ _ l.after l.i _ l.invariant (omega (arith, c.well_formed, c.requires.0))
    (c.hear_one.ensures
    ∙ ap (λ (q : Party). (hear_reply q (part (2 * a.k) l.i a.totals.now) (part a.lent l.i a.sheets.now) a.messages.now a.present.now).party) there)

pub returns : goal.returns
returns c i h = c.loop-i.invariant.done i (omega (arith, c.loop-i-test.false))
