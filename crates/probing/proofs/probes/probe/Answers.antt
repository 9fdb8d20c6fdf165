-- `probe` meets its contract: i rounds are made, of every auction in which the parties may stand. Assumes nothing.
use mathlib.Core.Path.{◌≡◌, refl}
use native.Mathlib.Omega.{arith}
use Rattle.standing.proofs.Rounds.{round_stands, step_at, step_last}
use Rattle.probing.proofs.probes.probe.Goals as goal

pub loop-init : goal.loop-init
loop-init c = λ bids d A C here s ss R H. H

pub loop-preserved : goal.loop-preserved
loop-preserved c =
    let l = c.loop in
    let a = c.args in
    λ bids d A C here s ss R H.
    round_stands _ d A refl _ _ _ _ (step_at _ d A refl C here s ss R l.counter (omega (arith, c.loop-test.true))) l.after a.totals.now a.sheets.now (l.invariant bids d A C here s ss R H) c.round-next.result c.round-next.ensures

pub returns : goal.returns
returns c =
    λ bids d A C here s ss R H.
    let l = c.loop in
    let a = c.args in
    let e : l.counter ≡ 32 = omega (arith, c.loop-test.false) in
    round_stands _ d A refl _ _ _ _ (step_last _ d A refl C here s ss R) l.after a.totals.now a.sheets.now (rw e at (l.invariant bids d A C here s ss R H)) c.round.result c.round.ensures
