-- `add_bids` meets its contract: i bids are added, and the others are still to be read and drawn. Assumes nothing.
use mathlib.Core.Path.{◌≡◌, ap, ◌∙◌}
use Prim.Native.Nat.{ℕ, ◌*◌, ◌<◌}
use native.Mathlib.Nat.{sub-zero}
use native.Mathlib.Omega.{arith}
use Rattle.sharing.specs.Scheme.{threshold}
use Rattle.draws.specs.Draws.{after_bids}
use Rattle.draws.proofs.Drawn.{coins_word}
use Rattle.standing.proofs.Holding.{bidding_start, bidding_more, bidding_end, bids_left, bids_done}
use Rattle.collecting.proofs.adding.add_bids.Goals as goal

pub loop-i-init : goal.loop-i-init
loop-i-init c = (
  omega (arith, c.ranges.state),
  ap (λ (m : ℕ). after_bids (threshold c.args.n) c.args.k m c.args.state) (sub-zero c.args.bids),
  bidding_start c.args.n c.args.k c.args.bids c.args.input.now c.args.at c.args.state (omega (arith, c.ranges.state)) _ _,
)

pub add_next-next-requires : goal.add_next-next-requires
add_next-next-requires c =
    let p = c.requires in
    (p.0, p.1, p.2, c.loop-i.auto.totals ∙ p.4)

pub loop-i-preserved : goal.loop-i-preserved
loop-i-preserved c =
    let l = c.loop-i in
    let a = c.args in
    let r = c.add_next-next in
    let h : l.i < a.bids = c.loop-i-test.true in (
      rw r.ensures.1 (coins_word (2 * a.k * threshold a.n) _ l.invariant.0),
      bids_left (threshold a.n) a.k a.bids l.i _ _ _ h r.ensures.1 l.invariant.1,
      λ A H.
          bidding_more A a.bids a.input.now _ _ _ _ _ _ _ l.i (l.invariant.2 A H) h _ _
          r.ensures.0 r.ensures.1 r.ensures.2,
    )

pub returns : goal.returns
returns c =
    let l = c.loop-i in
    let a = c.args in
    let e : l.i ≡ a.bids = omega (arith, c.loop-i-test.false) in (
      bids_done (threshold a.n) a.k a.bids l.i _ _ e l.invariant.1,
      λ A H. bidding_end A a.bids a.input.now _ _ _ _ _ l.i (l.invariant.2 A H) e,
    )
