-- `add_one` meets its contract. Assumes nothing.
use mathlib.Core.Path.{sym, ap, ◌∙◌}
use Prim.Native.Nat.{ℕ, ◌*◌, ◌≤◌}
use native.Mathlib.Omega.{arith}
use lib.ListN.{length, take, length-replicate}
use lib.Seq.{length-take-le}
use Rattle.bid.specs.Split.{split_left}
use Rattle.record.specs.declared.Reply.{Reply}
use Rattle.session.specs.Add.{add_reply, add_left}
use Rattle.panel.specs.Parties.{shares_of}
use Rattle.panel.proofs.Parts.{take_replicate, prefix_fits, prefix_is, prefix_count}
use Rattle.panel.proofs.adding.add_one.Goals as goal
use Rattle.panel.proofs.adding.add_one.Goals.{After-zeros-shares}

fits : (c : After-zeros-shares) → 2 * c.args.k ≤ length c.zeros-shares.result
fits c = omega (arith, ap length c.zeros-shares.ensures, length-replicate {A = ℕ} 512 0, c.requires)

pub slice_bounds-split-end : goal.slice_bounds-split-end
slice_bounds-split-end c = sym (length-take-le _ _ (fits (goal.at.slice_bounds-split-end c).After-zeros-shares))

pub slice_bounds-shares-end-2 : goal.slice_bounds-shares-end-2
slice_bounds-shares-end-2 c =
    prefix_fits _ _ c.split.new.shares (fits (goal.at.slice_bounds-shares-end-2 c).After-zeros-shares) c.shares-2-1.given

pub slice_bounds-add-end : goal.slice_bounds-add-end
slice_bounds-add-end c =
    prefix_count _ _ c.split.new.shares (fits (goal.at.slice_bounds-add-end c).After-zeros-shares) c.shares-2-1.given

pub returns : goal.returns
unfolding shares_of
returns c =
    let a = c.args in
    let blank = ap (take (2 * a.k)) c.zeros-shares.ensures ∙ take_replicate (2 * a.k) 512 0 (omega (arith, c.requires)) in
    let w = prefix_is _ _ c.split.new.shares (fits (goal.at.returns c).After-zeros-shares) c.shares-2-1.given ∙ c.split.ensures.1 ∙ ap (split_left a.n a.own a.k a.table.now a.coins.now) blank in (
      c.returned.ensures ∙ ap (λ (r : Reply). r.party) (c.add-reply.ensures.0 ∙ ap (add_reply a.q a.totals.now a.bidder) w),
      c.add-reply.ensures.1 ∙ ap (add_left a.q a.totals.now a.bidder) w,
    )
