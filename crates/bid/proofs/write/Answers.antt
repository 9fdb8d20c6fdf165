-- `write` meets its contract: the shares before i are written, from the i * t coins before `at`. Assumes nothing.
use mathlib.Core.Path.{◌≡◌, sym, ap₂, ◌∙◌}
use mathlib.Core.List.{List, ◌∷◌}
use Prim.Native.Nat.{ℕ, ◌+◌, ◌-◌, ◌*◌, ◌≤◌, ◌<◌}
use native.Mathlib.Nat.{mul-le-mul_right}
use native.Mathlib.Omega.{arith}
use lib.ListN.{length, take, drop, length-take}
use lib.Seq.{take_all}
use Rattle.fields.specs.Amount.{amounts}
use Rattle.sharing.specs.Polynomial.{value}
use Rattle.ranges.proofs.Loops.{fill}
use Rattle.bid.specs.Split.{bid_shares}
use Rattle.bid.proofs.Laws.{length_shares, entry}
use Rattle.bid.proofs.write.Goals as goal
use Rattle.bid.proofs.write.Goals.{In-loop-i}

-- the coins of an amount are there
room : (m t at i : ℕ) → at ≡ i * t → i < m → at + t ≤ m * t
room m t at i e h =
    let l : (i + 1) * t ≤ m * t = mul-le-mul_right t (omega arith) in
    omega arith

fits : (c : In-loop-i) → c.loop-i.at + c.args.t ≤ length c.args.coins.now
fits c =
    omega (arith, room (length c.args.table.now) c.args.t c.loop-i.at c.loop-i.i c.loop-i.invariant.0 c.loop-i-test.true, c.requires.0)

-- and they are the amount's own
taken : (coins : List ℕ) (t at i own a : ℕ) → at ≡ i * t → value amounts (a ∷ take (at + t - at) (drop at coins)) own ≡ value amounts (a ∷ take t (drop (i * t) coins)) own
taken coins t at i own a e =
    let j : at + t - at ≡ t = omega arith in
    ap₂ (λ (k m : ℕ). value amounts (a ∷ take k (drop m coins)) own) j e

pub overflow_add-next : goal.overflow_add-next
overflow_add-next c = omega (arith, fits (goal.at.overflow_add-next c).In-loop-i, c.well_formed)

pub offset_bounds-coins-at : goal.offset_bounds-coins-at
offset_bounds-coins-at c = omega (arith, fits (goal.at.offset_bounds-coins-at c).In-loop-i, c.well_formed)

pub slice_bounds-share-end : goal.slice_bounds-share-end
slice_bounds-share-end c = fits (goal.at.slice_bounds-share-end c).In-loop-i

pub share-requires : goal.share-requires
share-requires c =
    (simp length-take (omega (arith, c.requires.2)), c.requires.3)

pub bounds-shares-i : goal.bounds-shares-i
bounds-shares-i c = omega (arith, c.requires)

pub loop-i-preserved : goal.loop-i-preserved
loop-i-preserved c =
    let l = c.loop-i in
    let a = c.args in
    let h : l.i < length a.table.now = c.loop-i-test.true in (
      omega (arith, l.invariant.0),
      fill l.shares (bid_shares a.t a.own a.table.now a.coins.now) l.i c.share.result (omega (arith, c.requires))
          (rw length_shares h)
          (c.share.ensures ∙ taken a.coins.now a.t l.at l.i a.own _ l.invariant.0 ∙ sym (entry a.t a.own a.table.now a.coins.now l.i h))
          l.invariant.1,
    )

pub returns : goal.returns
returns c =
    let l = c.loop-i in
    let a = c.args in
    sym (take_all l.i l.shares (omega (arith, c.requires))) ∙ l.invariant.1
    ∙ take_all l.i (bid_shares a.t a.own a.table.now a.coins.now) (omega (arith, length_shares a.t a.own a.table.now a.coins.now))
