-- `enter_all` meets its contract: so many bids are entered. Assumes nothing.
use mathlib.Core.Path.{◌≡◌, ap, ◌∙◌}
use mathlib.Core.List.{List}
use Prim.Native.Nat.{ℕ, ◌+◌, ◌-◌, ◌*◌}
use native.Mathlib.Omega.{arith}
use lib.ListN.{length, drop, get_or}
use Rattle.lines.specs.Lines.{numbers, bytes_of}
use Rattle.lines.proofs.Again.{here}
use Rattle.entering.specs.Entries.{hours_told}
use Rattle.entering.proofs.Entering.{entered_none, entered_more, entered_all}
use Rattle.entering.proofs.enter_all.Goals as goal

pub loop-bid-init : goal.loop-bid-init
loop-bid-init c =
    let a = c.args in
    entered_none (hours_told a.party) a.k a.index a.bids (drop a.at a.input.now) a.into.now

pub loop-bid-preserved : goal.loop-bid-preserved
loop-bid-preserved c =
    let l = c.loop-bid in
    let a = c.args in
    let rest : List ℕ = drop l.next a.input.now in
    let long : length l.table ≡ 2 * a.k = l.auto.table ∙ c.requires.3 in
    let read = c.read_table-next.ensures.0 ∙ ap (λ (m : ℕ). numbers m rest) long in
    entered_more (hours_told a.party) a.k a.index a.bids (drop a.at a.input.now) l.into rest _ _ l.bid _ _ _ _
    c.loop-bid-test.true (omega (arith, l.auto.into, c.requires.4)) l.invariant
    (here a.input.now l.next (2 * a.k) _ (c.read_table-next.ensures.1 ∙ ap (λ (m : ℕ). l.next + bytes_of m rest) long))
    c.copy_from_slice.ensures.after
    (ap (λ (t : List ℕ). get_or t (a.index - 1) 0) read)
    c.hours.ensures
    (ap (λ (t : List ℕ). get_or t (a.k + a.index - 1) 0) read)

pub returns : goal.returns
returns c =
    let l = c.loop-bid in
    let a = c.args in
    entered_all (hours_told a.party) a.k a.index a.bids (drop a.at a.input.now) l.into (drop l.next a.input.now) l.bid
    c.loop-bid-test.false (omega (arith, l.auto.into, c.requires.4)) l.invariant
