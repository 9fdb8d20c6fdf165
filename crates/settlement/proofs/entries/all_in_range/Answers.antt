-- `all_in_range` meets its contract: each pair before the one at hand passed. Assumes nothing.
use mathlib.Core.Path.{◌≡◌, refl, sym, ap, ◌∙◌}
use mathlib.Core.Bool.{Bool, ◌&&◌}
use Prim.Native.Nat.{◌+◌, ◌*◌}
use lib.ListN.{drop, get_or}
use Rattle.settlement_page.specs.Page.{in_range, all_in_range}
use Rattle.settlement.proofs.Pairs.{range_more, range_end, inside, here, over}
use Rattle.settlement.proofs.entries.all_in_range.Goals as goal
use Rattle.settlement.proofs.entries.all_in_range.Goals.{After-in_range}

pub loop-wanted-init : goal.loop-wanted-init
loop-wanted-init c = refl

-- the pair at hand, and those after it
more : (c : After-in_range) → all_in_range c.args.entries.now ≡ c.in_range.result && all_in_range (drop (2 * (c.loop-wanted.wanted-index + 1)) c.args.entries.now)
more c =
    let entries = c.args.entries.now in
    let i = c.loop-wanted.wanted-index in
    let pairs = c.pairs-wanted-items.result.now in
    let h = c.loop-wanted-test.true in
    let p = here entries pairs i c.requires c.pairs-wanted-items.ensures h in
    c.loop-wanted.invariant
    ∙ range_more entries i (inside entries pairs i c.requires c.pairs-wanted-items.ensures h)
    ∙ ap (λ (t : Bool). t && all_in_range (drop (2 * (i + 1)) entries)) (sym (c.in_range.ensures ∙ ap (λ p. in_range (get_or p 0 0) (get_or p 1 0)) p))

pub returns-then-not-in_range : goal.returns-then-not-in_range
returns-then-not-in_range c =
    sym
    (more (goal.at.returns-then-not-in_range c).After-in_range
    ∙ ap (λ (t : Bool). t && all_in_range (drop (2 * (c.loop-wanted.wanted-index + 1)) c.args.entries.now)) c.if-not-in_range.true)

pub loop-wanted-preserved : goal.loop-wanted-preserved
loop-wanted-preserved c =
    more (goal.at.loop-wanted-preserved c).After-in_range
    ∙ ap (λ (t : Bool). t && all_in_range (drop (2 * (c.loop-wanted.wanted-index + 1)) c.args.entries.now)) c.if-not-in_range.false

pub returns : goal.returns
returns c =
    let entries = c.args.entries.now in
    let i = c.loop-wanted.wanted-index in
    sym (c.loop-wanted.invariant ∙ range_end entries i (over entries _ i c.requires c.pairs-wanted-items.ensures c.loop-wanted-test.false))
