-- `all_bytes` meets its contract: what was joined is a byte where the words before are bytes. Assumes nothing.
use Rattle.std.proofs.Common.{ltb, sym, ◌∙◌}
use Rattle.ranges.proofs.Joined.{both_below}
use Rattle.ranges.proofs.Loops.{every_joined, every_joined_end}
use Rattle.ranges.proofs.lists.all_bytes.Goals as goal

pub loop-word-preserved : goal.loop-word-preserved
loop-word-preserved c =
    let l = c.loop-word in
    l.invariant ∙ every_joined _ _ _ (ltb l.joined 256) _ c.loop-word-test.true (both_below 8 l.joined _)

pub returns : goal.returns
returns c = let l = c.loop-word in sym (l.invariant ∙ every_joined_end _ _ _ (ltb l.joined 256) c.loop-word-test.false)
