-- What holds at each turn of the loops of `all_bytes`. Assumes nothing.
use Rattle.std.proofs.Common.{◌≡◌, ◌&&◌, ltb, drop}
use Rattle.ranges.specs.Lists.{every}
use Rattle.ranges.proofs.lists.all_bytes.Given as goal

abbrev pub invariant-loop-word : goal.invariant-loop-word
invariant-loop-word l = every (λ w. ltb w 256) l.words ≡ ltb l.joined 256 && every (λ w. ltb w 256) (drop l.word-index l.words)
