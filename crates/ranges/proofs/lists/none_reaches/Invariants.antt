-- What holds at each turn of the loops of `none_reaches`. Assumes nothing.
use Rattle.std.proofs.Common.{◌≡◌, ◌^◌, ◌&&◌, ltb, drop}
use Rattle.ranges.specs.Lists.{every}
use Rattle.ranges.proofs.lists.none_reaches.Given as goal

abbrev pub invariant-loop-word : goal.invariant-loop-word
invariant-loop-word l = every (λ w. ltb w l.size) l.words ≡ ltb l.seen (2 ^ 63) && every (λ w. ltb w l.size) (drop l.word-index l.words)
