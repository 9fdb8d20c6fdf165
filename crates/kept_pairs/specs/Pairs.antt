-- The pair shares that a party keeps from level to level. Assumes nothing.
use Rattle.std.specs.Prelude.{Bool, ◌&&◌, ltb, replicate}
use Rattle.ranges.specs.Lists.{every}
use Rattle.ranges.specs.Sizes.{long}
use Rattle.kept_pairs.specs.declared.Pairs.{Pairs}

unfoldable pub none : Pairs
none = record { words = replicate 32 0 }

-- "a kept pair share above 255 is 1"
unfoldable pub small : Pairs → Bool
small pairs = long 32 pairs.words && every (λ w. ltb w 256) pairs.words
