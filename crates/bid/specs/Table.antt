-- A bid's table: "A table is 2k amounts: demand at indices 1 to k, never rising, then supply, never falling." Assumes nothing.
use Rattle.std.specs.Prelude.{Bool, ◌&&◌, List, ℕ, take, drop}
use Rattle.ranges.specs.Steps.{never_rising, never_falling}

-- "Amounts are tenths of an hour, 0 to 4,194,303."
abbrev pub most : ℕ
most = 4_194_303

-- the first k amounts are demand, the others supply: the step from one to the other is a step of neither
unfoldable pub monotone : ℕ → List ℕ → Bool
monotone k table = never_rising (take k table) && never_falling (drop k table)
