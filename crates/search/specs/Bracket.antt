-- The bracket of a search: where it probes, when it is over, and how it moves. Assumes nothing.
use Rattle.std.specs.Prelude.{ℕ, ◌+◌, ◌-◌, ◌/◌, Bool, cond, eqb}
use Rattle.search.specs.declared.bracket.Bracket.{Bracket}

-- before the first probe of k indices: "lo 0, hi k + 1"
unfoldable pub start : (k : ℕ) → Bracket
start k = record { lo = 0; hi = k + 1 }

-- "The probed index is (lo + hi)/2 rounded down."
unfoldable pub middle : Bracket → ℕ
middle b = (b.lo + b.hi) / 2

-- it "is over when hi - lo = 1"
unfoldable pub over : Bracket → Bool
over b = eqb (b.hi - b.lo) 1

-- a verdict moves lo
unfoldable pub raise : Bracket → Bracket
raise b = record { lo = middle b; hi = b.hi }

-- a verdict moves hi
unfoldable pub lower : Bracket → Bracket
lower b = record { lo = b.lo; hi = middle b }

-- the one step of either search: the middle becomes lo, or else hi
unfoldable pub step : Bracket → (up : Bool) → Bracket
step b up = cond up (raise b) (lower b)
