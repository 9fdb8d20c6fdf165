-- What holds at each turn of the loops of `double`. Assumes nothing.
use mathlib.Core.Path.{◌≡◌}
use Prim.Native.Nat.{ℕ, ◌+◌, ◌<◌}
use lib.ListN.{get_or}
use Rattle.fields.specs.Byte.{xor}
use Rattle.opening_rows.proofs.double.Given as goal

abbrev pub invariant-loop-k : goal.invariant-loop-k
invariant-loop-k l =
    ((i : ℕ) → i < l.size → get_or l.row i 0 ≡ get_or l.initial.row i 0)
    × ((i : ℕ) → i < l.k → get_or l.row (l.size + i) 0 ≡ xor (get_or l.initial.row i 0) l.term)
