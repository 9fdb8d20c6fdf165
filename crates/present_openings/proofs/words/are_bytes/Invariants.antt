-- What holds at each turn of the loops of `are_bytes`. Assumes nothing.
use mathlib.Core.Path.{◌≡◌}
use mathlib.Core.Bool.{Bool, ◌&&◌}
use mathlib.Core.List.{List}
use Prim.Native.Nat.{ℕ}
use lib.Dec.{ltb}
use Rattle.std.specs.Iterator.Adapters.{zip_first, zip_second}
use Rattle.std.specs.Slice.Iter.{iter_rest}
use Rattle.ranges.specs.Lists.{every}
use Rattle.presence.specs.Presence.{of_present}
use Rattle.present_openings.proofs.words.are_bytes.Given as goal

-- whether the words of those who were present are bytes
abbrev pub bytes : (present words : List ℕ) → Bool
bytes present words = every (λ w. ltb w 256) (of_present present words)

-- those so far, with those that are left
abbrev pub invariant-loop-mark : goal.invariant-loop-mark
invariant-loop-mark l =
    bytes l.present l.words ≡ (l.all && bytes (iter_rest (zip_first l.mark-iterator)) (iter_rest (zip_second l.mark-iterator)))
