-- What holds at each turn of the loops of `multiples`. Assumes nothing.
use mathlib.Core.Path.{◌≡◌}
use mathlib.Core.List.{List}
use Prim.Native.Nat.{ℕ, ◌+◌, ◌-◌, ◌^◌}
use lib.ListN.{length, take}
use Rattle.byte_rows.specs.Row.{multiples}
use Rattle.byte_rows.proofs.Rows.{doubled}
use Rattle.byte_rows.proofs.multiples.Given as goal

-- what the outer loop has made
pub record Begun (a top size : ℕ) (row : List ℕ) : Type 0 where
  pub power : ℕ
  pub size_is : size ≡ 2 ^ power
  pub top_is : top ≡ doubled power a
  pub long : length row ≡ 256
  pub made : take size row ≡ take size (multiples a)

abbrev pub invariant-loop-i : goal.invariant-loop-i
invariant-loop-i l = (length l.row ≡ 256) × (take (l.size + l.i) l.row ≡ take (l.size + l.i) (multiples l.a))

abbrev pub invariant-loop-size : goal.invariant-loop-size
invariant-loop-size l = Begun l.a l.doubled l.size l.row

abbrev pub decreases-loop-size : goal.decreases-loop-size
decreases-loop-size l = 256 - l.size
