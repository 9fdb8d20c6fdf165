-- What holds at each turn of the loops of `moment`. Assumes nothing.
use mathlib.Core.Path.{◌≡◌}
use Prim.Native.Nat.{ℕ, ◌+◌, ◌*◌, ◌^◌, ◌≤◌}
use Rattle.openings.proofs.Powers.{from_place}
use Rattle.openings.proofs.amount.moment.Given as goal

-- the halves so far, with what is left, are all
unfoldable pub Stand : (low high left v : ℕ) → Type 0
Stand low high left v = low + 2 ^ 32 * high + left ≡ v

-- A half adds at most 2^32 times 9^4 at each place. Both facts are shut, since `omega` cannot read such large numbers.
unfoldable pub Within : (half i : ℕ) → Type 0
Within half i = half ≤ 28_179_280_429_056 * i

abbrev pub invariant-loop-i : goal.invariant-loop-i
invariant-loop-i l =
    Within l.low l.i × Within l.high l.i × Stand l.low l.high (from_place l.j l.terms l.i) (from_place l.j l.terms 0)
