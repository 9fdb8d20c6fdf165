-- `bounded` meets its contract: hi is at least 1 once it is above lo, so that one less is at most k exactly when it is at most k + 1.
-- Assumes nothing.
use mathlib.Core.Path.{◌≡◌, refl}
use mathlib.Core.Bool.{Bool, true, false, not, ◌&&◌}
use Prim.Native.Nat.{ℕ, ◌+◌, ◌-◌, ◌≤◌, ◌<◌}
use native.Mathlib.Omega.{arith}
use lib.Dec.{leb, ltb, eqb}
use borrow.Author.Tests.{leb-true, leb-false, le-leb, lt-leb, lt-ltb, le-ltb}
use Rattle.search.specs.declared.bracket.Bracket.{Bracket}
use Rattle.search.specs.Limit.{limit}
use Rattle.search.specs.Searches.{bounded}
use Rattle.search.proofs.searches.bounded.Goals as goal

reversed : (k m : ℕ) (b : Bracket) → b.hi ≤ b.lo → false ≡ bounded k m b
unfolding bounded
reversed k m b le = rw (le-ltb b.lo b.hi le)

one_less : (k h : ℕ) → 0 < h → leb (h - 1) k ≡ leb h (k + 1)
one_less k h some = split (leb h (k + 1)) refl
  where
    split : (t : Bool) → leb h (k + 1) ≡ t → leb (h - 1) k ≡ t
    split true e = le-leb (h - 1) k (omega (arith, leb-true h (k + 1) e))
    split false e = lt-leb (h - 1) k (omega (arith, leb-false h (k + 1) e))

in_order : (k m most : ℕ) (b : Bracket) → b.lo < b.hi → most ≡ limit k
    → leb (b.hi - 1) k && leb m most && not (eqb m most && ltb 1 (b.hi - b.lo)) ≡ bounded k m b
unfolding bounded
in_order k m most b lt e = rw (e, lt-ltb b.lo b.hi lt, one_less k b.hi (omega arith))

pub returns-then-b : goal.returns-then-b
returns-then-b c = reversed _ _ c.args.b (omega arith)

pub overflow_sub-result : goal.overflow_sub-result
overflow_sub-result c = omega arith

pub overflow_sub-result-2 : goal.overflow_sub-result-2
overflow_sub-result-2 c = omega arith

pub returns : goal.returns
returns c = in_order _ _ _ c.args.b (omega arith) c.limit-most.ensures
