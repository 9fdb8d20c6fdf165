-- `next` meets its contract: the bracket is stepped, the probe counted, and the first search turned into the second where it ends.
-- Assumes nothing.
use mathlib.Core.Path.{◌≡◌, ap, ◌∙◌}
use mathlib.Core.Bool.{Bool}
use Prim.Native.Nat.{ℕ, ◌+◌}
use native.Mathlib.Omega.{arith}
use Rattle.search.specs.declared.bracket.Bracket.{Bracket}
use Rattle.search.specs.declared.searches.Search.{Search}
use Rattle.search.specs.Bracket.{step}
use Rattle.search.specs.Searches.{moves_lo, moved, turned}
use Rattle.search.proofs.searches.next.Goals as goal

moves : (s : Search) (verdict : ℕ) (up : Bool) (b : Bracket) → up ≡ moves_lo s.which verdict → b ≡ step s.bracket up
    → record { which = s.which; bracket = b; probes = s.probes + 1; first = s.first; spent = s.spent } ≡ moved s verdict
unfolding moved
moves s verdict up b e f = rw (f, e)

pub overflow_add-s : goal.overflow_add-s
overflow_add-s c = omega (arith, c.requires)

pub returns : goal.returns
returns c =
    c.turned.ensures ∙ ap turned (moves _ _ _ _ c.moves_lo.ensures c.step.ensures)
