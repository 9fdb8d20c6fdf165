-- What holds at each turn of the loops of `terms`. Assumes nothing.
use mathlib.Core.Path.{◌≡◌}
use mathlib.Core.List.{[], ◌∷◌}
use Prim.Native.Nat.{◌<◌}
use Rattle.fields.specs.Byte.{product, bytes}
use Rattle.openings.specs.Packed.{packed}
use Rattle.fields.proofs.Tables.{power}
use Rattle.openings.specs.Opening.{moments}
use Rattle.openings.proofs.Packed.{multiplied}
use Rattle.openings.proofs.byte.terms.Given as goal

abbrev pub invariant-loop-j : goal.invariant-loop-j
invariant-loop-j l =
    (l.at < 256) × (power l.at ≡ multiplied l.point l.j (product l.weight l.word)) × (l.all ≡ packed (moments bytes l.j (l.point ∷ []) (product l.weight l.word ∷ [])))
