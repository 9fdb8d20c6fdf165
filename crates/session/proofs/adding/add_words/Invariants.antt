-- What holds at each turn of the loops of `add_words`. Assumes nothing.
use mathlib.Core.Path.{◌≡◌}
use lib.ListN.{take, drop}
use Rattle.fields.specs.Amount.{amounts}
use Rattle.sharing.specs.Linear.{sums}
use Rattle.session.proofs.adding.add_words.Given as goal

abbrev pub invariant-loop-i : goal.invariant-loop-i
invariant-loop-i l =
    (drop l.i l.totals ≡ drop l.i l.initial.totals)
    × (take l.i l.totals ≡ take l.i (sums amounts l.initial.totals l.shares))
