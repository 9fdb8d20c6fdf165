-- What holds at each turn of the loops of `weighted`. Assumes nothing.
use mathlib.Core.Path.{◌≡◌}
use lib.ListN.{length, take}
use Rattle.fields.specs.Amount.{amounts}
use Rattle.weights.specs.Rows.{weights, amount_scheme}
use Rattle.weights.specs.Products.{products}
use Rattle.openings.proofs.amount.weighted.Given as goal

abbrev pub invariant-loop-i : goal.invariant-loop-i
invariant-loop-i l =
    (length l.terms ≡ 9) × (take l.i l.terms ≡ take l.i (products amounts (weights amount_scheme l.n) l.words))
