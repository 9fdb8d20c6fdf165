-- `append_field` meets its contract. Assumes nothing.
use native.Mathlib.Omega.{arith}
use Rattle.listing.proofs.Writing.{then}
use Rattle.listing.proofs.text.append_field.Goals as goal

pub returns : goal.returns
returns c =
    (then c.append-place.ensures c.append_number.ensures.0, omega (arith, c.append-place.ensures.place, c.append_number.ensures.1))
