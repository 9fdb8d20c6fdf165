-- `append_last` meets its contract. Assumes nothing.
use native.Mathlib.Omega.{arith}
use Rattle.listing.proofs.Writing.{then}
use Rattle.listing.proofs.text.append_last.Goals as goal

pub returns : goal.returns
returns c =
    (then c.append-place.ensures (then c.append_number-end.ensures.0 c.append.ensures), omega (arith, c.append-place.ensures.place, c.append_number-end.ensures.1, c.append.ensures.place))
