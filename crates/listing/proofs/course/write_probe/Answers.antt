-- `write_probe` meets its contract, piece by piece. Assumes nothing.
use native.Mathlib.Omega.{arith}
use Rattle.listing.specs.Lines.{probe_line}
use Rattle.listing.proofs.Writing.{then}
use Rattle.listing.proofs.course.write_probe.Goals as goal

pub returns : goal.returns
unfolding probe_line
returns c =
    (then c.append_field-made.ensures.0 (then c.append_field-probed.ensures.0 c.append_last.ensures.0), omega (arith, c.append_field-made.ensures.1, c.append_field-probed.ensures.1, c.append_last.ensures.1))
