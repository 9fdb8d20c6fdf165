-- `write_refused` meets its contract, piece by piece. Assumes nothing.
use mathlib.Core.Path.{refl}
use native.Mathlib.Omega.{arith}
use Rattle.listing.specs.Lines.{refused_line}
use Rattle.listing.proofs.Writing.{then}
use Rattle.listing.proofs.course.write_refused.Goals as goal

pub returns-then-out-lt-LINE : goal.returns-then-out-lt-LINE
returns-then-out-lt-LINE c = (λ h. absurd (omega arith), λ h. (refl, refl))

pub returns : goal.returns
unfolding refused_line
returns c =
    (λ h. then c.append_field-given.ensures.0 c.append_last.ensures.0, λ h. absurd (omega arith))
