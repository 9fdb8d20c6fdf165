-- `write_no_price` meets its contract. Assumes nothing.
use mathlib.Core.Path.{refl}
use native.Mathlib.Omega.{arith}
use Rattle.listing.proofs.course.write_no_price.Goals as goal

pub returns-then-out-lt-LINE : goal.returns-then-out-lt-LINE
returns-then-out-lt-LINE c = (λ h. absurd (omega arith), λ h. (refl, refl))

pub returns : goal.returns
returns c = (λ h. c.put_no_price.ensures, λ h. absurd (omega arith))
