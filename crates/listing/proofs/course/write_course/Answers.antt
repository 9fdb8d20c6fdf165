-- `write_course` meets its contract, part by part. Assumes nothing.
use mathlib.Core.Path.{◌≡◌, refl, sym, ap, ◌∙◌}
use Prim.Native.Nat.{ℕ}
use native.Mathlib.Omega.{arith}
use lib.ListN.{length}
use Rattle.listing.specs.Lines.{rounds_of, rounds_line, course_trail}
use Rattle.listing.proofs.Writing.{then, wrote_same}
use Rattle.listing.proofs.Telling.{length_course}
use Rattle.listing.proofs.course.write_course.Goals as goal

pub returns-then-course-gt-PROBES : goal.returns-then-course-gt-PROBES
returns-then-course-gt-PROBES c = (λ h. absurd (omega arith), λ h. (refl, refl))

pub returns : goal.returns
unfolding rounds_line
returns c =
    let a = c.args in
    let e : length (course_trail a.course.trail a.course.probes) ≡ a.course.probes = length_course _ _ in
    let many = c.rounds.ensures ∙ ap (λ (m : ℕ). rounds_of m a.course.answer) (sym e) in (
      λ h. then c.write_probes-probes.ensures.0
          (then c.write_clears-clears.ensures.0 (then c.write_totals-totals.ensures.0 (wrote_same (ap rounds_line many) c.append_last.ensures.0))),
      λ h. absurd (omega arith),
    )
