-- `write_probes` meets its contract: the lines of i probes are written. Assumes nothing.
use mathlib.Core.Path.{◌≡◌, refl, sym, ap, ◌∙◌}
use Prim.Native.Nat.{◌≤◌}
use native.Mathlib.Omega.{arith}
use lib.ListN.{length}
use Rattle.std.proofs.lemmas.List.{length-take-le}
use Rattle.listing.specs.Lines.{probe_lines, course_trail}
use Rattle.listing.proofs.Writing.{then, wrote_same}
use Rattle.listing.proofs.Telling.{course_more, course_within}
use Rattle.listing.proofs.course.write_probes.Goals as goal

pub loop-i-init : goal.loop-i-init
unfolding probe_lines course_trail
loop-i-init c = (record { held = refl; place = refl; inside = omega arith }, omega arith)

pub write_probe-at-requires : goal.write_probe-at-requires
write_probe-at-requires c =
    omega (arith, c.loop-i.invariant.1, c.requires, c.loop-i-test.true, length-take-le c.args.course.probes c.args.course.trail)

pub loop-i-preserved : goal.loop-i-preserved
loop-i-preserved c =
    let w = c.write_probe-at in
    let l = c.loop-i in (
      wrote_same (sym (course_more _ l.i _ c.loop-i-test.true)) (then l.invariant.0 w.ensures.0),
      omega (arith, w.ensures.1, l.invariant.1),
    )

pub returns : goal.returns
returns c =
    let l = c.loop-i in
    let h : c.args.course.probes ≤ length c.args.course.trail = omega (arith, c.requires, c.well_formed) in
    let e : l.i ≡ c.args.course.probes = omega (arith, length-take-le c.args.course.probes c.args.course.trail h, c.loop-i-test.false) in (
      wrote_same (ap (probe_lines 1) (course_within c.args.course.trail c.args.course.probes l.i (omega (arith, e)) h ∙ ap (course_trail c.args.course.trail) e)) l.invariant.0,
      omega (arith, l.invariant.1, c.requires, e),
    )
