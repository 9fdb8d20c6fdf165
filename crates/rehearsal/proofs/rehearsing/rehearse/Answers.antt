-- `rehearse` meets its contract. Assumes nothing.
use mathlib.Core.Path.{◌≡◌, sym, ap, ◌∙◌}
use Prim.Native.Nat.{ℕ}
use Rattle.refusal.specs.Refusal.{number_of}
use Rattle.listing.specs.Lines.{refused_line}
use Rattle.listing.proofs.Writing.{wrote_same}
use Rattle.rehearsal.proofs.Listed.{judged_faulty, right_listing}
use borrow.Author.Rules.{rules}
use Rattle.rehearsal.proofs.rehearsing.rehearse.Goals as goal

pub run-ended-requires : goal.run-ended-requires
run-ended-requires c = sym c.judge.ensures ∙ c.in-Ok.is

pub returns-in-Err : goal.returns-in-Err
returns-in-Err c =
    let number : c.from.result ≡ number_of c.in-Err.fault.refusal = search rules in
    wrote_same (ap (λ (n : ℕ). refused_line n c.in-Err.fault.line) number ∙ sym (judged_faulty c.args.input.now c.in-Err.fault (sym c.judge.ensures ∙ c.in-Err.is)))
    (c.write_refused.ensures.0 (search rules))

pub returns-in-Ok : goal.returns-in-Ok
returns-in-Ok c =
    wrote_same (right_listing c.args.input.now c.in-Ok.shape c.run-ended.result.course (sym c.judge.ensures ∙ c.in-Ok.is) c.run-ended.ensures.1)
    (c.write_course.ensures.0 c.run-ended.ensures.0)
