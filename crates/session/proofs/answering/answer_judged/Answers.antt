-- `answer_judged` meets its contract: each early return is one entry of its list of tests. Assumes nothing.
use mathlib.Core.Path.{◌≡◌, sym, ap, ◌∙◌}
use mathlib.Core.Bool.{false, not}
use Prim.Native.Nat.{ℕ}
use Rattle.record.specs.Record.{sound}
use Rattle.session.specs.Answer.{the_answer, answer_judgement}
use Rattle.refusal.proofs.Judging.{refuses, passes, all_passed}
use Rattle.session.proofs.Answered.{answered_accepted, answered_refused}
use Rattle.session.proofs.answering.answer_judged.Goals as goal
use Rattle.session.proofs.answering.answer_judged.Goals.{Else-not-whole}

pub returns-then-not-whole : goal.returns-then-not-whole
unfolding answer_judgement
returns-then-not-whole c = sym (answered_refused _ _ _ (refuses _ _ _ (ap not (sym c.requires) ∙ c.if-not-whole.true-raw)))

-- the record passed
whole : (c : Else-not-whole) → not (sound c.args.q) ≡ false
whole c = ap not (sym c.requires) ∙ c.if-not-whole.false-raw

pub returns-then-not-ended : goal.returns-then-not-ended
unfolding answer_judgement
returns-then-not-ended c =
    let turn = ap not (sym c.ended.ensures) ∙ c.if-not-ended.true-raw in
    sym (answered_refused _ _ _ (passes _ _ _ (whole (goal.at.returns-then-not-ended c).Else-not-whole) ∙ refuses _ _ _ turn))

pub returns : goal.returns
unfolding answer_judgement
returns c =
    let s = c.args.q.search in
    let turn = ap not (sym c.ended.ensures) ∙ c.if-not-ended.false-raw in
    ap (λ (index : ℕ). the_answer index s.probes) c.price.ensures
    ∙ sym (answered_accepted _ _ (passes _ _ _ (whole (goal.at.returns c).Else-not-whole) ∙ passes _ _ _ turn ∙ all_passed))
