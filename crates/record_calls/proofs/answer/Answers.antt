-- `answer` meets its contract: the slice is no record, or the call is `session::answer` on what it holds. Assumes nothing.
use mathlib.Core.Path.{◌≡◌, sym, ap, ◌∙◌}
use mathlib.Core.Bool.{false, not}
use Prim.Native.Nat.{ℕ}
use mathlib.Core.List.{List}
use Rattle.ranges.specs.Sizes.{long}
use Rattle.record.specs.Record.{sound}
use Rattle.session.specs.Answer.{Answered, answer_reply, answer_number, cleared_index, cleared_probes}
use Rattle.record_calls.specs.Calls.{answer_code, answer_index, answer_probes}
use Rattle.record_words.specs.Words.{record_size, party_of}
use Rattle.record_words.proofs.Lent.{lent_long, with_record, no_record}
use Rattle.record_calls.proofs.answer.Goals as goal
use Rattle.record_calls.proofs.answer.Goals.{After-answer_judged}

pub returns-then-not-is_record : goal.returns-then-not-is_record
returns-then-not-is_record c =
    let words = c.args.words.now in
    let no = ap not (sym c.is_record.ensures ∙ c.if-not-is_record.true) in
    (c.from.ensures ∙ sym (no_record words _ _ no), sym (no_record words _ _ no), sym (no_record words _ _ no))

pub is_sound-whole-requires : goal.is_sound-whole-requires
is_sound-whole-requires c = lent_long c.args.words.now (ap not (sym c.is_record.ensures ∙ c.if-not-is_record.false))

pub read-requires : goal.read-requires
read-requires c = lent_long c.args.words.now (ap not (sym c.is_record.ensures ∙ c.if-not-is_record.false))

pub answer_judged-requires : goal.answer_judged-requires
answer_judged-requires c = c.is_sound-whole.ensures ∙ ap sound (sym c.read.ensures)

-- where `answer` has been called
module _ (c : After-answer_judged) where
  abbrev words : List ℕ
  words = c.args.words.now

  lent : not (long record_size words) ≡ false
  lent = ap not (sym c.is_record.ensures ∙ c.if-not-is_record.false)

  -- the answer, as it was matched
  given : (a : Answered) → c.answer_judged.result ≡ a → answer_reply (party_of words) ≡ a
  given a e = sym (c.answer_judged.ensures ∙ ap answer_reply c.read.ensures) ∙ e

  number : (a : Answered) → c.answer_judged.result ≡ a → answer_code words ≡ answer_number a
  number a e = with_record words _ _ lent ∙ ap answer_number (given a e)

  index : (a : Answered) (old : ℕ) → c.answer_judged.result ≡ a → answer_index words old ≡ cleared_index a old
  index a old e = with_record words _ _ lent ∙ ap (λ (r : Answered). cleared_index r old) (given a e)

  made : (a : Answered) (old : ℕ) → c.answer_judged.result ≡ a → answer_probes words old ≡ cleared_probes a old
  made a old e = with_record words _ _ lent ∙ ap (λ (r : Answered). cleared_probes r old) (given a e)

pub returns-in-Ok : goal.returns-in-Ok
returns-in-Ok c =
    let r = (goal.at.returns-in-Ok c).After-answer_judged in
    let e = c.in-Ok.is in
    (sym (number r _ e), sym (index r _ _ e), sym (made r _ _ e))

pub returns-in-Err : goal.returns-in-Err
returns-in-Err c =
    let r = (goal.at.returns-in-Err c).After-answer_judged in
    let e = c.in-Err.is in
    (c.from-in-Err.ensures ∙ sym (number r _ e), sym (index r _ _ e), sym (made r _ _ e))
