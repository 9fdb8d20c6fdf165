-- `hear` meets its contract: the slice is no record, or the call is `hearing::hear` on what it holds. Assumes nothing.
use mathlib.Core.Path.{◌≡◌, sym, ap, ◌∙◌}
use mathlib.Core.Bool.{false, not}
use Rattle.std.proofs.Common.{is_some}
use Prim.Native.Nat.{ℕ}
use mathlib.Core.List.{List}
use Rattle.refusal.specs.Refusal.{code_of}
use Rattle.record_words.specs.Words.{record_size, party_of, code_on, code_without}
use Rattle.record_words.proofs.Lent.{lent_long, with_record, with_record_code, no_record, no_record_code}
use Rattle.ranges.specs.Sizes.{long}
use Rattle.presence.specs.Presence.{are_marks}
use Rattle.record.specs.declared.Party.{Party}
use Rattle.record.specs.Record.{sound}
use Rattle.hearing.specs.Hear.{hear_judgement}
use Rattle.hearing.proofs.Hears.{counted}
use Rattle.round_calls.proofs.hear.Goals as goal
use Rattle.round_calls.proofs.hear.Goals.{After-is_record}

-- where a record is lent, the code is the judgement's: the marks are judged beside the record, by its first test
hears : (words : List ℕ) → not (long record_size words) ≡ false → (q : Party) (totals sheets messages present : List ℕ)
    → code_on words (are_marks present) (hear_judgement q totals sheets messages present) ≡ code_of (hear_judgement q totals sheets messages present)
unfolding hear_judgement
hears words lent q totals sheets messages present = with_record_code words (sound q) (are_marks present) _ lent

-- what is lent, once it is known whether there is a record
module _ (c : After-is_record) where
  abbrev words : List ℕ
  words = c.args.words.now

pub returns-then-not-is_record : goal.returns-then-not-is_record
returns-then-not-is_record c =
    let no = ap not (sym c.is_record.ensures ∙ c.if-not-is_record.true) in (
      c.without_record.ensures ∙ ap code_without (c.is_some.ensures ∙ ap is_some c.count_marks.ensures ∙ counted _ _) ∙ sym (no_record_code (words (goal.at.returns-then-not-is_record c).After-is_record) _ _ no),
      sym (no_record (words (goal.at.returns-then-not-is_record c).After-is_record) _ _ no),
    )

pub hear_words-requires : goal.hear_words-requires
hear_words-requires c =
    lent_long (words (goal.at.hear_words-requires c).After-is_record) (ap not (sym c.is_record.ensures ∙ c.if-not-is_record.false))

pub returns : goal.returns
returns c =
    let a = c.args in
    let lent = ap not (sym c.is_record.ensures ∙ c.if-not-is_record.false) in (
      c.code.ensures ∙ ap code_of c.hear_words.ensures.0 ∙ sym (hears (words (goal.at.returns c).After-is_record) lent (party_of (words (goal.at.returns c).After-is_record)) a.totals.now a.sheets.now a.messages.now a.present.now),
      c.hear_words.ensures.1 ∙ sym (with_record (words (goal.at.returns c).After-is_record) _ _ lent),
    )
