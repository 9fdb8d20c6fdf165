-- `say` meets its contract: the slice is no record, or the call is `saying::say` on what it holds. Assumes nothing.
use mathlib.Core.Path.{◌≡◌, sym, ap, ◌∙◌}
use mathlib.Core.Bool.{false, not}
use Rattle.refusal.specs.Refusal.{code_of}
use Rattle.ranges.specs.Sizes.{long}
use Rattle.record.specs.declared.Party.{Party}
use Rattle.record.specs.Record.{sound}
use Rattle.saying.specs.Say.{say_judgement, say_left}
use Rattle.record_words.specs.Words.{record_size}
use Rattle.record_words.proofs.Lent.{lent_long, with_record, no_record}
use Rattle.round_calls.proofs.say.Goals as goal

pub returns-then-not-is_record : goal.returns-then-not-is_record
returns-then-not-is_record c =
    let words = c.args.words.now in
    let no = ap not (sym c.is_record.ensures ∙ c.if-not-is_record.true) in
    (c.from.ensures ∙ sym (no_record words _ _ no), sym (no_record words _ _ no))

pub is_sound-whole-requires : goal.is_sound-whole-requires
is_sound-whole-requires c = lent_long c.args.words.now (ap not (sym c.is_record.ensures ∙ c.if-not-is_record.false))

pub read-requires : goal.read-requires
read-requires c = lent_long c.args.words.now (ap not (sym c.is_record.ensures ∙ c.if-not-is_record.false))

pub say_judged-requires : goal.say_judged-requires
say_judged-requires c = c.is_sound-whole.ensures ∙ ap sound (sym c.read.ensures)

pub returns : goal.returns
returns c =
    let a = c.args in
    let words = a.words.now in
    let lent : not (long record_size words) ≡ false = ap not (sym c.is_record.ensures ∙ c.if-not-is_record.false) in (
      c.code.ensures
          ∙ ap code_of (c.say_judged.ensures.0 ∙ ap (λ (q : Party). say_judgement q a.totals.now a.sheets.now a.messages.now) c.read.ensures)
          ∙ sym (with_record words _ _ lent),
      c.say_judged.ensures.1 ∙ ap (λ (q : Party). say_left q a.totals.now a.sheets.now a.messages.now) c.read.ensures
          ∙ sym (with_record words _ _ lent),
    )
