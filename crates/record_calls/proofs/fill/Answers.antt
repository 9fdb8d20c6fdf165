-- `fill` meets its contract: the slice is no record, or the call is `filling::fill` on what it holds. Assumes nothing.
use mathlib.Core.Path.{◌≡◌, sym, ap, ◌∙◌}
use mathlib.Core.Bool.{false, not}
use Prim.Native.Nat.{ℕ}
use mathlib.Core.List.{List}
use Rattle.ranges.specs.Sizes.{long}
use Rattle.record.specs.Record.{sound}
use Rattle.record.specs.declared.Party.{Party}
use Rattle.std.proofs.Common.{Result}
use Rattle.refusal.specs.declared.Refusal.{Refusal}
use Rattle.filling.specs.declared.Hours.{Hours}
use Rattle.filling.specs.Fill.{fill_reply, filled_number, filled_hours, filled_remainder}
use Rattle.record_calls.specs.Calls.{fill_code, fill_hours, fill_remainder}
use Rattle.record_words.specs.Words.{record_size, party_of}
use Rattle.record_words.proofs.Lent.{lent_long, with_record, no_record}
use Rattle.record_calls.proofs.fill.Goals as goal
use Rattle.record_calls.proofs.fill.Goals.{After-fill_judged}

pub returns-then-not-is_record : goal.returns-then-not-is_record
returns-then-not-is_record c =
    let words = c.args.words.now in
    let no = ap not (sym c.is_record.ensures ∙ c.if-not-is_record.true) in
    (c.from.ensures ∙ sym (no_record words _ _ no), sym (no_record words _ _ no), sym (no_record words _ _ no))

pub is_sound-whole-requires : goal.is_sound-whole-requires
is_sound-whole-requires c = lent_long c.args.words.now (ap not (sym c.is_record.ensures ∙ c.if-not-is_record.false))

pub read-requires : goal.read-requires
read-requires c = lent_long c.args.words.now (ap not (sym c.is_record.ensures ∙ c.if-not-is_record.false))

pub fill_judged-requires : goal.fill_judged-requires
fill_judged-requires c = c.is_sound-whole.ensures ∙ ap sound (sym c.read.ensures)

abbrev Filled : Type 0
Filled = Result Hours Refusal

-- where `fill` has been called
module _ (c : After-fill_judged) where
  abbrev words : List ℕ
  words = c.args.words.now

  abbrev amount : ℕ
  amount = c.args.amount

  lent : not (long record_size words) ≡ false
  lent = ap not (sym c.is_record.ensures ∙ c.if-not-is_record.false)

  -- the fill, as it was matched
  given : (f : Filled) → c.fill_judged.result ≡ f → fill_reply (party_of words) amount ≡ f
  given f e = sym (c.fill_judged.ensures ∙ ap (λ (q : Party). fill_reply q amount) c.read.ensures) ∙ e

  number : (f : Filled) → c.fill_judged.result ≡ f → fill_code words amount ≡ filled_number f
  number f e = with_record words _ _ lent ∙ ap filled_number (given f e)

  hours : (f : Filled) (old : ℕ) → c.fill_judged.result ≡ f → fill_hours words amount old ≡ filled_hours f old
  hours f old e = with_record words _ _ lent ∙ ap (λ (r : Filled). filled_hours r old) (given f e)

  left_over : (f : Filled) (old : ℕ) → c.fill_judged.result ≡ f → fill_remainder words amount old ≡ filled_remainder f old
  left_over f old e = with_record words _ _ lent ∙ ap (λ (r : Filled). filled_remainder r old) (given f e)

pub returns-in-Ok : goal.returns-in-Ok
returns-in-Ok c =
    let r = (goal.at.returns-in-Ok c).After-fill_judged in
    let e = c.in-Ok.is in
    (sym (number r _ e), sym (hours r _ _ e), sym (left_over r _ _ e))

pub returns-in-Err : goal.returns-in-Err
returns-in-Err c =
    let r = (goal.at.returns-in-Err c).After-fill_judged in
    let e = c.in-Err.is in
    (c.from-in-Err.ensures ∙ sym (number r _ e), sym (hours r _ _ e), sym (left_over r _ _ e))
