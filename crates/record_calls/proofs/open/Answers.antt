-- `open` meets its contract: the slice is no record, or the call is `session::open`. Assumes nothing.
use mathlib.Core.Path.{sym, ap, ap₂, ◌∙◌}
use mathlib.Core.Bool.{not, ◌&&◌}
use Prim.Native.Nat.{ℕ}
use mathlib.Core.List.{List}
use Rattle.refusal.specs.Refusal.{code_of}
use Rattle.record.specs.declared.Reply.{Reply}
use Rattle.record_words.specs.Words.{on_record, number_on, code_without, stored}
use Rattle.record_words.proofs.Lent.{with_record, no_record, no_record_code}
use Rattle.record_calls.proofs.Codes.{opens}
use Rattle.record_calls.proofs.open.Goals as goal
use Rattle.record_calls.proofs.open.Goals.{After-is_record, After-open}

-- what is lent, once it is known whether there is a record
module _ (c : After-is_record) where
  abbrev words : List ℕ
  words = c.args.words.now

pub returns-then-not-is_record : goal.returns-then-not-is_record
returns-then-not-is_record c =
    let no = ap not (sym c.is_record.ensures ∙ c.if-not-is_record.true) in (
      c.without_record.ensures ∙ ap code_without (ap₂ ◌&&◌ c.on_list.ensures c.is_way.ensures) ∙ sym (no_record_code (words (goal.at.returns-then-not-is_record c).After-is_record) _ _ no),
      sym (no_record (words (goal.at.returns-then-not-is_record c).After-is_record) _ _ no),
      sym (no_record (words (goal.at.returns-then-not-is_record c).After-is_record) _ _ no),
    )

pub returns : goal.returns
returns c =
    let a = c.args in
    let lent = ap not (sym c.is_record.ensures ∙ c.if-not-is_record.false) in
    let given = (goal.at.returns c).After-open.«open».ensures in
    let s = c.store.ensures in (
      s.0 ∙ ap (λ (r : Reply). number_on (words (goal.at.returns c).After-is_record) (code_of r.judgement)) given.0 ∙ opens (words (goal.at.returns c).After-is_record) lent a.n a.own a.k a.last a.totals.now,
      given.1 ∙ sym (with_record (words (goal.at.returns c).After-is_record) _ _ lent),
      s.1 ∙ ap (λ (r : Reply). on_record (words (goal.at.returns c).After-is_record) (stored r (words (goal.at.returns c).After-is_record)) (words (goal.at.returns c).After-is_record)) given.0,
    )
