-- `store` meets its contract: no record is lent, or it goes judgement by judgement. Assumes nothing.
use mathlib.Core.Path.{◌≡◌, sym, ap, ◌∙◌}
use mathlib.Core.Bool.{Bool, true, false, not}
use mathlib.Core.List.{List}
use Prim.Native.Nat.{ℕ}
use borrow.Author.Tests.{eqb-true, not-false}
use Rattle.refusal.specs.Refusal.{code_of}
use Rattle.refusal.proofs.Judging.{kept_new, kept_old}
use Rattle.ranges.specs.Sizes.{long}
use Rattle.record_words.specs.Words.{record_size}
use Rattle.record_words.proofs.Lent.{with_record, no_record}
use Rattle.record_words.proofs.store.Goals as goal

pub returns-then-not-is_record : goal.returns-then-not-is_record
returns-then-not-is_record c =
    let words = c.args.words.now in
    let no = ap not (sym c.is_record.ensures) ∙ c.if-not-is_record.true-raw in
    (c.from.ensures ∙ sym (no_record words _ _ no), sym (no_record words _ _ no))

-- where a record is lent
lent : (words : List ℕ) (here : Bool) → here ≡ long record_size words → here ≡ true → not (long record_size words) ≡ false
lent words here e t = ap not (sym e ∙ t)

pub write-requires : goal.write-requires
write-requires c =
    eqb-true _ _ (not-false _ (lent c.args.words.now _ c.is_record.ensures c.if-not-is_record.false))

pub returns-in-Ok : goal.returns-in-Ok
returns-in-Ok c =
    let e = c.in-Ok.is in
    let words = c.args.words.now in
    let here = lent words _ c.is_record.ensures c.if-not-is_record.false in (
      sym (ap code_of e) ∙ sym (with_record words _ _ here),
      c.write.ensures ∙ sym (kept_new _ _ _ e) ∙ sym (with_record words _ _ here),
    )

pub returns-in-Err : goal.returns-in-Err
returns-in-Err c =
    let e = c.in-Err.is in
    let words = c.args.words.now in
    let here = lent words _ c.is_record.ensures c.if-not-is_record.false in (
      c.into.ensures ∙ sym (ap code_of e) ∙ sym (with_record words _ _ here),
      sym (kept_old _ _ _ _ e) ∙ sym (with_record words _ _ here),
    )
