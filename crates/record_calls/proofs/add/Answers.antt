-- `add` meets its contract: the slice is no record, or the call is `session::add` on what it holds. Assumes nothing.
use mathlib.Core.Path.{◌≡◌, sym, ap, ◌∙◌}
use mathlib.Core.Bool.{not}
use Rattle.refusal.specs.Refusal.{code_of}
use Rattle.record.specs.declared.Party.{Party}
use Rattle.record.specs.declared.Reply.{Reply}
use Rattle.record.specs.Record.{sound}
use Rattle.session.specs.Add.{add_reply, add_left}
use Rattle.record_words.specs.Words.{party_of, on_record, number_on, code_without, stored}
use Rattle.record_words.proofs.Lent.{lent_long, with_record, no_record, no_record_code}
use Rattle.record_calls.proofs.Codes.{adds}
use Rattle.record_calls.proofs.add.Goals as goal

pub returns-then-not-is_record : goal.returns-then-not-is_record
returns-then-not-is_record c =
    let no = ap not (sym c.is_record.ensures ∙ c.if-not-is_record.true) in (
      c.without_record.ensures ∙ ap code_without c.is_bidder.ensures ∙ sym (no_record_code c.args.words.now _ _ no),
      sym (no_record c.args.words.now _ _ no),
      sym (no_record c.args.words.now _ _ no),
    )

pub is_sound-whole-requires : goal.is_sound-whole-requires
is_sound-whole-requires c =
    lent_long c.args.words.now (ap not (sym c.is_record.ensures ∙ c.if-not-is_record.false))

pub read-requires : goal.read-requires
read-requires c =
    lent_long c.args.words.now (ap not (sym c.is_record.ensures ∙ c.if-not-is_record.false))

pub add_judged-requires : goal.add_judged-requires
add_judged-requires c = c.is_sound-whole.ensures ∙ ap sound (sym c.read.ensures)

pub returns : goal.returns
returns c =
    let lent = ap not (sym c.is_record.ensures ∙ c.if-not-is_record.false) in
    let s = c.store.ensures in
    let given : c.add_judged.result ≡ add_reply (party_of c.args.words.now) c.args.totals.now c.args.bidder c.args.shares.now =
    c.add_judged.ensures.0 ∙ ap (λ (q : Party). add_reply q c.args.totals.now c.args.bidder c.args.shares.now) c.read.ensures in (
      s.0 ∙ ap (λ (r : Reply). number_on c.args.words.now (code_of r.judgement)) given ∙ adds c.args.words.now lent _ c.args.totals.now c.args.bidder c.args.shares.now,
      s.1 ∙ ap (λ (r : Reply). on_record c.args.words.now (stored r c.args.words.now) c.args.words.now) given,
      c.add_judged.ensures.1 ∙ ap (λ (q : Party). add_left q c.args.totals.now c.args.bidder c.args.shares.now) c.read.ensures ∙ sym (with_record c.args.words.now _ _ lent),
    )
