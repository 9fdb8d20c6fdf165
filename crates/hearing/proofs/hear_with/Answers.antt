-- `hear_with` meets its contract: what is judged before the words are opened, and then a level, or a round of single words. Assumes nothing.
use Rattle.std.proofs.Common.{Ok, Err}
use Rattle.std.proofs.lemmas.Result.{err_from_is_err_and}
use mathlib.Core.Path.{◌≡◌, refl, sym, ap, ap₂, ◌∙◌}
use mathlib.Core.List.{List}
use Prim.Native.Nat.{ℕ}
use lib.Dec.{eqb}
use Rattle.refusal.specs.Judging.{kept, then}
use Rattle.refusal.specs.Refusal.{Judgement}
use Rattle.refusal.proofs.Judging.{kept_old}
use Rattle.presence.specs.Presence.{all_or}
use Rattle.presence.proofs.Laws.{all_counted}
use Rattle.record.specs.declared.Party.{Party}
use Rattle.record_words.specs.Words.{words_of, party_of}
use Rattle.message.specs.Message.{in_level}
use Rattle.listening.specs.Listen.{listening_judgement, opened_judgement, messages_judgement}
use Rattle.listening.proofs.Laws.{listened, listened_bytes}
use Rattle.heard_round.specs.Next.{heard_next, HasSheet}
use Rattle.hearing.specs.Hear.{HasTurn}
use Rattle.hearing.proofs.hear_with.Goals as goal
use Rattle.hearing.proofs.hear_with.Goals.{After-read-q}

module _ (c : After-read-q) where
  abbrev totals : List ℕ
  totals = c.args.totals.now

  abbrev sheet : List ℕ
  sheet = c.args.sheet.now

  abbrev messages : List ℕ
  messages = c.args.messages.now

  abbrev present : List ℕ
  present = c.args.present.now

  abbrev words : List ℕ
  words = c.args.words.now

  -- the record that the words say, and the one that is read
  abbrev said : Party
  said = party_of words

  abbrev q : Party
  q = c.read-q.result

  read_is : q ≡ said
  read_is = c.read-q.ensures

  has : HasTurn q totals sheet c.args.count messages present
  has = rw (sym read_is) at c.requires.1

  -- how it was judged before the words are opened
  judged_by : (i j : Judgement) → i ≡ listening_judgement q totals sheet messages present → i ≡ j
      → messages_judgement said totals sheet messages present ≡ then j (opened_judgement said present messages)
  judged_by i j f e =
      let before = f ∙ ap (λ (x : Party). listening_judgement x totals sheet messages present) read_is in
      listened said totals sheet messages present ∙ ap (λ (k : Judgement). then k (opened_judgement said present messages)) (sym before ∙ e)

  -- as many as there are marks were present exactly where all were
  abbrev whoever : List ℕ
  whoever = all_or (eqb c.args.count q.n) said.n present

  all_here : whoever ≡ present
  all_here =
      ap₂ (λ (m : ℕ) (x : Party). all_or (eqb m x.n) said.n present) has.counted read_is
      ∙ all_counted said.n present c.requires.1.marks_long

  -- where it goes on
  on : listening_judgement q totals sheet messages present ≡ Ok tt
      → opened_judgement said whoever messages ≡ messages_judgement said totals sheet messages present
  on e = ap (λ (P : List ℕ). opened_judgement said P messages) all_here ∙ sym (judged_by _ (Ok tt) refl e)

  leaves : listening_judgement q totals sheet messages present ≡ Ok tt
      → kept (opened_judgement said whoever messages) (words_of (heard_next said sheet messages whoever)) words
      ≡ kept (messages_judgement said totals sheet messages present) (words_of (heard_next said sheet messages present)) words
  leaves e = ap₂ (λ (j : Judgement) (P : List ℕ). kept j (words_of (heard_next said sheet messages P)) words) (on e) all_here

  has_sheet : listening_judgement q totals sheet messages present ≡ Ok tt → HasSheet said sheet
  has_sheet e =
      let h = c.requires.1 in
      record {
        sound = h.sound;
        sheet_long = h.sheet_long;
        sheet_bytes = listened_bytes q totals sheet messages present e;
      }

pub listens-requires : goal.listens-requires
listens-requires c =
    let h = has (goal.at.listens-requires c).After-read-q in
    (h.sound, h.going, h.totals_long, h.sheet_long, h.counted, h.messages_long, h.marks_long)

pub returns-in_err-listens : goal.returns-in_err-listens
returns-in_err-listens c =
    let p = err_from_is_err_and c.from_residual.result c.from_residual.ensures.1 in
    let e = judged_by (goal.at.returns-in_err-listens c).After-read-q _ _ c.listens.ensures c.in_err-listens.was in
    (p.1 ∙ ap Err p.2 ∙ sym e, sym (kept_old _ _ _ _ e))

pub by_level-requires : goal.by_level-requires
by_level-requires c =
    let r = (goal.at.by_level-requires c).After-read-q in
    (c.requires.0, has_sheet r (sym c.listens.ensures ∙ c.in_ok-listens.was), ap in_level (sym (read_is r)) ∙ sym c.in_level.ensures ∙ c.if-in_level.true, c.requires.1.messages_long)

pub returns-then-in_level : goal.returns-then-in_level
returns-then-in_level c =
    let r = (goal.at.returns-then-in_level c).After-read-q in
    let e = sym c.listens.ensures ∙ c.in_ok-listens.was in
    (c.by_level.ensures.0 ∙ on r e, c.by_level.ensures.1 ∙ leaves r e)

pub by_one-requires : goal.by_one-requires
by_one-requires c =
    let r = (goal.at.by_one-requires c).After-read-q in
    (c.requires.0, has_sheet r (sym c.listens.ensures ∙ c.in_ok-listens.was), ap in_level (sym (read_is r)) ∙ sym c.in_level.ensures ∙ c.if-in_level.false)

pub returns : goal.returns
returns c =
    let r = (goal.at.returns c).After-read-q in
    let e = sym c.listens.ensures ∙ c.in_ok-listens.was in
    (c.by_one.ensures.0 ∙ on r e, c.by_one.ensures.1 ∙ leaves r e)
