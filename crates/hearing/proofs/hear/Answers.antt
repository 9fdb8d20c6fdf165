-- `hear` meets its contract: the record is written as its words, stepped where they stand, and read again. Assumes nothing.
use Rattle.std.specs.Prelude.{Err, Ok}
use mathlib.Core.Path.{◌≡◌, refl, sym, ap, ap₂, ◌∙◌}
use mathlib.Core.List.{List}
use Prim.Native.Nat.{ℕ}
use lib.ListN.{length}
use borrow.Author.Rules.{rules}
use Rattle.refusal.specs.Refusal.{Judgement}
use Rattle.refusal.proofs.Judging.{kept_new, kept_old}
use Rattle.roll.specs.declared.Roll.{Roll}
use Rattle.record.specs.declared.Party.{Party}
use Rattle.record.specs.declared.Reply.{Reply}
use Rattle.record.proofs.Replies.{reply_judgement, next_accepted, next_refused}
use Rattle.record_words.specs.Words.{words_of, party_of, stored}
use Rattle.record_words.proofs.ReadBack.{reads_back}
use Rattle.hearing.specs.Hear.{hear_judgement, hear_reply}
use Rattle.hearing.proofs.Hears.{hears}
use Rattle.hearing.proofs.Left.{heard_roll, heard_pairs}
use Rattle.hearing.proofs.hear.Goals as goal

-- what is read from the words that a hearing leaves
module _ (q : Party) (totals sheets messages present : List ℕ) (long : length q.roll.words ≡ 16) (many : length q.pairs.words ≡ 32) where
  abbrev reply : Reply
  reply = hear_reply q totals sheets messages present

  read_again : (j : Judgement) → hear_judgement q totals sheets messages present ≡ j → party_of (stored reply (words_of q)) ≡ reply.party
  read_again (Ok tt) e =
      let made = next_accepted _ _ _ e in
      let h = hears q totals sheets messages present e in
      ap (λ (r : Reply). party_of (stored r (words_of q))) made
      ∙ ap party_of (kept_new _ _ _ refl)
      ∙ reads_back _ (ap (λ (r : Roll). length r.words) (heard_roll q totals sheets messages present) ∙ long) (heard_pairs q totals sheets messages present h many)
      ∙ ap (λ (r : Reply). r.party) (sym made)
  read_again (Err why) e =
      let made = next_refused _ _ _ why e in
      ap (λ (r : Reply). party_of (stored r (words_of q))) made ∙ ap party_of (kept_old _ _ _ why refl) ∙ reads_back q long many ∙ ap (λ (r : Reply). r.party) (sym made)

pub returns : goal.returns
returns c =
    let a = c.args in
    let q = a.q in
    let totals = a.totals.now in
    let sheets = a.sheets.now in
    let messages = a.messages.now in
    let present = a.present.now in
    let long : length q.roll.words ≡ 16 = search rules in
    let many : length q.pairs.words ≡ 32 = search rules in
    let same : party_of c.write.new.words ≡ q = ap party_of c.write.ensures ∙ reads_back q long many in
    let judged_as = c.hear_words-judgement.ensures.0 ∙ ap (λ (r : Party). hear_judgement r totals sheets messages present) same in
    let left =
    c.hear_words-judgement.ensures.1
    ∙ ap₂ (λ (r : Party) (words : List ℕ). stored (hear_reply r totals sheets messages present) words) same c.write.ensures in
    ap₂ (λ (j : Judgement) (r : Party). record { judgement = j; party = r }) (judged_as ∙ sym (reply_judgement _ _ q))
    (c.read.ensures ∙ ap party_of left ∙ read_again q totals sheets messages present long many (hear_judgement q totals sheets messages present) refl)
