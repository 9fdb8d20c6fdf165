-- `hear_words` meets its contract: whether it is the party's turn, and then the messages. Assumes nothing.
use Rattle.std.proofs.Common.{Ok, Err, Some, None, Option, is_some}
use Rattle.std.proofs.lemmas.Option.{same_Some}
use Rattle.std.proofs.lemmas.Result.{err_from_is_err_and}
use mathlib.Core.Path.{◌≡◌, refl, sym, ap, subst, ◌∙◌}
use mathlib.Core.Bool.{Bool, true, cond, ◌&&◌}
use mathlib.Core.List.{List}
use Prim.Native.Nat.{ℕ, ◌*◌}
use lib.Dec.{leb}
use lib.ListN.{length}
use borrow.Author.Tests.{eqb-true, le-leb}
use Rattle.refusal.specs.Judging.{kept}
use Rattle.refusal.specs.Refusal.{Judgement}
use Rattle.refusal.proofs.Judging.{kept_old}
use Rattle.ranges.specs.Sizes.{long}
use Rattle.ranges.proofs.Loops.{and-true}
use Rattle.presence.specs.Presence.{are_marks, how_many}
use Rattle.record.specs.declared.Party.{Party}
use Rattle.record.specs.declared.Reply.{Reply}
use Rattle.record.specs.Record.{sound, replied}
use Rattle.record.proofs.Soundness.{sound_facts, sound_of}
use Rattle.record.proofs.Replies.{next_accepted, next_refused}
use Rattle.record_words.specs.Words.{words_of, party_of, stored}
use Rattle.saying.specs.Say.{current, turn_judgement}
use Rattle.saying.proofs.Sheets.{current_there, current_long}
use Rattle.saying.proofs.Laws.{InTurn, turns}
use Rattle.listening.specs.Listen.{width_of, messages_judgement}
use Rattle.heard_round.specs.Next.{heard_next}
use Rattle.hearing.specs.Hear.{HasTurn, hear_judgement}
use Rattle.hearing.proofs.Hears.{counted, turn_of, turn_whole, no_turn, by_messages}
use Rattle.hearing.proofs.hear_words.Goals as goal
use Rattle.hearing.proofs.hear_words.Goals.{After-turn}

-- what a reply leaves in the record's words, by how it was judged
stored_by : (judgement : Judgement) (next old : Party) (words : List ℕ)
    → stored (replied judgement next old) words ≡ kept judgement (words_of next) words
unfolding kept
stored_by (Ok tt) next old words = ap (λ (r : Reply). stored r words) (next_accepted (Ok tt) next old refl)
stored_by (Err why) next old words = ap (λ (r : Reply). stored r words) (next_refused (Err why) next old why refl)

module _ (c : After-turn) where
  abbrev words : List ℕ
  words = c.args.words.now

  -- the record that the words say
  abbrev q : Party
  q = c.read-q.result

  read_is : q ≡ party_of words
  read_is = c.read-q.ensures

  abbrev totals : List ℕ
  totals = c.args.totals.now

  abbrev sheets : List ℕ
  sheets = c.args.sheets.now

  abbrev messages : List ℕ
  messages = c.args.messages.now

  abbrev present : List ℕ
  present = c.args.present.now

  abbrev fits : Bool
  fits = long (q.n * width_of q) messages && long q.n present

  -- a sound record has at most nine parties
  few : sound q && are_marks present ≡ true → (leb q.n 9 && fits) ≡ fits
  few e =
      let n = (sound_facts q (and-true (sound q) (are_marks present) e).0).listed.parties_most in
      ap (λ (b : Bool). b && fits) (le-leb q.n 9 n)

  marks : c.is_some.result ≡ are_marks present
  marks = c.is_some.ensures ∙ ap is_some c.count_marks-count.ensures ∙ counted _ _

  turn_is : c.turn.result ≡ turn_of q totals sheets messages present
  turn_is =
      let whole = c.is_sound-whole.ensures ∙ ap sound (sym read_is) in
      c.turn.ensures
      ∙ (λ k. turn_judgement q (whole k && marks k) totals sheets (c.are_messages-long.ensures k))
      ∙ turn_whole q (sound q && are_marks present) (leb q.n 9 && fits) fits totals sheets few

  -- where it is the party's turn
  in_turn : (j : Judgement) → c.turn.result ≡ j → turn_of q totals sheets messages present ≡ j
  in_turn j e = sym turn_is ∙ e

  facts : turn_of q totals sheets messages present ≡ Ok tt → InTurn q totals sheets
  facts e = (turns q totals sheets _ _ e).0

  lengths : turn_of q totals sheets messages present ≡ Ok tt → (length messages ≡ q.n * width_of q) × (length present ≡ q.n)
  lengths e =
      let l = and-true _ _ (turns q totals sheets _ _ e).2 in
      (eqb-true _ _ l.0, eqb-true _ _ l.1)

  count_is : turn_of q totals sheets messages present ≡ Ok tt → c.count_marks-count.result ≡ Some (how_many present)
  count_is e =
      c.count_marks-count.ensures
      ∙ ap (λ (b : Bool). cond b (Some (how_many present)) None) (turns q totals sheets _ _ e).1

pub returns-in_err-turn : goal.returns-in_err-turn
returns-in_err-turn c =
    let r = (goal.at.returns-in_err-turn c).After-turn in
    let p = err_from_is_err_and c.from_residual.result c.from_residual.ensures.1 in
    let e = ap (λ (x : Party). hear_judgement x (totals r) (sheets r) (messages r) (present r)) (sym (read_is r))
    ∙ no_turn (q r) (totals r) (sheets r) (messages r) (present r) _ (in_turn r _ c.in_err-turn.was) in
    (p.1 ∙ ap Err p.2 ∙ sym e, sym (stored_by _ _ _ (words r) ∙ kept_old _ _ _ _ e))

pub current-requires : goal.current-requires
current-requires c =
    let r = (goal.at.current-requires c).After-turn in
    let f = facts r (in_turn r _ c.in_ok-turn.was) in
    current_there (q r) f.sound f.going (sheets r) f.sheets_long

pub unwrap-requires : goal.unwrap-requires
unwrap-requires c =
    let r = (goal.at.unwrap-requires c).After-turn in
    ap is_some (count_is r (in_turn r _ c.in_ok-turn.was))

pub hear_with-requires : goal.hear_with-requires
hear_with-requires c =
    let r = (goal.at.hear_with-requires c).After-turn in
    let on = in_turn r _ c.in_ok-turn.was in
    let f = facts r on in
    let has : HasTurn (q r) (totals r) c.current.result.now c.unwrap.result (messages r) (present r) =
    record {
      sound = sound_of (q r) f.sound;
      going = f.going;
      totals_long = f.totals_long;
      sheet_long = ap length c.current.ensures ∙ current_long (q r) f.sound f.going (sheets r) f.sheets_long;
      counted = same_Some _ _ (sym c.unwrap.ensures ∙ count_is r on);
      messages_long = (lengths r on).0;
      marks_long = (lengths r on).1;
    } in
    (c.requires, subst (λ (x : Party). HasTurn x (totals r) c.current.result.now c.unwrap.result (messages r) (present r)) (read_is r) has)

pub returns : goal.returns
returns c =
    let r = (goal.at.returns c).After-turn in
    let p = party_of (words r) in
    let is : c.current.result.now ≡ current p (sheets r) = c.current.ensures ∙ ap (λ (x : Party). current x (sheets r)) (read_is r) in
    let judged_as : messages_judgement p (totals r) (current p (sheets r)) (messages r) (present r) ≡ hear_judgement p (totals r) (sheets r) (messages r) (present r) =
    sym
    (by_messages p (totals r) (sheets r) (messages r) (present r)
    (ap (λ (x : Party). turn_of x (totals r) (sheets r) (messages r) (present r)) (sym (read_is r)) ∙ in_turn r _ c.in_ok-turn.was)) in (
      c.hear_with.ensures.0 ∙ ap (λ (sheet : List ℕ). messages_judgement p (totals r) sheet (messages r) (present r)) is ∙ judged_as,
      c.hear_with.ensures.1
          ∙ ap (λ (sheet : List ℕ). kept (messages_judgement p (totals r) sheet (messages r) (present r)) (words_of (heard_next p sheet (messages r) (present r))) (words r)) is
          ∙ ap (λ (j : Judgement). kept j (words_of (heard_next p (current p (sheets r)) (messages r) (present r))) (words r)) judged_as
          ∙ sym (stored_by _ _ _ (words r)),
    )
