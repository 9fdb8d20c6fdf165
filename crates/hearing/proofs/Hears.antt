-- Hearing a round, in facts: when it is accepted. Assumes nothing.
use Rattle.std.proofs.Common.{Ok, Err, Some, None, is_some}
use mathlib.Core.Path.{◌≡◌, refl, sym, ap, ap₂, ◌∙◌}
use mathlib.Core.Bool.{Bool, true, false, not, cond, ◌&&◌}
use mathlib.Core.List.{List, [], ◌∷◌}
use Prim.Native.Nat.{ℕ, ◌*◌, ◌<◌}
use lib.ListN.{length}
use borrow.Author.Tests.{not-false, leb-false, eqb-true, lt-leb, eq-eqb}
use Rattle.refusal.specs.Judging.{then}
use Rattle.refusal.specs.declared.Refusal.{Refusal}
use Rattle.refusal.specs.declared.Refusal.TheVariants.{OutOfRange}
use Rattle.refusal.specs.Refusal.{Judgement}
use Rattle.refusal.proofs.Judging.{refuses, passes, all_passed, passed, judged_append, then_accepted}
use Rattle.ranges.specs.Lists.{same}
use Rattle.ranges.specs.Sizes.{long}
use Rattle.ranges.proofs.Compared.{same_self, same_equal}
use Rattle.ranges.proofs.Loops.{and-true}
use Rattle.sharing.specs.Scheme.{threshold}
use Rattle.presence.specs.Presence.{are_marks, how_many, is_present}
use Rattle.record.specs.declared.Party.{Party}
use Rattle.record.specs.Record.{sound}
use Rattle.message.specs.Message.{message}
use Rattle.message.proofs.Sheets.{InField, in_field_facts, in_field_of}
use Rattle.saying.specs.Say.{current, turn_judgement}
use Rattle.saying.proofs.Laws.{InTurn, turns, turn_accepted}
use Rattle.listening.specs.Listen.{width_of, own_words, opening, of_messages, messages_judgement}
use Rattle.listening.proofs.Laws.{Admitted, admitted, admitted_tests}
use Rattle.hearing.specs.Hear.{hear_judgement}

-- whether the marks have a count
pub counted : (marks : Bool) (count : ℕ) → is_some (cond marks (Some count) None) ≡ marks
counted true count = refl
counted false count = refl

-- ---- hearing is judged as a turn is, and then by the marks and the messages

module _ (q : Party) (totals sheets messages present : List ℕ) where
  -- the judgement of the turn
  abbrev pub turn_of : Judgement
  turn_of = turn_judgement q (sound q && are_marks present) totals sheets (long (q.n * width_of q) messages && long q.n present)

  as_turn : hear_judgement q totals sheets messages present ≡ then turn_of (messages_judgement q totals (current q sheets) messages present)
  unfolding hear_judgement turn_judgement messages_judgement
  as_turn = judged_append (_ ∷ _ ∷ _ ∷ []) (of_messages q totals (current q sheets) messages present)

  pub no_turn : (why : Refusal) → turn_of ≡ Err why → hear_judgement q totals sheets messages present ≡ Err why
  no_turn why e = as_turn ∙ ap (λ (j : Judgement). then j (messages_judgement q totals (current q sheets) messages present)) e

  pub by_messages : turn_of ≡ Ok tt → hear_judgement q totals sheets messages present ≡ messages_judgement q totals (current q sheets) messages present
  by_messages e = as_turn ∙ ap (λ (j : Judgement). then j (messages_judgement q totals (current q sheets) messages present)) e

-- a length is judged only where the record is sound
pub turn_whole : (q : Party) (whole a b : Bool) (totals sheets : List ℕ) → (whole ≡ true → a ≡ b)
    → turn_judgement q whole totals sheets a ≡ turn_judgement q whole totals sheets b
unfolding turn_judgement
turn_whole q true a b totals sheets h = ap (turn_judgement q true totals sheets) (h refl)
turn_whole q false a b totals sheets h = shut a ∙ sym (shut b)
  where
    shut : (x : Bool) → turn_judgement q false totals sheets x ≡ Err OutOfRange
    shut x = refuses _ _ _ refl

-- ---- an accepted hearing

pub record Hears (q : Party) (totals sheets messages present : List ℕ) : Type 0 where
  pub turn : InTurn q totals sheets
  pub marks : are_marks present ≡ true
  pub many : length messages ≡ q.n * width_of q
  pub marks_many : length present ≡ q.n
  pub enough : threshold q.n < how_many present
  -- the totals count where the own words do
  pub in_field : InField q (is_present present q.own) totals (current q sheets)
  pub own : is_present present q.own ≡ true → own_words q messages ≡ message q totals (current q sheets)
  pub opening : Admitted q.round q.demand q.supply (opening q present messages)

-- where a test is made at all
asked : (here test : Bool) → here && not test ≡ false → here ≡ true → test ≡ true
asked true test e h = not-false test e
asked false test e h = cc

not_asked : (here test : Bool) → (here ≡ true → test ≡ true) → here && not test ≡ false
not_asked true test h = ap not (h refl)
not_asked false test h = refl

module _ (q : Party) (totals sheets messages present : List ℕ) where
  pub hears : hear_judgement q totals sheets messages present ≡ Ok tt → Hears q totals sheets messages present
  unfolding messages_judgement
  hears e =
      let both = then_accepted _ (messages_judgement q totals (current q sheets) messages present) (sym (as_turn q totals sheets messages present) ∙ e) in
      let turn = turns q totals sheets _ _ both.0 in
      let lengths = and-true _ _ turn.2 in
      let enough = passed _ _ _ both.1 in
      let field = passed _ _ _ enough.1 in
      let like = passed _ _ _ field.1 in
      let straight = passed _ _ _ like.1 in
      let tame = passed _ _ _ straight.1 in
      let whole = passed _ _ _ tame.1 in
      record {
        turn = turn.0;
        marks = turn.1;
        many = eqb-true _ _ lengths.0;
        marks_many = eqb-true _ _ lengths.1;
        enough = leb-false _ _ enough.0;
        in_field = in_field_facts q _ totals (current q sheets) (not-false _ field.0);
        own = λ here. same_equal _ _ (asked _ _ like.0 here);
        opening = admitted q.round q.demand q.supply (opening q present messages) straight.0 tame.0 whole.0;
      }

  pub hear_accepted : Hears q totals sheets messages present → hear_judgement q totals sheets messages present ≡ Ok tt
  unfolding messages_judgement
  hear_accepted h =
      let tests = admitted_tests q.round q.demand q.supply (opening q present messages) h.opening in
      by_messages q totals sheets messages present
      (turn_accepted q totals sheets _ _ h.turn h.marks
      (ap₂ ◌&&◌ (eq-eqb (length messages) (q.n * width_of q) h.many) (eq-eqb (length present) q.n h.marks_many)))
      ∙ passes _ _ _ (lt-leb (how_many present) (threshold q.n) h.enough)
      ∙ passes _ _ _ (ap not (in_field_of q _ totals (current q sheets) h.in_field))
      ∙ passes _ _ _ (not_asked _ _ (λ here. ap (same _) (sym (h.own here)) ∙ same_self _))
      ∙ passes _ _ _ tests.0 ∙ passes _ _ _ tests.1 ∙ passes _ _ _ tests.2 ∙ all_passed
