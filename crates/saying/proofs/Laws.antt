-- Saying, by its judgement, and the judgement in facts: a party says its word exactly where they hold. Assumes nothing.
use Rattle.std.specs.Prelude.{Err, Ok}
use mathlib.Core.Path.{◌≡◌, refl, sym, ap, ◌∙◌}
use mathlib.Core.Bool.{Bool, true, false, not, ◌&&◌, and-true as and-true-is}
use mathlib.Core.List.{List, [], ◌∷◌}
use Prim.Native.Nat.{ℕ, ◌*◌}
use lib.ListN.{length}
use borrow.Author.Tests.{eqb-true, not-false, eq-eqb}
use Rattle.refusal.specs.Judging.{judged, then}
use Rattle.refusal.specs.declared.Refusal.{Refusal}
use Rattle.refusal.specs.Refusal.{Judgement}
use Rattle.ranges.specs.Sizes.{long}
use Rattle.record.specs.declared.Party.{Party}
use Rattle.record.specs.Record.{sound, ended}
use Rattle.ranges.proofs.Loops.{and-true}
use Rattle.refusal.proofs.Judging.{passes, all_passed, passed, judged_append, then_accepted}
use Rattle.record.proofs.Soundness.{Sound, sound_facts, sound_of}
use Rattle.saying.specs.Say.{sheets_long, current, turn_judgement, say_judgement, words_judgement}
use Rattle.ways.specs.Way.{way_of, width}
use Rattle.message.proofs.Sheets.{InField, in_field_facts, in_field_of}

-- ---- where it is a party's turn

pub record InTurn (q : Party) (totals sheets : List ℕ) : Type 0 where
  pub sound : Sound q
  pub totals_long : length totals ≡ 2 * q.k
  pub sheets_long : length sheets ≡ sheets_long q.k q.last
  pub going : ended q ≡ false

module _ (q : Party) (totals sheets : List ℕ) (else_sound else_long : Bool) where
  pub turns : turn_judgement q (sound q && else_sound) totals sheets else_long ≡ Ok tt → InTurn q totals sheets × (else_sound ≡ true) × (else_long ≡ true)
  unfolding turn_judgement
  turns e =
      let whole = passed _ _ _ e in
      let size = passed _ _ _ whole.1 in
      let turn = passed _ _ _ size.1 in
      let s = and-true _ _ (not-false _ whole.0) in
      let l = and-true _ _ (not-false _ size.0) in
      let l' = and-true _ _ l.0 in (
        record {
          sound = sound_facts q s.0;
          totals_long = eqb-true _ _ l'.0;
          sheets_long = eqb-true _ _ l'.1;
          going = turn.0;
        },
        s.1,
        l.1,
      )

  pub turn_accepted : InTurn q totals sheets → else_sound ≡ true → else_long ≡ true
      → turn_judgement q (sound q && else_sound) totals sheets else_long ≡ Ok tt
  unfolding turn_judgement judged
  turn_accepted h s l =
      rw (
        sound_of q h.sound,
        s,
        eq-eqb (length totals) (2 * q.k) h.totals_long,
        eq-eqb (length sheets) (sheets_long q.k q.last) h.sheets_long,
        l,
        h.going,
      )

-- ---- where a party says its words

pub record Says (q : Party) (totals sheets said : List ℕ) : Type 0 where
  pub turn : InTurn q totals sheets
  pub said_long : length said ≡ width (way_of q.last) q.round
  pub in_field : InField q true totals (current q sheets)

module _ (q : Party) (totals sheets said : List ℕ) where
  abbrev pub said_fits : Bool
  said_fits = long (width (way_of q.last) q.round) said

  as_turn : say_judgement q totals sheets said ≡ then (turn_judgement q (sound q) totals sheets said_fits) (words_judgement q totals (current q sheets))
  unfolding say_judgement turn_judgement words_judgement
  as_turn = judged_append (_ ∷ _ ∷ _ ∷ []) (_ ∷ [])

  alone : turn_judgement q (sound q && true) totals sheets said_fits ≡ turn_judgement q (sound q) totals sheets said_fits
  alone = ap (λ (b : Bool). turn_judgement q b totals sheets said_fits) (and-true-is (sound q))

  pub says_turn : turn_judgement q (sound q) totals sheets said_fits ≡ Ok tt → InTurn q totals sheets × (length said ≡ width (way_of q.last) q.round)
  says_turn e = let t = turns q totals sheets true said_fits (alone ∙ e) in (t.0, eqb-true _ _ t.2)

  pub no_turn : (why : Refusal) → turn_judgement q (sound q) totals sheets said_fits ≡ Err why → say_judgement q totals sheets said ≡ Err why
  no_turn why e = as_turn ∙ ap (λ (j : Judgement). then j (words_judgement q totals (current q sheets))) e

  pub by_words : turn_judgement q (sound q) totals sheets said_fits ≡ Ok tt → say_judgement q totals sheets said ≡ words_judgement q totals (current q sheets)
  by_words e = as_turn ∙ ap (λ (j : Judgement). then j (words_judgement q totals (current q sheets))) e

  pub says : say_judgement q totals sheets said ≡ Ok tt → Says q totals sheets said
  unfolding words_judgement
  says e =
      let both = then_accepted _ (words_judgement q totals (current q sheets)) (sym as_turn ∙ e) in
      record {
        turn = (says_turn both.0).0;
        said_long = (says_turn both.0).1;
        in_field = in_field_facts q true totals (current q sheets) (not-false _ (passed _ _ _ both.1).0);
      }

  pub say_accepted : Says q totals sheets said → say_judgement q totals sheets said ≡ Ok tt
  unfolding words_judgement
  say_accepted h =
      by_words (sym alone ∙ turn_accepted q totals sheets true said_fits h.turn refl (eq-eqb _ _ h.said_long))
      ∙ passes _ _ _ (ap not (in_field_of q true totals (current q sheets) h.in_field)) ∙ all_passed
