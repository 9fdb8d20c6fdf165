-- What a heard round leaves of the record: the roll, and as many pair shares as there were. Assumes nothing.
use mathlib.Core.Path.{◌≡◌, refl, ap, ◌∙◌}
use mathlib.Core.Bool.{Bool, true, false}
use mathlib.Core.List.{List}
use Prim.Native.Nat.{ℕ}
use lib.ListN.{length}
use Rattle.ranges.proofs.Ranges.{is_below}
use Rattle.record.specs.declared.Party.{Party}
use Rattle.level.proofs.Laws.{kept_length}
use Rattle.level_round.specs.Columns.{level_sides}
use Rattle.level_round.proofs.Laws.{sides_length}
use Rattle.message.specs.Message.{in_level}
use Rattle.message.proofs.Messages.{level_ready}
use Rattle.saying.specs.Say.{current}
use Rattle.saying.proofs.Sheets.{current_long}
use Rattle.heard_round.specs.Next.{heard_next}
use Rattle.heard_round.proofs.Left.{after_roll, after_many, level_roll, level_pairs, level_next, one_next}
use Rattle.hearing.proofs.Hears.{Hears}

module _ (q : Party) (totals sheets messages present : List ℕ) where
  abbrev next : Party
  next = heard_next q (current q sheets) messages present

  pub heard_roll : next.roll ≡ q.roll
  heard_roll = split (in_level q) refl
    where
      split : (b : Bool) → in_level q ≡ b → next.roll ≡ q.roll
      split true e = ap (λ (p : Party). p.roll) (level_next q (current q sheets) messages present e) ∙ level_roll q _
      split false e = ap (λ (p : Party). p.roll) (one_next q (current q sheets) messages present e) ∙ after_roll q (current q sheets) _

  pub heard_pairs : Hears q totals sheets messages present → length q.pairs.words ≡ 32 → length next.pairs.words ≡ 32
  heard_pairs h many = split (in_level q) refl
    where
      split : (b : Bool) → in_level q ≡ b → length next.pairs.words ≡ 32
      split true e =
          let t = h.turn in
          let r = level_ready q (current q sheets) t.sound e (current_long q t.sound t.going sheets t.sheets_long) (is_below 256 _ h.in_field.bytes) in
          ap (λ (p : Party). length p.pairs.words) (level_next q (current q sheets) messages present e) ∙ ap length (level_pairs q _)
          ∙ kept_length q.round q.sum q.pairs.words (current q sheets) r (level_sides q.n q.round present messages)
          (sides_length q.n q.round present messages)
      split false e = ap (λ (p : Party). length p.pairs.words) (one_next q (current q sheets) messages present e) ∙ after_many q (current q sheets) _ many
