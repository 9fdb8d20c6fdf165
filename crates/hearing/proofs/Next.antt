-- The record after a heard round is sound. Assumes nothing.
use mathlib.Core.Path.{◌≡◌, refl, sym, ap₂, ◌∙◌}
use mathlib.Core.Bool.{Bool, true, false, cond, ◌&&◌, ◌||◌}
use lib.Dec.{eqb}
use borrow.Author.Tests.{eqb-true, eq-eqb}
use Rattle.ways.specs.Way.{is_way}
use Rattle.kept_pairs.specs.Pairs.{small}
use Rattle.level.specs.Level.{level_kept}
use Rattle.level.proofs.Laws.{kept_length, kept_small}
use Rattle.level_round.specs.Columns.{level_sides}
use Rattle.level_round.proofs.Laws.{sides_at, heard_bytes}
use Rattle.level_round.proofs.Laws.{sides_length as level_many}
use Rattle.message.proofs.Messages.{level_facts, level_ready, sheet_at_least}
use Rattle.search.specs.Searches.{clears}
use mathlib.Core.List.{List}
use Prim.Native.Nat.{ℕ, ◌+◌, ◌-◌, ◌*◌, ◌≤◌, ◌<◌}
use native.Mathlib.Omega.{arith}
use lib.ListN.{length, get_or}
use Rattle.search.specs.Searches.{next}
use Rattle.search.proofs.Bounds.{roomy_next, roomy_sound}
use Rattle.record.specs.declared.Party.{Party}
use Rattle.record.specs.Record.{ended}
use Rattle.record.specs.Updates.{totalled}
use Rattle.round.specs.declared.Heard.{Heard}
use Rattle.round.specs.declared.Heard.TheVariants.{Sum, Factors, Verdict, Total, Unopened}
use Rattle.message.specs.Message.{sheet_words, bit_share, triple_share, in_level}
use Rattle.saying.specs.Say.{current}
use Rattle.heard_round.specs.Next.{heard_next}
use Rattle.round.specs.Round.{Possible}
use Rattle.stepping.specs.After.{role, after, after_level}
use Rattle.stepping.proofs.Next.{first_carry_lt, next_carry_lt}
use Rattle.record.proofs.Soundness.{Sound, probe_on, total_on}
use Rattle.record.proofs.Updates.{in_round_sound, decided_sound, totalled_sound, Roomy, roomy_in_round, roomy_decided, roomy_totalled}
use Rattle.ranges.proofs.Ranges.{is_below}
use Rattle.message.proofs.Sheets.{byte_at}
use Rattle.saying.proofs.Sheets.{current_long}
use Rattle.round.proofs.Opened.{heard_possible}
use Rattle.listening.proofs.Laws.{Admitted, one_opening}
use Rattle.heard_round.proofs.Roles.{role_is, role_other, role_least, last_on, late_on}
use Rattle.heard_round.proofs.Left.{level_next, one_next}
use Rattle.hearing.proofs.Hears.{Hears}

-- before the last round there is another
before_last : (q : Party) → Sound q → ended q ≡ false → q.round ≤ 32 → (q.round ≡ q.last → ⊥) → q.round + 1 ≤ q.last
before_last q s on l n = split (clears q.search) refl
  where
    less : (round last : ℕ) → round ≤ last → (round ≡ last → ⊥) → round + 1 ≤ last
    less round last a n = omega (arith, n)

    split : (t : Bool) → clears q.search ≡ t → q.round + 1 ≤ q.last
    split true c = absurd (omega (arith, (s.round.opening c).0))
    split false c = less q.round q.last (s.round.probing c) n

last_two : (last : ℕ) → is_way last ≡ true → 2 ≤ last
unfolding is_way
last_two last e = split (eqb last 33) refl e
  where
    split : (t : Bool) → eqb last 33 ≡ t → (t || eqb last 7) ≡ true → 2 ≤ last
    split true a e = omega (arith, eqb-true last 33 a)
    split false a e = omega (arith, eqb-true last 7 e)

begun_byte : (b : Bool) {x y : ℕ} → x ≤ 255 → y ≤ 255 → cond b x y ≤ 255
begun_byte true hx hy = hx
begun_byte false hx hy = hy

-- ---- the next record is sound

module _ (q : Party) (sheet : List ℕ) (s : Sound q) (going : ended q ≡ false) (room : Roomy q) where
  roomy_after : (h : Heard) → Possible (role q) h → Roomy (after q sheet h)
  unfolding after
  roomy_after (Sum v) p = roomy_in_round q _ _ _ _ room
  roomy_after (Factors d e) p = roomy_in_round q _ _ _ _ room
  roomy_after (Verdict v) p = roomy_decided q (next q.search v) (roomy_next q.k q.search v room (probe_on q s going (last_on q s p)))
  roomy_after (Total v) p = roomy_totalled q v room
  roomy_after Unopened p = room

  module _ (bytes_at : q.round ≤ 33 → (i : ℕ) → 1 ≤ i → i < 127 → get_or sheet i 0 < 256) where
    sound_after : in_level q ≡ false → (h : Heard) → Possible (role q) h → Admitted q.round q.demand q.supply h → Sound (after q sheet h)
    unfolding after totalled
    sound_after one (Sum v) p a =
        let e : q.round ≡ 1 = sym (role_is q (omega (arith, p))) ∙ p in
        in_round_sound q 2 v _ q.pairs s (probe_on q s going (omega (arith, e))) (omega arith) (last_two q.last s.way) (omega (arith, a.1))
        (begun_byte (eqb q.last 7) s.carry (omega (arith, first_carry_lt v (bit_share sheet 1) (bytes_at (omega (arith, e)) 1 (omega arith) (omega arith))))) s.pairs
    sound_after one (Factors d e) p a =
        let same = role_is q p.1 in
        let triple : (which : ℕ) → which ≤ 2 → triple_share sheet q.round which < 256 =
        λ which h. bytes_at (omega (arith, p.1, same)) (34 + 3 * (q.round - 2) + which) (omega arith) (omega (arith, p.1, same)) in
        let carried = next_carry_lt q.sum q.round d e _ _ _ p.2 p.3 (triple 0 (omega arith)) (triple 1 (omega arith)) (triple 2 (omega arith)) in
        in_round_sound q (q.round + 1) q.sum _ q.pairs s (probe_on q s going (omega (arith, p.1, same))) (omega arith)
        (before_last q s going (omega (arith, p.1, same)) (role_other q p.1)) s.sum (omega (arith, carried)) s.pairs
    sound_after one (Verdict v) p a =
        decided_sound q (next q.search v) s (roomy_sound q.k (next q.search v) (roomy_next q.k q.search v room (probe_on q s going (last_on q s p))))
    sound_after one (Total v) p a =
        let t = total_on q s going (late_on q p) in
        totalled_sound q v s t.0 t.2 a
    sound_after one Unopened p a = absurd a

-- after a level
sound_level : (q : Party) (kept : List ℕ) → Sound q → ended q ≡ false → in_level q ≡ true → small (record { words = kept }) ≡ true → Sound (after_level q kept)
unfolding after_level
sound_level q kept s going e k =
    let f = level_facts q e in
    in_round_sound q (q.round + 1) q.sum q.carry (record { words = kept }) s (probe_on q s going (omega (arith, f.2))) (omega arith) (omega (arith, f.0, f.2)) s.sum s.carry k

roomy_level : (q : Party) (kept : List ℕ) → Roomy q → Roomy (after_level q kept)
unfolding after_level
roomy_level q kept room = roomy_in_round q _ _ _ _ room

-- "The board steps a keeper's record by each heard round": it stays sound.
pub hears_sound : (q : Party) (totals sheets messages present : List ℕ) → Hears q totals sheets messages present → Roomy q
    → Sound (heard_next q (current q sheets) messages present) × Roomy (heard_next q (current q sheets) messages present)
unfolding small
hears_sound q totals sheets messages present h room = split (in_level q) refl
  where
    sheet_long : length (current q sheets) ≡ sheet_words q
    sheet_long = current_long q h.turn.sound h.turn.going sheets h.turn.sheets_long

    level : in_level q ≡ true → small (record { words = level_kept q.round q.sum q.pairs.words (current q sheets) (level_sides q.n q.round present messages) }) ≡ true
    level e =
        let r = level_ready q (current q sheets) h.turn.sound e sheet_long (is_below 256 _ h.in_field.bytes) in
        let os = level_sides q.n q.round present messages in
        let m = level_many q.n q.round present messages in
        ap₂ ◌&&◌ (eq-eqb _ 32 (kept_length q.round q.sum q.pairs.words (current q sheets) r os m))
        (kept_small q.round q.sum q.pairs.words (current q sheets) r os m
        (λ j l. rw (sides_at q.n q.round present messages j l) (heard_bytes q.n q.round present _ h.turn.sound.round.least)))

    split : (b : Bool) → in_level q ≡ b → Sound (heard_next q (current q sheets) messages present) × Roomy (heard_next q (current q sheets) messages present)
    split true e =
        rw (level_next q (current q sheets) messages present e)
        (sound_level q _ h.turn.sound h.turn.going e (level e), roomy_level q _ room)
    split false e =
        let t = h.turn in
        let possible = heard_possible q.n (role q) present messages (role_least q t.sound.round.least) in
        rw (one_next q (current q sheets) messages present e) (
          sound_after q (current q sheets) t.sound t.going room
              (λ r i l m. byte_at (current q sheets) i (is_below 256 _ h.in_field.bytes) l (omega (arith, sheet_at_least q (current q sheets) r sheet_long)))
              e _ possible (rw (one_opening q messages present e) at h.opening),
          roomy_after q (current q sheets) t.sound t.going room _ possible,
        )
