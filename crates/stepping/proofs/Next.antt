-- The record after a heard round: what stays of it, and that its carry is a byte. Assumes nothing.
use mathlib.Core.Path.{◌≡◌, refl}
use mathlib.Core.List.{List}
use Prim.Native.Nat.{ℕ, ◌<◌}
use Rattle.fields.specs.Byte.{bytes}
use Rattle.fields.proofs.Fields.{byte_field}
use Rattle.comparison.specs.Local.{on_shares}
use Rattle.comparison.specs.Rounds.{differing, first_carry, next_carry}
use Rattle.comparison.proofs.Values.{bit_byte}
use Rattle.search.specs.Searches.{next}
use Rattle.record.specs.declared.Party.{Party}
use Rattle.round.specs.declared.Heard.{Heard}
use Rattle.round.specs.declared.Heard.TheVariants.{Sum, Factors, Verdict, Total, Unopened}
use Rattle.stepping.specs.After.{after, after_level}
use Rattle.record.proofs.Updates.{Same, in_round_same, in_round_roll, decided_same, decided_roll, totalled_same, totalled_roll}

-- ---- n, own number and k stay

pub after_same : (q : Party) (sheet : List ℕ) (h : Heard) → Same q (after q sheet h)
unfolding after
after_same q sheet (Sum v) = in_round_same q _ _ _ _
after_same q sheet (Factors d e) = in_round_same q _ _ _ _
after_same q sheet (Verdict v) = decided_same q (next q.search v)
after_same q sheet (Total v) = totalled_same q v
after_same q sheet Unopened = record { n = refl; own = refl; k = refl }

-- ---- and so does the roll

pub roll_after : (q : Party) (sheet : List ℕ) (h : Heard) → (after q sheet h).roll ≡ q.roll
unfolding after
roll_after q sheet (Sum v) = in_round_roll q _ _ _ _
roll_after q sheet (Factors d e) = in_round_roll q _ _ _ _
roll_after q sheet (Verdict v) = decided_roll q (next q.search v)
roll_after q sheet (Total v) = totalled_roll q v
roll_after q sheet Unopened = refl

-- ---- the carry's share is a byte

pub first_carry_lt : (T b : ℕ) → b < 256 → first_carry (on_shares bytes) T b < 256
unfolding first_carry differing
first_carry_lt T b h =
    let t = bit_byte 1 T in
    byte_field.ring.add_lt _ _ t (byte_field.ring.mul_lt _ _ t (byte_field.ring.add_lt _ _ t h))

pub next_carry_lt : (T i d e alpha beta gamma : ℕ) → d < 256 → e < 256 → alpha < 256 → beta < 256 → gamma < 256
    → next_carry (on_shares bytes) T i d e alpha beta gamma < 256
unfolding next_carry
next_carry_lt T i d e alpha beta gamma hd he ha hb hg =
    let R = byte_field.ring in
    R.add_lt _ _ (bit_byte i T) (R.add_lt _ _ (R.mul_lt d e hd he) (R.add_lt _ _ (R.add_lt _ _ hg (R.mul_lt d beta hd hb)) (R.mul_lt e alpha he ha)))

pub level_same : (q : Party) (kept : List ℕ) → Same q (after_level q kept)
unfolding after_level
level_same q kept = in_round_same q _ _ _ _

pub level_roll : (q : Party) (kept : List ℕ) → (after_level q kept).roll ≡ q.roll
unfolding after_level
level_roll q kept = in_round_roll q _ _ _ _
