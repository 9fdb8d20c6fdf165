-- Hearing a round: how it is judged, and what it makes of the record. Assumes nothing.
use Rattle.std.specs.Prelude.{◌≡◌, true, false, not, ◌&&◌, List, ◌∷◌, ℕ, ◌*◌, length}
use Rattle.refusal.specs.Judging.{◌⇒◌, judged}
use Rattle.refusal.specs.Refusal.{Judgement}
use Rattle.refusal.specs.declared.Refusal.TheVariants.{OutOfRange, WrongLength, OutOfTurn}
use Rattle.ranges.specs.Sizes.{long}
use Rattle.presence.specs.Presence.{are_marks, how_many}
use Rattle.record.specs.declared.Party.{Party}
use Rattle.record.specs.declared.Reply.{Reply}
use Rattle.record.specs.Record.{sound, ended, replied}
use Rattle.message.specs.Message.{sheet_words}
use Rattle.saying.specs.Say.{sheets_long, current}
use Rattle.listening.specs.Listen.{width_of, of_messages}
use Rattle.heard_round.specs.Next.{heard_next}

unfoldable pub hear_judgement : (q : Party) (totals sheets messages present : List ℕ) → Judgement
hear_judgement q totals sheets messages present =
    judged
    ((not (sound q && are_marks present) ⇒ OutOfRange)
    ∷ (not (long (2 * q.k) totals && long (sheets_long q.k q.last) sheets && (long (q.n * width_of q) messages && long q.n present)) ⇒ WrongLength)
    ∷ (ended q ⇒ OutOfTurn)
    ∷ of_messages q totals (current q sheets) messages present)

-- "The board steps a keeper's record by each heard round": what it leaves is the reply's record
abbrev pub hear_reply : (q : Party) (totals sheets messages present : List ℕ) → Reply
hear_reply q totals sheets messages present =
    replied (hear_judgement q totals sheets messages present) (heard_next q (current q sheets) messages present) q

-- what a party has that has the turn: refusals 1, 2 and 3 are out
pub record HasTurn (q : Party) (totals sheet : List ℕ) (count : ℕ) (messages present : List ℕ) : Type 0 where
  pub sound : sound q ≡ true
  pub going : ended q ≡ false
  pub totals_long : length totals ≡ 2 * q.k
  pub sheet_long : length sheet ≡ sheet_words q
  pub counted : count ≡ how_many present
  pub messages_long : length messages ≡ q.n * width_of q
  pub marks_long : length present ≡ q.n
