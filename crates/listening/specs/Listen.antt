-- Listening to a round: "Heard words stand keeper by keeper, keeper 1 first", each one's words together, and so do the marks of who was
-- present. What is judged of them, of a party that has the turn and is given the sheet. Assumes nothing.
use Rattle.std.specs.Prelude.{Bool, false, cond, not, ◌&&◌, ◌||◌, List, [], ◌∷◌, ◌++◌, ℕ, ◌-◌, ◌*◌, leb, eqb, take, drop}
use Rattle.refusal.specs.Judging.{Test, ◌⇒◌, judged}
use Rattle.refusal.specs.Refusal.{Judgement}
use Rattle.refusal.specs.declared.Refusal.TheVariants as refusal
use Rattle.ranges.specs.Lists.{same}
use Rattle.ways.specs.Way.{way_of, width}
use Rattle.sharing.specs.Scheme.{threshold}
use Rattle.presence.specs.Presence.{how_many, is_present}
use Rattle.record.specs.declared.Party.{Party}
use Rattle.record.specs.Record.{are_totals}
use Rattle.round.specs.declared.Heard.{Heard}
use Rattle.round.specs.declared.Heard.TheVariants.{Sum, Factors, Verdict, Total, Unopened}
use Rattle.round.specs.Round.{heard, unopened, sum_outside, verdict_outside}
use Rattle.level_round.specs.Columns.{level_opened}
use Rattle.message.specs.Message.{in_field, in_level, message}
use Rattle.stepping.specs.After.{role}

-- how many words each party says in the round, and a party's own among those heard
abbrev pub width_of : Party → ℕ
width_of q = width (way_of q.last) q.round

abbrev pub own_words : Party → List ℕ → List ℕ
own_words q messages = take (width_of q) (drop ((q.own - 1) * width_of q) messages)

-- What is judged before the words are opened. "The own word is compared only if its keeper is marked." What the party would say is worked
-- out for this comparison alone, so a party that is not marked uses no word of the totals.
abbrev pub of_listening : (q : Party) (totals sheet messages present : List ℕ) → List Test
of_listening q totals sheet messages present =
    (leb (how_many present) (threshold q.n) ⇒ refusal.TooFewPresent)
    ∷ (not (in_field q (is_present present q.own) totals sheet) ⇒ refusal.ShareOutOfRange)
    ∷ (is_present present q.own && not (same (own_words q messages) (message q totals sheet)) ⇒ refusal.OwnMessageDiffers)
    ∷ []

unfoldable pub listening_judgement : (q : Party) (totals sheet messages present : List ℕ) → Judgement
listening_judgement q totals sheet messages present = judged (of_listening q totals sheet messages present)

-- What the round opens to. "Levels are judged as rounds 2 to 32": every product of a level opens, or nothing does.
unfoldable pub opening : (q : Party) (present messages : List ℕ) → Heard
opening q present messages =
    cond (in_level q) (cond (level_opened q.n q.round present messages) (Factors 0 0) Unopened) (heard q.n (role q) present messages)

-- "An opened total of 2^32 or more, or S above D, is 11": round 34 opens D, round 35 S, and the other is the record's
abbrev pub total_outside : (round demand supply : ℕ) → Heard → Bool
total_outside round demand supply (Sum v) = false
total_outside round demand supply (Factors d e) = false
total_outside round demand supply (Verdict v) = false
total_outside round demand supply (Total v) = not (are_totals (cond (eqb round 34) v demand) (cond (eqb round 34) supply v))
total_outside round demand supply Unopened = false

-- the tests of what the messages open to, alone
abbrev pub of_opening : (round demand supply : ℕ) → Heard → List Test
of_opening round demand supply opening =
    (unopened opening ⇒ refusal.Inconsistent)
    ∷ ((sum_outside opening || total_outside round demand supply opening) ⇒ refusal.SumOutOfRange)
    ∷ (verdict_outside opening ⇒ refusal.VerdictNotBit)
    ∷ []

abbrev pub opening_judgement : (round demand supply : ℕ) → Heard → Judgement
opening_judgement round demand supply opening = judged (of_opening round demand supply opening)

abbrev pub opened_judgement : (q : Party) (present messages : List ℕ) → Judgement
opened_judgement q present messages = opening_judgement q.round q.demand q.supply (opening q present messages)

-- all of it
abbrev pub of_messages : (q : Party) (totals sheet messages present : List ℕ) → List Test
of_messages q totals sheet messages present =
    of_listening q totals sheet messages present ++ of_opening q.round q.demand q.supply (opening q present messages)

unfoldable pub messages_judgement : (q : Party) (totals sheet messages present : List ℕ) → Judgement
messages_judgement q totals sheet messages present = judged (of_messages q totals sheet messages present)
