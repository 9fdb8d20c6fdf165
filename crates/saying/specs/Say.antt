-- Saying: "Saying changes nothing." Assumes nothing.
use Rattle.std.specs.Prelude.{Bool, true, not, ◌&&◌, List, [], ◌∷◌, ℕ, ◌*◌, take, drop}
use Rattle.refusal.specs.Judging.{◌⇒◌, judged, kept}
use Rattle.refusal.specs.Refusal.{Judgement}
use Rattle.refusal.specs.declared.Refusal.TheVariants.{OutOfRange, WrongLength, OutOfTurn, ShareOutOfRange}
use Rattle.ranges.specs.Sizes.{long}
use Rattle.ways.specs.Way.{way_of, sheet_size, width}
use Rattle.search.specs.Limit.{most_probes}
use Rattle.record.specs.declared.Party.{Party}
use Rattle.record.specs.Record.{sound, ended}
use Rattle.message.specs.Message.{sheet_words, in_field, message}

-- "Every probe's sheets are lent in order", for both searches: "127 times 2P words are lent", or 220 times
abbrev pub sheets_long : (k last : ℕ) → ℕ
sheets_long k last = sheet_size (way_of last) * most_probes k

-- "With q probes done, sheet q + 1 is the current one", and "probes done counts both": the second search goes on with "further sheets"
unfoldable pub current : Party → List ℕ → List ℕ
current q sheets = take (sheet_words q) (drop (sheet_size (way_of q.last) * q.search.probes) sheets)

-- Whether it is a party's turn, the first tests of a saying and of a hearing: `whole` says whether all that has a range is in it. A
-- hearing is lent more, and `else_long` says whether that is as long as stated.
unfoldable pub turn_judgement : (q : Party) (whole : Bool) (totals sheets : List ℕ) (else_long : Bool) → Judgement
turn_judgement q whole totals sheets else_long =
    judged
    ((not whole ⇒ OutOfRange)
    ∷ (not (long (2 * q.k) totals && long (sheets_long q.k q.last) sheets && else_long) ⇒ WrongLength)
    ∷ (ended q ⇒ OutOfTurn)
    ∷ [])

-- the words of a party that has the turn, and is given the sheet
unfoldable pub words_judgement : (q : Party) (totals sheet : List ℕ) → Judgement
words_judgement q totals sheet = judged ((not (in_field q true totals sheet) ⇒ ShareOutOfRange) ∷ [])

-- `said` is lent for the words, "exactly as long as stated": as many as the round has
unfoldable pub say_judgement : (q : Party) (totals sheets said : List ℕ) → Judgement
say_judgement q totals sheets said =
    judged
    ((not (sound q) ⇒ OutOfRange)
    ∷ (not (long (2 * q.k) totals && long (sheets_long q.k q.last) sheets && long (width (way_of q.last) q.round) said) ⇒ WrongLength)
    ∷ (ended q ⇒ OutOfTurn)
    ∷ (not (in_field q true totals (current q sheets)) ⇒ ShareOutOfRange)
    ∷ [])

-- what the slice lent for the words holds afterwards
abbrev pub say_left : (q : Party) (totals sheets said : List ℕ) → List ℕ
say_left q totals sheets said = kept (say_judgement q totals sheets said) (message q totals (current q sheets)) said
