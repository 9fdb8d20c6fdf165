-- The calls of a round on a lent record: each one's code, and what it leaves in each lent place, by the definitions of the call that it
-- wraps. "A refusal returns its number; lent buffers and the record are as before." Assumes nothing.
use Rattle.std.specs.Prelude.{List, ℕ}
use Rattle.refusal.specs.Refusal.{code_of}
use Rattle.presence.specs.Presence.{are_marks}
use Rattle.saying.specs.Say.{say_judgement, say_left}
use Rattle.hearing.specs.Hear.{hear_judgement, hear_reply}
use Rattle.record_words.specs.Words.{party_of, on_record, number_on, code_on, stored}

-- nothing of a saying is judged without a record
module _ (words totals sheets messages : List ℕ) where
  abbrev pub say_code : ℕ
  say_code = number_on words (code_of (say_judgement (party_of words) totals sheets messages))

  abbrev pub say_messages : List ℕ
  say_messages = on_record words (say_left (party_of words) totals sheets messages) messages

-- of a hearing the marks are: "a mark above 1 is 1"
module _ (words totals sheets messages present : List ℕ) where
  abbrev pub hear_code : ℕ
  hear_code = code_on words (are_marks present) (hear_judgement (party_of words) totals sheets messages present)

  abbrev pub hear_record : List ℕ
  hear_record = on_record words (stored (hear_reply (party_of words) totals sheets messages present) words) words
