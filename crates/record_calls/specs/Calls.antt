-- The calls on a lent record: each one's code, and what it leaves in each lent place, by the definitions of the call that it wraps. "A refusal
-- returns its number; lent buffers and the record are as before." Assumes nothing.
use Rattle.std.specs.Prelude.{◌&&◌, List, ℕ}
use Rattle.ranges.specs.Sizes.{party, listed}
use Rattle.ways.specs.Way.{is_way}
use Rattle.roll.specs.Marks.{is_bidder}
use Rattle.session.specs.Open.{open_judgement, open_reply, open_left}
use Rattle.session.specs.Add.{add_judgement, add_reply, add_left}
use Rattle.session.specs.Answer.{answer_reply, answer_number, cleared_index, cleared_probes}
use Rattle.filling.specs.Fill.{fill_reply, filled_number, filled_hours, filled_remainder}
use Rattle.record_words.specs.Words.{party_of, on_record, number_on, code_on, stored}

-- ---- the calls with something to judge that needs no record: "n, keeper number or k outside its range", "33 or 7 as the
-- last round of its probes; another, .. is 1", "A bidder number outside 1 to 1,000 is 1"

module _ (n own k last : ℕ) (totals words : List ℕ) where
  abbrev pub open_code : ℕ
  open_code = code_on words (party n own && listed k && is_way last) (open_judgement n own k last totals)

  abbrev pub open_totals : List ℕ
  open_totals = on_record words (open_left n own k last totals) totals

  abbrev pub open_record : List ℕ
  open_record = on_record words (stored (open_reply n own k last totals) words) words

module _ (words totals : List ℕ) (bidder : ℕ) (shares : List ℕ) where
  abbrev pub add_code : ℕ
  add_code = code_on words (is_bidder bidder) (add_judgement (party_of words) totals bidder shares)

  abbrev pub add_record : List ℕ
  add_record = on_record words (stored (add_reply (party_of words) totals bidder shares) words) words

  abbrev pub add_totals : List ℕ
  add_totals = on_record words (add_left (party_of words) totals bidder shares) totals

-- ---- the others: nothing of them is judged without a record

module _ (words : List ℕ) where
  abbrev pub answer_code : ℕ
  answer_code = number_on words (answer_number (answer_reply (party_of words)))

  abbrev pub answer_index : (old : ℕ) → ℕ
  answer_index old = on_record words (cleared_index (answer_reply (party_of words)) old) old

  abbrev pub answer_probes : (old : ℕ) → ℕ
  answer_probes old = on_record words (cleared_probes (answer_reply (party_of words)) old) old

module _ (words : List ℕ) (amount : ℕ) where
  abbrev pub fill_code : ℕ
  fill_code = number_on words (filled_number (fill_reply (party_of words) amount))

  abbrev pub fill_hours : (old : ℕ) → ℕ
  fill_hours old = on_record words (filled_hours (fill_reply (party_of words) amount) old) old

  abbrev pub fill_remainder : (old : ℕ) → ℕ
  fill_remainder old = on_record words (filled_remainder (fill_reply (party_of words) amount) old) old
