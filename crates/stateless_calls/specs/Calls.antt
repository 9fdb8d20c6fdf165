-- The calls that take no record: each one's code, and what it leaves in each lent place, by the definitions of the call that it wraps. "A refusal
-- returns its number; lent buffers and the record are as before." Assumes nothing.
use Rattle.std.specs.Prelude.{List, ℕ}
use Rattle.refusal.specs.Refusal.{code_of}
use Rattle.bid.specs.Split.{split_judgement}
use Rattle.bid.specs.Entry.{split_entry_judgement}
use Rattle.dealer.specs.Deal.{deal_judgement}
use Rattle.settlement.specs.Write.{write_reply, written_number, written_bytes}
use Rattle.settlement.specs.Read.{read_judgement}

-- ---- splitting and dealing: what is left is `split_left`, `split_entry_left` and `deal_left`

abbrev pub split_code : (n own k : ℕ) (table coins shares : List ℕ) → ℕ
split_code n own k table coins shares = code_of (split_judgement n own k table coins shares)

abbrev pub split_entry_code : (n own k entry : ℕ) (table coins shares : List ℕ) → ℕ
split_entry_code n own k entry table coins shares = code_of (split_entry_judgement n own k entry table coins shares)

abbrev pub deal_code : (n own last : ℕ) (words drawn sheet : List ℕ) → ℕ
deal_code n own last words drawn sheet = code_of (deal_judgement n own last words drawn sheet)

-- ---- the settlement page: what is left of the page is `write_left`, and of the entries `read_left`

module _ (price : ℕ) (entries page : List ℕ) where
  abbrev pub settlement_write_code : ℕ
  settlement_write_code = written_number (write_reply price entries page)

  abbrev pub settlement_written : (old : ℕ) → ℕ
  settlement_written old = written_bytes (write_reply price entries page) old

abbrev pub settlement_read_code : (price : ℕ) (page entries : List ℕ) → ℕ
settlement_read_code price page entries = code_of (read_judgement price page entries)
