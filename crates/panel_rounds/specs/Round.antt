-- A round of all parties: what each says, and its record once it has heard. Assumes nothing.
use Rattle.std.specs.Prelude.{List, [], ◌∷◌, map, ℕ, ◌*◌, get_or}
use Rattle.ranges.specs.Lists.{from}
use Rattle.search.specs.Limit.{most_probes}
use Rattle.record.specs.declared.Party.{Party}
use Rattle.saying.specs.Say.{say_left}
use Rattle.hearing.specs.Hear.{hear_reply}
use Rattle.auction.specs.Coins.{flat}
use Rattle.record.specs.Record.{blank}
use Rattle.panel.specs.Parties.{part}

-- what the party after i others says, in a slice lent for its words; of sheets it is lent so many words
unfoldable pub said_by : (k lent : ℕ) → List Party → (totals sheets : List ℕ) → ℕ → List ℕ → List ℕ
said_by k lent parties totals sheets i said = say_left (get_or parties i blank) (part (2 * k) i totals) (part lent i sheets) said

-- its record once it has heard the words of those who were present
unfoldable pub heard_by : (k lent : ℕ) → List Party → (totals sheets messages present : List ℕ) → ℕ → Party
heard_by k lent parties totals sheets messages present i =
    (hear_reply (get_or parties i blank) (part (2 * k) i totals) (part lent i sheets) messages present).party

-- what all say in a round of 33, a word each
unfoldable pub all_said : (n k : ℕ) → List Party → (totals sheets : List ℕ) → List ℕ
all_said n k parties totals sheets = flat (map (λ i. said_by k (127 * most_probes k) parties totals sheets i (0 ∷ [])) (from 0 n))
