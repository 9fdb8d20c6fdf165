-- All parties at once: their records side by side, their totals and sheets one after another in flat slices. Assumes nothing.
use Rattle.std.specs.Prelude.{List, ◌++◌, ℕ, ◌+◌, ◌*◌, ◌<◌, take, drop, get_or, replicate}
use Rattle.ways.specs.Way.{way_of, sheet_size}
use Rattle.bid.specs.Split.{split_left}
use Rattle.dealer.specs.Deal.{deal_left}
use Rattle.record.specs.declared.Party.{Party}
use Rattle.record.specs.Record.{blank}
use Rattle.session.specs.Add.{add_reply, add_left}

-- of the first n
abbrev pub All : ℕ → (ℕ → Type 0) → Type 0
All n P = (i : ℕ) → i < n → P i

-- of parts of the same width, the one after i others
unfoldable pub part : (width i : ℕ) → List ℕ → List ℕ
part width i xs = take width (drop (i * width) xs)

-- ---- a bid

-- a party's shares of it
unfoldable pub shares_of : (n k own : ℕ) (table coins : List ℕ) → List ℕ
shares_of n k own table coins = split_left n own k table coins (replicate (2 * k) 0)

-- the record and the totals of the party after i others, once it has added them
unfoldable pub party_added : (n k bidder : ℕ) (table coins : List ℕ) → List Party → List ℕ → ℕ → Party
party_added n k bidder table coins parties totals i =
    (add_reply (get_or parties i blank) (part (2 * k) i totals) bidder (shares_of n k (i + 1) table coins)).party

unfoldable pub totals_added : (n k bidder : ℕ) (table coins : List ℕ) → List Party → List ℕ → ℕ → List ℕ
totals_added n k bidder table coins parties totals i =
    add_left (get_or parties i blank) (part (2 * k) i totals) bidder (shares_of n k (i + 1) table coins)

-- ---- a sheet

-- a party's sheets, with the one at a place dealt
unfoldable pub sheet_dealt : (n own last : ℕ) (words drawn : List ℕ) (at : ℕ) → List ℕ → List ℕ
sheet_dealt n own last words drawn at sheets =
    let size = sheet_size (way_of last) in
    take at sheets ++ (deal_left n own last words drawn (take size (drop at sheets)) ++ drop (at + size) sheets)
