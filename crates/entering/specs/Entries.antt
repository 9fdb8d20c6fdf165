-- What the bids of an input want and get at an index. Assumes nothing.
use Rattle.std.specs.Prelude.{List, [], ◌∷◌, ℕ, ◌+◌, ◌-◌, get_or}
use Rattle.record.specs.declared.Party.{Party}
use Rattle.filling.specs.Fill.{fill_reply, filled_hours}

-- four entries for each of the tables, each for k listed prices: at index i its bidder wants to buy so much, and gets some of it; and wants
-- to sell so much, and "a seller sells all"
unfoldable pub entries : (got : ℕ → ℕ) → (k i : ℕ) → (tables : List (List ℕ)) → List ℕ
entries got k i [] = []
entries got k i (table ∷ tables) =
    get_or table (i - 1) 0 ∷ got (get_or table (i - 1) 0) ∷ get_or table (k + i - 1) 0 ∷ get_or table (k + i - 1) 0 ∷ entries got k i tables

-- what a buyer is told with a record, nothing where that is refused
abbrev pub hours_told : Party → (amount : ℕ) → ℕ
hours_told q amount = filled_hours (fill_reply q amount) 0
