-- The sheets that are dealt: the words of the polynomials that the drawn coins make. Assumes nothing.
use Rattle.std.specs.Prelude.{List, map, ◌++◌, ℕ, ◌+◌, take, drop}
use Rattle.comparison.specs.Probe.{SheetCoins, sheet_polynomials, sheet_shares}
use Rattle.auction.specs.Coins.{flat}
use Rattle.draws.specs.Draws.{sheet_coins}

-- a party's sheets, with the one at a place made of the draws from a state on
unfoldable pub sheet_put : (t state own at : ℕ) → List ℕ → List ℕ
sheet_put t state own at sheets = take at sheets ++ (sheet_shares own (sheet_polynomials (sheet_coins t state)) ++ drop (at + 127) sheets)

-- all of a party's sheets
unfoldable pub sheets_of : ℕ → List SheetCoins → List ℕ
sheets_of own ss = flat (map (λ s. sheet_shares own (sheet_polynomials s)) ss)
