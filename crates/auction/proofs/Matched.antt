-- The coins of a second auction that go with the first's: with them t pooled parties receive the same, and all parties say the same.
-- Assumes nothing.
use mathlib.Core.List.{List, [], ◌∷◌}
use Prim.Native.Nat.{ℕ, ◌+◌, ◌-◌, ◌^◌}
use Rattle.fields.proofs.Fields.{amount_field}
use Rattle.sharing.proofs.Laws.{recolour}
use Rattle.ways.specs.Way.{way_of}
use Rattle.search.specs.Search.{Decision}
use Rattle.comparison.specs.Probe.{SheetCoins}
use Rattle.comparison.proofs.Matched.{moved, matched}
use Rattle.auction.specs.Auction.{Auction, Bid, left_side, right_side, probed}
use Rattle.auction.specs.Coins.{Coins}

-- what a probe opens: T = 2^59 + 2^32 - mask + demand - supply
abbrev pub opening : (demand supply mask : ℕ) → ℕ
opening demand supply mask = 2 ^ 59 + 2 ^ 32 + demand - (mask + supply)

module _ (xs : List ℕ) where
  -- each amount's coefficients, recoloured from the first's amount to the second's: the pool at the points xs has the same shares
  unfoldable pub matched_groups : (table table' : List ℕ) → List (List ℕ) → List (List ℕ)
  matched_groups [] table' gs = []
  matched_groups (x ∷ table) [] gs = []
  matched_groups (x ∷ table) (x' ∷ table') [] = []
  matched_groups (x ∷ table) (x' ∷ table') (g ∷ gs) = recolour amount_field xs x x' g ∷ matched_groups table table' gs

  unfoldable pub matched_bids : (bids bids' : List Bid) → List (List (List ℕ)) → List (List (List ℕ))
  matched_bids [] bids' gss = []
  matched_bids (b ∷ bids) [] gss = []
  matched_bids (b ∷ bids) (b' ∷ bids') [] = []
  matched_bids (b ∷ bids) (b' ∷ bids') (gs ∷ gss) = matched_groups b.table b'.table gs ∷ matched_bids bids bids' gss

module _ (a b : Auction) (xs : List ℕ) where
  -- the sheet of the probe at index i: its mask moved by the second's surplus minus the first's, where the surplus is the left side minus
  -- the right one, so that the same T opens
  unfoldable pub matched_sheet : (which i : ℕ) → SheetCoins → SheetCoins
  matched_sheet which i s =
      matched xs (way_of a.last) (opening (left_side a which i) (right_side a which i) s.mask)
      (moved s.mask (left_side a which i) (right_side a which i) (left_side b which i) (right_side b which i)) s

  -- one sheet for each probe, and unused sheets kept
  unfoldable pub matched_sheets : (probes : List Decision) → List SheetCoins → List SheetCoins
  matched_sheets [] ss = ss
  matched_sheets (d ∷ ds) [] = []
  matched_sheets (d ∷ ds) (s ∷ ss) = matched_sheet d.which d.index s ∷ matched_sheets ds ss

  unfoldable pub match_coins : Coins → Coins
  match_coins c = record { bids = matched_bids xs a.bids b.bids c.bids; sheets = matched_sheets (probed a) c.sheets }
