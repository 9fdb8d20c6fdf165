-- The auction that is rehearsed, with the bids of an input. Assumes nothing.
use Rattle.std.specs.Prelude.{List, [], ◌∷◌, ℕ, suc}
use Rattle.auction.specs.Auction.{Auction, Bid}
use Rattle.draws.specs.Draws.{last_rehearsed}

-- "the rehearsal keeps to 33"
abbrev pub rehearsed : (n k : ℕ) → List Bid → Auction
rehearsed n k bids = record { n = n; k = k; last = last_rehearsed; bids = bids }

-- "In the rehearsal, bidders are numbered in file order": these tables are those of bidder b, the next one, and so on
unfoldable pub numbered : (b : ℕ) (tables : List (List ℕ)) → List Bid
numbered b [] = []
numbered b (table ∷ tables) = record { bidder = b; table = table } ∷ numbered (suc b) tables
