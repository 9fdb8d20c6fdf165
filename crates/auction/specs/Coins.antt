-- The coins of an auction (the paper's draws), in groups as they are used, and as the calls are given them. Assumes nothing.
use Rattle.std.specs.Prelude.{◌≡◌, List, [], ◌∷◌, ◌++◌, map, ℕ, ◌*◌, length}
use Rattle.fields.specs.Amount.{p}
use Rattle.sharing.specs.Scheme.{threshold}
use Rattle.ways.specs.Way.{way_of}
use Rattle.search.specs.Limit.{most_probes}
use Rattle.comparison.specs.Probe.{SheetCoins, SheetInRange, Group, Each, TripleCoins}
use Rattle.auction.specs.Auction.{Auction, Bid}

-- for each bid a group of t coins for each of its 2k amounts; for each lent sheet what the dealer draws
pub record Coins : Type 0 where
  pub bids : List (List (List ℕ))
  pub sheets : List SheetCoins

-- a bid, with the coins that are drawn for it
abbrev pub DrawnBid : Type 0
DrawnBid = Bid × List (List ℕ)

-- "all within their ranges"
pub record InRange (a : Auction) (c : Coins) : Type 0 where
  pub bids_many : length c.bids ≡ length a.bids
  pub bids : Each (λ groups. (length groups ≡ 2 * a.k) × Each (Group p (threshold a.n)) groups) c.bids
  pub sheets_many : length c.sheets ≡ most_probes a.k
  pub sheets : Each (SheetInRange (way_of a.last) (threshold a.n)) c.sheets

unfoldable pub flat : List (List ℕ) → List ℕ
flat [] = []
flat (xs ∷ xss) = xs ++ flat xss

-- "the mask b (below 2^58), then its t coefficients"
abbrev pub coin_words : SheetCoins → List ℕ
coin_words c = c.mask ∷ c.of_mask

-- "alpha, beta and t coefficients each for alpha, beta, gamma"
abbrev pub triple_bytes : TripleCoins → List ℕ
triple_bytes c = c.alpha ∷ c.beta ∷ (c.of_alpha ++ (c.of_beta ++ c.of_gamma))

-- "t coefficients for each of bits 1 to 33 of b .. then" those of each triple
unfoldable pub coin_bytes : SheetCoins → List ℕ
coin_bytes c = flat c.of_bits ++ flat (map triple_bytes c.triples)
