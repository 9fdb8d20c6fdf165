-- What an auction is fixed by, but for its coins; its totals, its answers and its probes. Assumes nothing.
use Rattle.std.specs.Prelude.{◌≡◌, true, cond, List, map, ℕ, ◌+◌, ◌-◌, ◌*◌, ◌≤◌, leb, eqb, length, get_or}
use Rattle.ranges.specs.Distinct.{Distinct}
use Rattle.ranges.specs.Lists.{every, sum}
use Rattle.ways.specs.Way.{is_way}
use Rattle.bid.specs.Table.{most, monotone}
use Rattle.search.specs.Clearing.{clearing, balancing, price_index}
use Rattle.search.specs.Limit.{most_probes}
use Rattle.search.specs.Search.{promise, Decision, trail}
use Rattle.search.specs.Searches.{side, first_search}
use Rattle.comparison.specs.Probe.{Each}

-- "Each bid shall carry a bidder number"
pub record Bid : Type 0 where
  pub bidder : ℕ
  pub table : List ℕ

-- n parties, k listed prices, the last round of each probe, and the bids in order of entry
pub record Auction : Type 0 where
  pub n : ℕ
  pub k : ℕ
  pub last : ℕ
  pub bids : List Bid

-- who bids, in order of entry
abbrev pub bidders : Auction → List ℕ
bidders a = map (λ b. b.bidder) a.bids

-- "tables free of faults 6 and 7"
pub record GoodTable (k : ℕ) (table : List ℕ) : Type 0 where
  pub long : length table ≡ 2 * k
  pub small : every (λ a. leb a most) table ≡ true
  pub monotone : monotone k table ≡ true

-- "n is 3 to 9", "k listed prices, 1 to 1,024"; bidders are different numbers "1 to 1,000", so it is "a list of 0 to 1,000 bids"
pub record IsAuction (a : Auction) : Type 0 where
  pub n_least : 3 ≤ a.n
  pub n_most : a.n ≤ 9
  pub k_least : 1 ≤ a.k
  pub k_most : a.k ≤ 1024
  -- "The session chooses 33 or 7 as the last round of its probes"
  pub way : is_way a.last ≡ true
  pub bidders : Distinct 1000 (bidders a)
  pub tables : Each (λ b. GoodTable a.k b.table) a.bids

-- what each bidder would buy at an index
abbrev pub wanted : Auction → ℕ → List ℕ
wanted a i = map (λ b. get_or b.table (i - 1) 0) a.bids

-- total demand and total supply there, "added in tenths unrounded"
unfoldable pub demand : Auction → ℕ → ℕ
demand a i = sum (wanted a i)

unfoldable pub supply : Auction → ℕ → ℕ
supply a i = sum (map (λ b. get_or b.table (a.k + i - 1) 0) a.bids)

-- "The clearing answer of a run is the highest index at which total demand, over its bids, is at least total supply, or 0."
abbrev pub clearing_answer : Auction → ℕ
clearing_answer a = clearing (demand a) (supply a) a.k

-- "the lowest j from 1 to i with supply at least demand", 0 where there is none
abbrev pub balanced_answer : Auction → ℕ
balanced_answer a = balancing (demand a) (supply a) a.k

-- "If there is such a j the price index is (i + j)/2 rounded down, else i."
abbrev pub price_answer : Auction → ℕ
price_answer a = price_index (clearing_answer a) (balanced_answer a)

-- what is compared at an index: whether the left side is at least the right one. These are total demand and total supply, in the second
-- search "with the sides exchanged".
abbrev pub left_side : Auction → (which i : ℕ) → ℕ
left_side a which i = side which (demand a i) (supply a i)

abbrev pub right_side : Auction → (which i : ℕ) → ℕ
right_side a which i = side which (supply a i) (demand a i)

-- the probes that the two searches make on an auction's totals
abbrev pub probed : Auction → List Decision
probed a = trail (promise (demand a) (supply a)) (most_probes a.k) (first_search a.k)

-- "When the index m is not 0, the keepers open total demand D and total supply S at m, in rounds 34 and 35."
abbrev pub total_rounds : Auction → ℕ
total_rounds a = cond (eqb (price_answer a) 0) 0 2

-- all rounds of a run
abbrev pub rounds : Auction → ℕ
rounds a = a.last * length (probed a) + total_rounds a
