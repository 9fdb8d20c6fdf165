-- Where the parties stand in an auction: their records and flat slices against the closed forms of its run. Assumes nothing.
use mathlib.Core.Path.{◌≡◌}
use mathlib.Core.List.{List, zip}
use Prim.Native.Nat.{ℕ, ◌+◌, ◌*◌}
use lib.ListN.{get_or}
use Rattle.sharing.specs.Scheme.{threshold}
use Rattle.search.specs.Limit.{most_probes}
use Rattle.search.specs.declared.searches.Search.{Search}
use Rattle.search.specs.Searches.{first_search, next}
use Rattle.ways.specs.Way.{way_of}
use Rattle.comparison.specs.Probe.{SheetCoins, secret, last_polynomial}
use Rattle.record.specs.declared.Party.{Party}
use Rattle.roll.specs.declared.Roll.{Roll}
use Rattle.roll.specs.Marks.{empty}
use Rattle.auction.specs.Auction.{Auction, Bid, IsAuction}
use Rattle.auction.specs.Coins.{Coins, InRange}
use Rattle.auction.specs.Canonical.{Seat}
use Rattle.auction.proofs.Closed.{totals_after, at_party, no_totals, polynomials, full_roll, probe_of, Stage, fresh_stage, decided_stage, seat}
use Rattle.auction.proofs.Bidding.{holding}
use Rattle.auction.proofs.Round.{Ready}
use Rattle.auction.proofs.Whole.{last, end}
use Rattle.draws.specs.Draws.{bid_coins}
use Rattle.sections.specs.Sections.{tables}
use Rattle.record.specs.Record.{blank}
use Rattle.panel.specs.Parties.{All, part}
use Rattle.standing.specs.Numbered.{rehearsed, numbered}

-- what the party after i others has
abbrev pub seat_of : (k : ℕ) → List Party → (totals sheets : List ℕ) → ℕ → Seat
seat_of k parties totals sheets i =
    record { party = get_or parties i blank; totals = part (2 * k) i totals; sheets = part (127 * most_probes k) i sheets }

-- all parties stand at a stage
abbrev pub Stands : (a : Auction) → Coins → Stage → List Party → (totals sheets : List ℕ) → Type 0
Stands a c σ parties totals sheets = All a.n (λ i. seat_of a.k parties totals sheets i ≡ seat a c σ (i + 1))

-- the verdict of a probe
abbrev pub verdict_at : (a : Auction) → Coins → Search → SheetCoins → ℕ
verdict_at a c here s = secret (last_polynomial (way_of a.last) (probe_of a (polynomials a c) here s))

-- 33 rounds are a probe of every auction in which the parties may stand
abbrev pub Probes : (n k : ℕ) → List Party → (totals sheets : List ℕ) → List Party → Type 0
Probes n k parties totals sheets after =
    (bids : List Bid) (c : Coins) → IsAuction (rehearsed n k bids) → InRange (rehearsed n k bids) c
    → (here : Search) (s : SheetCoins) (ss : List SheetCoins) → Ready (rehearsed n k bids) c here s ss
    → Stands (rehearsed n k bids) c (fresh_stage here) parties totals sheets
    → Stands (rehearsed n k bids) c
    (decided_stage (next here (verdict_at (rehearsed n k bids) c here s))) after totals sheets

-- and the rounds after the last probe end the session of every auction in which the parties may stand
abbrev pub Closes : (n k : ℕ) → List Party → (totals sheets : List ℕ) → List Party → Type 0
Closes n k parties totals sheets after =
    (bids : List Bid) (c : Coins) → IsAuction (rehearsed n k bids) → InRange (rehearsed n k bids) c
    → Stands (rehearsed n k bids) c (decided_stage (last (rehearsed n k bids) c)) parties totals sheets
    → Stands (rehearsed n k bids) c (end (rehearsed n k bids) c) after totals sheets

-- what holds of every auction in which the parties may stand at the start
abbrev pub FromStart : (n k : ℕ) → List Party → (totals sheets : List ℕ) → (Auction → Type 0) → Type 0
FromStart n k parties totals sheets P =
    (bids : List Bid) (c : Coins) → IsAuction (rehearsed n k bids) → InRange (rehearsed n k bids) c
    → Stands (rehearsed n k bids) c (fresh_stage (first_search k)) parties totals sheets → P (rehearsed n k bids)

-- ---- the bids

-- the bids of these on the roll are held, with the polynomials fs behind the totals
abbrev pub Holds : (a : Auction) (roll : Roll) → List (List ℕ) → List Party → List ℕ → Type 0
Holds a roll fs parties totals =
    All a.n (λ i. (get_or parties i blank ≡ holding a.n a.k a.last roll (i + 1)) × (part (2 * a.k) i totals ≡ at_party (i + 1) fs))

-- the auction of an input
abbrev pub auction_of : (n k bids : ℕ) → List ℕ → Auction
auction_of n k bids bytes = rehearsed n k (numbered 1 (tables k bids bytes))

-- where the tables are good, all bids are added
abbrev pub Adds : (n k bids : ℕ) (bytes : List ℕ) (state : ℕ) → List Party → List ℕ → List Party → List ℕ → Type 0
Adds n k bids bytes state parties totals new_parties new_totals =
    IsAuction (auction_of n k bids bytes) → Holds (auction_of n k bids bytes) empty (no_totals (auction_of n k bids bytes)) parties totals
    → Holds (auction_of n k bids bytes) (full_roll (auction_of n k bids bytes))
    (totals_after (zip (numbered 1 (tables k bids bytes)) (bid_coins (threshold n) k bids state)) (no_totals (auction_of n k bids bytes))) new_parties new_totals
