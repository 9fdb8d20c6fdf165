-- The start of the auction of an input, from which its searches lead on. Assumes nothing.
use mathlib.Core.Path.{◌≡◌, refl, ap, ap₂, subst, ◌∙◌}
use mathlib.Core.List.{List}
use Prim.Native.Nat.{ℕ, ◌+◌, ◌*◌}
use lib.ListN.{length}
use Rattle.sharing.specs.Polynomial.{value}
use Rattle.sharing.specs.Scheme.{threshold}
use Rattle.search.specs.Searches.{first_search}
use Rattle.search.specs.Limit.{most_probes}
use Rattle.kept_pairs.specs.Pairs.{none}
use Rattle.record.specs.declared.Party.{Party}
use Rattle.auction.specs.Auction.{Auction, IsAuction}
use Rattle.auction.specs.Coins.{Coins, InRange}
use Rattle.auction.proofs.Closed.{at_party, polynomials, full_roll, no_words, fresh_stage, record_at, sheets_at, seat}
use Rattle.auction.proofs.Bidding.{holding}
use Rattle.draws.specs.Draws.{first_state, after_bids, all_sheets, auction_coins}
use Rattle.sections.specs.Sections.{tables}
use Rattle.panel.specs.Parties.{All, part}
use Rattle.standing.specs.Numbered.{numbered}
use Rattle.standing.proofs.Holding.{length_numbered}
use Rattle.standing.proofs.Standing.{Stands, FromStart, Holds, auction_of}
use Rattle.drawn_sheets.specs.Dealt.{sheets_of}
use Rattle.sections.proofs.Bids.{length_tables}
use Rattle.draws.proofs.Drawn.{Word, coins_in_range_of}

-- all bids are held and all sheets dealt: the searches can start
pub start_stands : (a : Auction) (c : Coins) (parties : List Party) (totals sheets : List ℕ) → Holds a (full_roll a) (polynomials a c) parties totals
    → All a.n (λ i. part (127 * most_probes a.k) i sheets ≡ sheets_of (i + 1) c.sheets)
    → Stands a c (fresh_stage (first_search a.k)) parties totals sheets
unfolding seat record_at sheets_at sheets_of holding value none no_words
start_stands a c parties totals sheets H D i h =
    ap₂ (λ (q : Party) (x : List ℕ). record { party = q; totals = x; sheets = part (127 * most_probes a.k) i sheets }) (H i h).0 (H i h).1
    ∙ ap (λ (x : List ℕ). record { party = holding a.n a.k a.last (full_roll a) (i + 1); totals = at_party (i + 1) (polynomials a c); sheets = x }) (D i h)

module _ (n k bids seed : ℕ) (bytes : List ℕ) where
  abbrev a : Auction
  a = auction_of n k bids bytes

  abbrev coins : Coins
  coins = auction_coins n k bids seed

  -- what holds from there, as of what `hold` hands on
  pub held_follows : Word seed → (parties : List Party) (totals sheets : List ℕ) (state : ℕ) (P : Auction → Type 0) → IsAuction a
      → Holds a (full_roll a) (polynomials a coins) parties totals → state ≡ after_bids (threshold n) k bids (first_state seed)
      → All n (λ i. part (127 * most_probes k) i sheets ≡ sheets_of (i + 1) (all_sheets (threshold n) (most_probes k) state))
      → FromStart n k parties totals sheets P → P a
  unfolding auction_coins
  held_follows w parties totals sheets state P A H e D S =
      let l : length a.bids ≡ bids = length_numbered 1 (tables k bids bytes) ∙ length_tables k bids bytes in
      S (numbered 1 (tables k bids bytes)) coins A (subst (λ (m : ℕ). InRange a (auction_coins n k m seed)) l (coins_in_range_of a seed refl w))
      (start_stands a coins parties totals sheets H
      (λ i h. D i h ∙ ap (λ (x : ℕ). sheets_of (i + 1) (all_sheets (threshold n) (most_probes k) x)) e))
