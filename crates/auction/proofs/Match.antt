-- The matching coins match: with them the second auction is the same as the first for t pooled parties and in every word that is said,
-- and no other coins do this. Assumes nothing.
use mathlib.Core.Path.{◌≡◌, refl, sym, ap, ap₂, subst, ◌∙◌}
use mathlib.Core.Bool.{true}
use mathlib.Core.List.Memᴰ
use mathlib.Core.List.{List, [], ◌∷◌, map, zip, flatten, Memᴰ}
use mathlib.Core.Logic.{◌⊎◌, inl, inr}
use Prim.Native.Nat.{ℕ, ◌*◌, ◌≤◌, ◌<◌}
use native.Mathlib.Omega.{arith}
use lib.ListN.{length, drop, get_or, length-map}
use Rattle.ways.specs.Way.{way_of, sheet_size}
use Rattle.fields.specs.Amount.{p, amounts}
use Rattle.sharing.specs.Polynomial.{shares}
use Rattle.sharing.specs.Scheme.{threshold}
use Rattle.sharing.proofs.Points.{Different, with_zero}
use Rattle.search.specs.Searches.{first_search}
use Rattle.search.specs.Search.{promise, decision_at, trail}
use Rattle.search.proofs.Balance.{same_promises}
use Rattle.search.proofs.Bounds.{roomy_start}
use Rattle.search.specs.Clearing.{price_index}
use Rattle.comparison.specs.Probe.{probe_messages, Each}
use Rattle.comparison.proofs.Agreement.{In}
use Rattle.auction.specs.Auction.{Auction, Bid, IsAuction, demand, supply, probed}
use Rattle.auction.specs.Coins.{Coins, InRange, flat}
use Rattle.auction.specs.Demands.{Alike, Pool, stays, Stay}
use Rattle.auction.proofs.Matched.{matched_bids, matched_sheets, match_coins}
use Rattle.auction.proofs.Closed.{totals_after, no_totals, at_party, bid_words, polynomials, decision, made, spoken, totals_spoken, sheets_at, probes}
use Rattle.auction.proofs.Totals.{all_good, no_totals_held, totals_monotone}
use Rattle.auction.proofs.Comparing.{compares}
use Rattle.auction.proofs.SameBids.{bids_many, bids_ranged, bids_words, bids_only, totals_same, shares_same}
use Rattle.auction.proofs.SameSheets.{spoken_same}
use Rattle.auction.proofs.SameTotals.{totals_alike}
use Rattle.auction.proofs.SameProbes.{auction, Setting, Course, course, sheets_ranged, sheets_many, words_same, made_same, unused_same, sheets_only}

-- what the second auction, with these coins, has in common with the first
pub record Match (a b : Auction) (xs : List ℕ) (c : Coins) : Type 0 where
  pub ranged : InRange b (match_coins a b xs c)
  -- a pooled party's shares of every bid and of every total, and its sheets
  pub same_bids : (j : ℕ) → Memᴰ j xs → bid_words j b.bids (match_coins a b xs c).bids ≡ bid_words j a.bids c.bids
  pub same_totals : (j : ℕ) → Memᴰ j xs → at_party j (polynomials b (match_coins a b xs c)) ≡ at_party j (polynomials a c)
  pub same_shares : (e : ℕ) → shares amounts (get_or (polynomials b (match_coins a b xs c)) e []) xs ≡ shares amounts (get_or (polynomials a c) e []) xs
  pub same_sheets : (j : ℕ) → Memᴰ j xs → sheets_at b (match_coins a b xs c) j ≡ sheets_at a c j
  -- the probes: where the searches stand at each, the words that are said, the verdicts, and how many there are
  pub same_searches : map (λ d. d.here) (probes b (match_coins a b xs c)) ≡ map (λ d. d.here) (probes a c)
  pub same_messages : (j : ℕ) → map (λ d. probe_messages (way_of b.last) d.probe j) (probes b (match_coins a b xs c)) ≡ map (λ d. probe_messages (way_of a.last) d.probe j) (probes a c)
  pub same_spoken : map (λ d. spoken (way_of b.last) b.n d.probe) (probes b (match_coins a b xs c)) ≡ map (λ d. spoken (way_of a.last) a.n d.probe) (probes a c)
  -- and the words of the rounds in which the totals are opened
  pub same_opened : totals_spoken b (polynomials b (match_coins a b xs c)) ≡ totals_spoken a (polynomials a c)
  pub same_decisions : map (decision (way_of b.last)) (probes b (match_coins a b xs c)) ≡ map (decision (way_of a.last)) (probes a c)
  pub same_many : length (probes b (match_coins a b xs c)) ≡ length (probes a c)
  -- any party's unused sheets
  pub same_unused : (j : ℕ) → drop (sheet_size (way_of a.last) * length (probes a c)) (sheets_at b (match_coins a b xs c) j) ≡ drop (sheet_size (way_of a.last) * length (probes a c)) (sheets_at a c j)
  -- and no other coins
  pub only : (o : Coins) → InRange b o
      → ((j : ℕ) → Memᴰ j xs → bid_words j b.bids o.bids ≡ bid_words j a.bids c.bids)
      → ((j : ℕ) → Memᴰ j xs → sheets_at b o j ≡ sheets_at a c j)
      → ((j : ℕ) → 1 ≤ j → j ≤ a.n → drop (sheet_size (way_of a.last) * length (probes a c)) (sheets_at b o j) ≡ drop (sheet_size (way_of a.last) * length (probes a c)) (sheets_at a c j))
      → flatten (map (λ d. spoken (way_of b.last) b.n d.probe) (probes b o)) ≡ flatten (map (λ d. spoken (way_of a.last) a.n d.probe) (probes a c))
      → o ≡ match_coins a b xs c

-- a party's number is one of the field
in_field : (xs : List ℕ) → Different xs → (j : ℕ) → In j xs → j < p
in_field [] D j i = absurd (Memᴰ.not-nil i)
in_field (x ∷ xs) D j i = go (in_field xs D.2 j) (Memᴰ.cases_cons i)
  where
    go : (In j xs → j < p) → (j ≡ x) ⊎ In j xs → j < p
    go h (inl e) = omega (arith, D.0)
    go h (inr m) = h m

-- two auctions of n parties and k prices
module _ (n k last : ℕ) (bids bids' : List Bid) (A : IsAuction (auction n k last bids)) (B : IsAuction (auction n k last bids'))
    (alike : Alike (auction n k last bids) (auction n k last bids')) (xs : List ℕ) (pool : Pool n xs)
    (c : Coins) (C : InRange (auction n k last bids) c) (stay : Stay (auction n k last bids) (auction n k last bids') c) where
  abbrev a : Auction
  a = auction n k last bids

  abbrev b : Auction
  b = auction n k last bids'

  abbrev t : ℕ
  t = threshold n

  abbrev c' : Coins
  c' = match_coins a b xs c

  D : Different (0 ∷ xs)
  D = with_zero n xs A.n_most pool.parties

  -- ---- bids and totals

  -- the second's bids, with sheets of which only the range counts
  abbrev c₀ : Coins
  c₀ = record { bids = matched_bids xs bids bids' c.bids; sheets = c.sheets }

  same_bids : (j : ℕ) → In j xs → bid_words j bids' c₀.bids ≡ bid_words j bids c.bids
  same_bids j i = bids_words t xs D pool.many k j i bids bids' c.bids A.tables B.tables C.bids alike.bidders C.bids_many

  many_bids : length bids' ≡ length bids
  many_bids = sym (length-map bids' (λ b. b.bidder)) ∙ ap length alike.bidders ∙ length-map bids (λ b. b.bidder)

  first_ranged : InRange b c₀
  first_ranged =
      record {
        bids_many = bids_many t xs D pool.many k bids bids' c.bids many_bids C.bids_many ∙ sym many_bids;
        bids = bids_ranged t xs D pool.many k bids bids' c.bids A.tables B.tables C.bids;
        sheets_many = C.sheets_many;
        sheets = C.sheets;
      }

  same_totals : (j : ℕ) → In j xs → at_party j (polynomials b c₀) ≡ at_party j (polynomials a c)
  unfolding polynomials
  same_totals j i =
      totals_same k t j (in_field xs D.2 j i) (zip bids c.bids) (zip bids' c₀.bids) (no_totals a) (no_totals b)
      (all_good A C) (all_good B first_ranged) (no_totals_held k t) (no_totals_held k t) (same_bids j i) refl

  -- ---- probes

  setting : Setting n k last bids bids' xs (polynomials a c) (polynomials b c₀)
  setting =
      record {
        at_most = A.n_most;
        more = omega (arith, A.n_least);
        pool = pool.parties;
        pooled = pool.many;
        first = compares a c A C;
        second = compares b c₀ B first_ranged;
        seen = shares_same xs (polynomials a c) (polynomials b c₀) same_totals;
        agree = same_promises (totals_monotone A) (totals_monotone B) (sym alike.highest) (sym alike.lowest);
      }

  on_course : Course n k last bids bids' xs (polynomials a c) (polynomials b c₀) (first_search k) c.sheets (matched_sheets a b xs (probed a) c.sheets)
  on_course =
      subst
      (λ (z : ℕ). Each (λ s. stays a b s.0.which s.0.index s.1.mask ≡ true) (zip (trail (promise (demand a) (supply a)) z (first_search k)) c.sheets)
      → Course n k last bids bids' xs (polynomials a c) (polynomials b c₀) (first_search k) c.sheets
      (matched_sheets a b xs (trail (promise (demand a) (supply a)) z (first_search k)) c.sheets))
      C.sheets_many (course setting c.sheets (first_search k) (roomy_start k A.k_least) C.sheets) stay

  -- ---- other coins

  module _ (o : Coins) (O : InRange b o)
      (ws : (j : ℕ) → In j xs → bid_words j bids' o.bids ≡ bid_words j bids c.bids)
      (vs : (j : ℕ) → In j xs → sheets_at b o j ≡ sheets_at a c j)
      (us : (j : ℕ) → 1 ≤ j → j ≤ n → drop (sheet_size (way_of last) * length (probes a c)) (sheets_at b o j) ≡ drop (sheet_size (way_of last) * length (probes a c)) (sheets_at a c j))
      (said : flatten (map (λ d. spoken (way_of last) n d.probe) (probes b o)) ≡ flatten (map (λ d. spoken (way_of last) n d.probe) (probes a c))) where
    other_bids : o.bids ≡ matched_bids xs bids bids' c.bids
    other_bids =
        bids_only t xs D pool.many k bids bids' c.bids o.bids A.tables B.tables C.bids O.bids many_bids C.bids_many
        (O.bids_many ∙ many_bids) ws

    other_polynomials : polynomials b o ≡ polynomials b c₀
    unfolding polynomials
    other_polynomials = ap (λ (z : List (List (List ℕ))). totals_after (zip bids' z) (no_totals b)) other_bids

    other_sheets : o.sheets ≡ matched_sheets a b xs (probed a) c.sheets
    unfolding sheets_at
    other_sheets =
        sheets_only setting on_course o.sheets (O.sheets_many ∙ sym C.sheets_many) O.sheets vs us
        (ap (λ (z : List (List ℕ)). flatten (map (λ d. spoken (way_of last) n d.probe) (made b z (first_search k) o.sheets))) (sym other_polynomials) ∙ said)

    coins_only : o ≡ c'
    unfolding match_coins
    coins_only = λ i. record { bids = other_bids i; sheets = other_sheets i }

  match : Match a b xs c
  unfolding match_coins polynomials sheets_at
  match =
      record {
        ranged =
            record {
              bids_many = first_ranged.bids_many;
              bids = first_ranged.bids;
              sheets_many = sheets_many on_course ∙ C.sheets_many;
              sheets = sheets_ranged on_course;
            };
        same_bids = same_bids;
        same_totals = same_totals;
        same_shares = shares_same xs (polynomials a c) (polynomials b c₀) same_totals;
        same_sheets = λ j i. ap flat (words_same j i on_course);
        same_searches = made_same (λ d. d.here) (λ here s s' P. refl) on_course;
        same_messages = λ j. made_same (λ d. probe_messages (way_of last) d.probe j) (λ here s s' P. P.said j) on_course;
        same_spoken = made_same (λ d. spoken (way_of last) n d.probe) (λ here s s' P. spoken_same (way_of last) n _ _ P.said) on_course;
        same_opened =
            totals_alike n k last bids bids' A B xs pool c c₀ C first_ranged (shares_same xs (polynomials a c) (polynomials b c₀) same_totals)
            (ap₂ price_index alike.highest alike.lowest) alike.total_demand alike.total_supply;
        same_decisions = made_same (decision (way_of last)) (λ here s s' P. ap (decision_at here) P.same) on_course;
        same_many =
            sym (length-map (made b (polynomials b c₀) (first_search k) (matched_sheets a b xs (probed a) c.sheets)) (λ d. d.here))
            ∙ ap length (made_same (λ d. d.here) (λ here s s' P. refl) on_course) ∙ length-map (probes a c) (λ d. d.here);
        same_unused = λ j. unused_same j on_course;
        only = coins_only;
      }

pub matching : (a b : Auction) → IsAuction a → IsAuction b → Alike a b → (xs : List ℕ) → Pool a.n xs
    → (c : Coins) → InRange a c → Stay a b c → Match a b xs c
matching a b A B alike xs pool c C stay =
    let e : b ≡ auction a.n a.k a.last b.bids = λ i. record { n = alike.parties i; k = alike.prices i; last = alike.way i; bids = b.bids } in
    subst (λ (z : Auction). IsAuction z → Alike a z → Stay a z c → Match a z xs c) (sym e)
    (λ B alike stay. match a.n a.k a.last a.bids b.bids A B alike xs pool c C stay) B alike stay
