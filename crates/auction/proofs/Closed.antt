-- An auction seen whole: the polynomials behind every party's totals and sheets, where the searches stand, and what each party then has
-- and says. Everything that a run computes is read off these. Assumes nothing.
use mathlib.Core.Path.{◌≡◌, refl}
use Rattle.kept_pairs.specs.Pairs.{small}
use Rattle.ranges.specs.Lists.{every}
use mathlib.Core.Bool.{true, false, cond}
use mathlib.Core.List.{List, [], ◌∷◌, map, flatten, zip}
use Prim.Native.Nat.{ℕ, zero, suc, ◌+◌, ◌-◌, ◌*◌}
use lib.Dec.{eqb}
use lib.ListN.{replicate, get_or, take}
use mathlib.Core.List.{◌++◌}
use Rattle.ways.specs.Way.{Way, chain, tree, way_of, last_round}
use Rattle.level.specs.Level.{pair_words, no_pair}
use Rattle.comparison.specs.Pairs.{Pair}
use Rattle.comparison.proofs.Levels.{shares_kept}
use Rattle.fields.specs.Amount.{amounts}
use Rattle.sharing.specs.Polynomial.{value}
use Rattle.sharing.specs.Linear.{sums}
use Rattle.ranges.specs.Lists.{from}
use Rattle.sharing.specs.Scheme.{threshold, points}
use Rattle.search.specs.declared.searches.Search.{Search}
use Rattle.search.specs.Bracket.{middle}
use Rattle.search.specs.Searches.{side, first_search, next, finished, clears}
use Rattle.search.specs.Search.{Decision, decision_at}
use Rattle.comparison.specs.Probe.{SheetCoins, sheet_polynomials, sheet_shares, probe_messages, Probe, secret, opened_sum, last_polynomial}
use Rattle.record.specs.declared.Party.{Party}
use Rattle.roll.specs.declared.Roll.{Roll}
use Rattle.roll.specs.Marks.{marks, empty}
use Rattle.roll.proofs.Entry.{enter}
use Rattle.auction.specs.Auction.{Auction, Bid, bidders, price_answer}
use Rattle.auction.specs.Coins.{Coins, DrawnBid, flat}
use Rattle.auction.specs.Canonical.{Seat}

-- ---- totals

-- the polynomial of each amount of a bid
unfoldable pub entries : (table : List ℕ) (groups : List (List ℕ)) → List (List ℕ)
entries [] gs = []
entries (x ∷ xs) [] = []
entries (x ∷ xs) (g ∷ gs) = (x ∷ g) ∷ entries xs gs

-- entry by entry
unfoldable pub added_polynomials : List (List ℕ) → List (List ℕ) → List (List ℕ)
added_polynomials [] gs = []
added_polynomials (f ∷ fs) [] = []
added_polynomials (f ∷ fs) (g ∷ gs) = sums amounts f g ∷ added_polynomials fs gs

-- the polynomials of the totals after these bids
unfoldable pub totals_after : List DrawnBid → List (List ℕ) → List (List ℕ)
totals_after [] fs = fs
totals_after (b ∷ bs) fs = totals_after bs (added_polynomials fs (entries b.0.table b.1))

-- party j's words of them
abbrev pub at_party : ℕ → List (List ℕ) → List ℕ
at_party j fs = map (λ f. value amounts f j) fs

-- what party j receives of a bid, and of all of them
abbrev pub bid_for : ℕ → DrawnBid → ℕ × List ℕ
bid_for j b = (b.0.bidder, at_party j (entries b.0.table b.1))

abbrev pub bid_words : ℕ → List Bid → List (List (List ℕ)) → List (ℕ × List ℕ)
bid_words j bids gss = map (bid_for j) (zip bids gss)

module _ (a : Auction) where
  abbrev pub no_totals : List (List ℕ)
  no_totals = replicate (2 * a.k) (replicate (suc (threshold a.n)) 0)

  unfoldable pub polynomials : Coins → List (List ℕ)
  polynomials c = totals_after (zip a.bids c.bids) no_totals

  -- the roll once all have entered
  unfoldable pub full_roll : Roll
  full_roll = enter empty (bidders a)

  -- ---- one probe

  -- the totals' polynomials at index i
  abbrev pub demand_at : List (List ℕ) → ℕ → List ℕ
  demand_at fs i = get_or fs (i - 1) []

  abbrev pub supply_at : List (List ℕ) → ℕ → List ℕ
  supply_at fs i = get_or fs (a.k + i - 1) []

  -- the probe at index i with the totals fs and this sheet, in the second search with the sides exchanged
  unfoldable pub probe_at : List (List ℕ) → (which i : ℕ) → SheetCoins → Probe
  probe_at fs which i s =
      record {
        demand = side which (demand_at fs i) (supply_at fs i);
        supply = side which (supply_at fs i) (demand_at fs i);
        sheet = sheet_polynomials s;
      }

  -- where the searches stand
  abbrev pub probe_of : List (List ℕ) → Search → SheetCoins → Probe
  probe_of fs here s = probe_at fs here.which (middle here.bracket) s

-- What party j's record has after so many levels: of 33 rounds the carry, of seven the pairs that it keeps, once a level has made some.
unfoldable pub carry_at : Way → Probe → (i j : ℕ) → ℕ
carry_at chain q i j = (get_or (shares_kept chain q j i) 0 no_pair).bottom
carry_at tree q i j = 0

unfoldable pub no_words : List ℕ
no_words = replicate 32 0

pub none_small : small (record { words = no_words }) ≡ true
unfolding no_words small every
none_small = refl

unfoldable pub kept_words : List (Pair ℕ) → List ℕ
kept_words ps = take 32 (pair_words ps ++ replicate 32 0)

unfoldable pub pairs_at : Way → Probe → (i j : ℕ) → List ℕ
pairs_at chain q i j = no_words
pairs_at tree q zero j = no_words
pairs_at tree q (suc i) j = kept_words (shares_kept tree q j (suc i))

-- ---- all probes

-- a probe that is made: where the searches stand, and the probe; and its verdict
pub record Made : Type 0 where
  pub here : Search
  pub probe : Probe

abbrev pub decided : Way → Made → ℕ
decided w d = secret (last_polynomial w d.probe)

-- which search, the probed index and the verdict
abbrev pub decision : Way → Made → Decision
decision w d = decision_at d.here (decided w d)

-- the probes that the searches make with these sheets, until they are finished
unfoldable pub made : (a : Auction) → List (List ℕ) → Search → List SheetCoins → List Made
made a fs here [] = []
made a fs here (s ∷ ss) =
    let q = probe_of a fs here s in
    elim (finished here) [ true ↦ [] | false ↦ record { here = here; probe = q } ∷ made a fs (next here (secret (last_polynomial (way_of a.last) q))) ss ]

-- the messages of the n parties, round by round
unfoldable pub spoken : (w : Way) (n : ℕ) → Probe → List (List (List ℕ))
spoken w n q = map (λ i. map (λ j. get_or (probe_messages w q j) i []) (points n)) (from 0 (last_round w))

-- those of these probes
abbrev pub all_spoken : (w : Way) (n : ℕ) → List Made → List (List (List ℕ))
all_spoken w n ds = flatten (map (λ d. spoken w n d.probe) ds)

-- those of rounds 34 and 35, where total demand and total supply are opened
unfoldable pub totals_spoken : Auction → List (List ℕ) → List (List (List ℕ))
totals_spoken a fs =
    let m = price_answer a in
    cond (eqb m 0) []
    (map (λ j. value amounts (demand_at a fs m) j ∷ []) (points a.n) ∷ map (λ j. value amounts (supply_at a fs m) j ∷ []) (points a.n) ∷ [])

-- ---- what a party has

-- what all parties know in a round, and each one's shares of the carry and of the pairs
pub record Stage : Type 0 where
  pub search : Search
  pub round : ℕ
  pub sum : ℕ
  pub carry : ℕ → ℕ
  pub pairs : ℕ → List ℕ
  pub demand : ℕ
  pub supply : ℕ

-- before round 1 of a probe
abbrev pub fresh_stage : Search → Stage
fresh_stage here = record { search = here; round = 1; sum = 0; carry = λ j. 0; pairs = λ j. no_words; demand = 0; supply = 0 }

-- before round i + 2 of the probe q
abbrev pub inner_stage : Way → Search → Probe → ℕ → Stage
inner_stage w here q i = record { search = here; round = i + 2; sum = opened_sum q; carry = carry_at w q i; pairs = pairs_at w q i; demand = 0; supply = 0 }

-- after a verdict: before the next probe, or before the totals are opened
abbrev pub decided_stage : Search → Stage
decided_stage here = record { search = here; round = cond (clears here) 34 1; sum = 0; carry = λ j. 0; pairs = λ j. no_words; demand = 0; supply = 0 }

-- after the last probe, in the round 34, 35 or 36, with these totals
abbrev pub total_stage : Search → (round demand supply : ℕ) → Stage
total_stage here round demand supply = record { search = here; round = round; sum = 0; carry = λ j. 0; pairs = λ j. no_words; demand = demand; supply = supply }

module _ (a : Auction) (c : Coins) where
  unfoldable pub record_at : Stage → ℕ → Party
  record_at σ j =
      record {
        n = a.n;
        own = j;
        k = a.k;
        bids = marks (full_roll a);
        search = σ.search;
        round = σ.round;
        sum = σ.sum;
        carry = σ.carry j;
        roll = full_roll a;
        demand = σ.demand;
        supply = σ.supply;
        last = a.last;
        pairs = record { words = σ.pairs j };
      }

  unfoldable pub sheets_at : ℕ → List ℕ
  sheets_at j = flat (map (λ s. sheet_shares j (sheet_polynomials s)) c.sheets)

  unfoldable pub seat : Stage → ℕ → Seat
  seat σ j = record { party = record_at σ j; totals = at_party j (polynomials a c); sheets = sheets_at j }

  -- all the probes of an auction
  abbrev pub probes : List Made
  probes = made a (polynomials a c) (first_search a.k) c.sheets
