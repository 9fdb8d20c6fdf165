-- The probes of two auctions with the same answers of both searches, sheet by sheet: with the matching sheets the second makes the same probes, in
-- which all parties say the same and the pool has the same words; and no other sheets do this. Assumes nothing.
use mathlib.Core.Path.{◌≡◌, refl, sym, ap, ap₂, subst, ◌∙◌}
use mathlib.Core.Bool.{Bool, true, false}
use mathlib.Core.List.{List, [], ◌∷◌, ◌++◌, map, zip, zip_with, flatten}
use Prim.Native.Nat.{ℕ, suc, ◌+◌, ◌-◌, ◌*◌, ◌^◌, ◌≤◌, ◌<◌}
use native.Mathlib.Nat.{suc_inj}
use native.Mathlib.Omega.{arith}
use lib.Dec.{leb}
use lib.ListN.{length, drop, get_or}
use lib.Seq.{drop-append-add}
use native.Mathlib.Nat.{mul-zero}
use borrow.Author.Tests.{leb-true, ltb-true}
use Rattle.ways.specs.Way.{Way, way_of, sheet_size}
use Rattle.fields.specs.Amount.{amounts}
use Rattle.sharing.specs.Polynomial.{shares}
use Rattle.sharing.specs.Scheme.{threshold}
use Rattle.ranges.specs.Distinct.{Distinct}
use Rattle.ranges.proofs.Loops.{and_left, and_right}
use Rattle.search.specs.declared.searches.Search.{Search}
use Rattle.search.specs.Bracket.{middle}
use Rattle.search.specs.Searches.{side, next, finished}
use Rattle.search.specs.Search.{promise, Decision, trail}
use Rattle.search.proofs.Sides.{side_map}
use Rattle.search.proofs.Bounds.{Roomy, roomy_next, roomy_sound, probing}
use Rattle.comparison.specs.Probe.{SheetCoins, Each, Probe, SheetInRange, sheet_shares, sheet_polynomials, probe_messages, secret, opened_sum, last_polynomial}
use Rattle.comparison.proofs.Matched.{moved, matched}
use Rattle.comparison.proofs.Promise.{Compares, sum_law, promised}
use Rattle.comparison.proofs.Agreement.{In, map_same, same_map}
use Rattle.comparison.proofs.Hiding.{Other, Matches, append_parts, hides}
use Rattle.search.proofs.Trails.{trail_over, trail_going}
use Rattle.auction.specs.Auction.{Auction, Bid, demand, supply, left_side, right_side}
use Rattle.auction.specs.Coins.{flat}
use Rattle.auction.specs.Demands.{stays}
use Rattle.auction.proofs.Matched.{opening, matched_sheet, matched_sheets}
use Rattle.auction.proofs.Closed.{demand_at, supply_at, probe_at, probe_of, Made, made, spoken}
use Rattle.auction.proofs.Sheets.{words_long}
use Rattle.auction.proofs.Search.{made_over, made_going}
use Rattle.auction.proofs.SameSheets.{sheet_fixed, spoken_long, spoken_heard}

-- ---- the searches, probe by probe

-- a probe with the sheet s where the searches stand
abbrev probing_at : Auction → List (List ℕ) → Search → SheetCoins → Made
probing_at a fs here s = record { here = here; probe = probe_of a fs here s }

-- and its verdict
abbrev verdict_at : Auction → List (List ℕ) → Search → SheetCoins → ℕ
verdict_at a fs here s = secret (last_polynomial (way_of a.last) (probe_of a fs here s))

module _ (a : Auction) (fs : List (List ℕ)) (here : Search) where
  made_none : made a fs here [] ≡ []
  unfolding made
  made_none = refl

  made_first : (s : SheetCoins) (ss : List SheetCoins) {after : Search} → finished here ≡ false → next here (verdict_at a fs here s) ≡ after
      → made a fs here (s ∷ ss) ≡ probing_at a fs here s ∷ made a fs after ss
  made_first s ss o e = made_going a fs here s ss o ∙ ap (λ (z : Search). probing_at a fs here s ∷ made a fs z ss) e

-- ---- two auctions of n parties and k prices

abbrev pub auction : (n k last : ℕ) → List Bid → Auction
auction n k last bids = record { n = n; k = k; last = last; bids = bids }

-- every probe at a listed index compares the totals there
abbrev pub Compared : Auction → List (List ℕ) → Type 0
Compared a fs =
    (i : ℕ) → 1 ≤ i → i ≤ a.k → (which : ℕ) (s : SheetCoins) → SheetInRange (way_of a.last) (threshold a.n) s
    → Compares (way_of a.last) (threshold a.n) (left_side a which i) (right_side a which i) s (probe_at a fs which i s)

-- fs and fs' are the polynomials of their totals, of which the pool xs has the same shares
pub record Setting (n k last : ℕ) (bids bids' : List Bid) (xs : List ℕ) (fs fs' : List (List ℕ)) : Type 0 where
  pub at_most : n ≤ 9
  pub more : threshold n < n
  pub pool : Distinct n xs
  pub pooled : length xs ≡ threshold n
  pub first : Compared (auction n k last bids) fs
  pub second : Compared (auction n k last bids') fs'
  pub seen : (e : ℕ) → shares amounts (get_or fs' e []) xs ≡ shares amounts (get_or fs e []) xs
  pub agree : (which i : ℕ) → 1 ≤ i → i ≤ k
      → promise (demand (auction n k last bids)) (supply (auction n k last bids)) which i ≡ promise (demand (auction n k last bids')) (supply (auction n k last bids')) which i

-- the sheets s and s' of two probes at the index i
pub record Pair (n k last : ℕ) (bids bids' : List Bid) (xs : List ℕ) (fs fs' : List (List ℕ)) (which i : ℕ) (s s' : SheetCoins) : Type 0 where
  pub least : 1 ≤ i
  pub most : i ≤ k
  pub ranged : SheetInRange (way_of last) (threshold n) s
  pub ranged' : SheetInRange (way_of last) (threshold n) s'
  pub words : (x : ℕ) → In x xs → sheet_shares x (sheet_polynomials s') ≡ sheet_shares x (sheet_polynomials s)
  pub said : (j : ℕ) → probe_messages (way_of last) (probe_at (auction n k last bids') fs' which i s') j ≡ probe_messages (way_of last) (probe_at (auction n k last bids) fs which i s) j
  pub same : secret (last_polynomial (way_of last) (probe_at (auction n k last bids') fs' which i s')) ≡ secret (last_polynomial (way_of last) (probe_at (auction n k last bids) fs which i s))
  pub only : (e : SheetCoins) → SheetInRange (way_of last) (threshold n) e → ((x : ℕ) → In x xs → sheet_shares x (sheet_polynomials e) ≡ sheet_shares x (sheet_polynomials s))
      → ((j : ℕ) → 1 ≤ j → j ≤ n → probe_messages (way_of last) (probe_at (auction n k last bids') fs' which i e) j ≡ probe_messages (way_of last) (probe_at (auction n k last bids) fs which i s) j)
      → e ≡ s'

-- the sheets of two auctions whose searches stand at the same place
pub data Course (n k last : ℕ) (bids bids' : List Bid) (xs : List ℕ) (fs fs' : List (List ℕ)) : Search → List SheetCoins → List SheetCoins → Type 0 where
  none : {here : Search} → Course n k last bids bids' xs fs fs' here [] []
  ended : {here : Search} {ss : List SheetCoins} → finished here ≡ true → Each (SheetInRange (way_of last) (threshold n)) ss → Course n k last bids bids' xs fs fs' here ss ss
  probed : {here after : Search} {s s' : SheetCoins} {ss ss' : List SheetCoins} → finished here ≡ false
      → Pair n k last bids bids' xs fs fs' here.which (middle here.bracket) s s' → next here (verdict_at (auction n k last bids) fs here s) ≡ after
      → Course n k last bids bids' xs fs fs' after ss ss' → Course n k last bids bids' xs fs fs' here (s ∷ ss) (s' ∷ ss')

-- what a probe opens, as a difference
opening_is : (T demand supply mask : ℕ) → T + mask + supply ≡ 2 ^ 59 + 2 ^ 32 + demand → T ≡ opening demand supply mask
opening_is T demand supply mask e = omega arith

module _ {n k last : ℕ} {bids bids' : List Bid} {xs : List ℕ} {fs fs' : List (List ℕ)} (S : Setting n k last bids bids' xs fs fs') where
  abbrev a : Auction
  a = auction n k last bids

  abbrev b : Auction
  b = auction n k last bids'

  abbrev t : ℕ
  t = threshold n

  -- ---- one probe

  module _ (which i : ℕ) (lo : 1 ≤ i) (hi : i ≤ k) (s : SheetCoins) (h : SheetInRange (way_of last) t s) (stay : stays a b which i s.mask ≡ true) where
    -- the two sides of each auction
    abbrev d : ℕ
    d = left_side a which i

    abbrev e : ℕ
    e = right_side a which i

    abbrev d' : ℕ
    d' = left_side b which i

    abbrev e' : ℕ
    e' = right_side b which i

    -- and the polynomials of the second's
    abbrev f' : List ℕ
    f' = side which (demand_at b fs' i) (supply_at b fs' i)

    abbrev g' : List ℕ
    g' = side which (supply_at b fs' i) (demand_at b fs' i)

    mask_stays : d + e' ≤ s.mask + d' + e
    unfolding stays
    mask_stays = leb-true (d + e') (s.mask + d' + e) (and_left (leb (d + e') (s.mask + d' + e)) _ stay)

    mask_small : s.mask + d' + e < 2 ^ 58 + (d + e')
    unfolding stays
    mask_small = ltb-true (s.mask + d' + e) (2 ^ 58 + (d + e')) (and_right (leb (d + e') (s.mask + d' + e)) _ stay)

    -- the pool has the same shares of each side
    side_seen : (x y : ℕ) → shares amounts (side which (get_or fs' x []) (get_or fs' y [])) xs ≡ shares amounts (side which (get_or fs x []) (get_or fs y [])) xs
    side_seen x y =
        sym (side_map (λ f. shares amounts f xs) which (get_or fs' x []) (get_or fs' y [])) ∙ ap₂ (side which) (S.seen x) (S.seen y)
        ∙ side_map (λ f. shares amounts f xs) which (get_or fs x []) (get_or fs y [])

    other : Other (way_of last) n t xs d e s (probe_at a fs which i s) d' e' f' g'
    unfolding probe_at
    other =
        let C : Compares (way_of last) t d' e' s (probe_at b fs' which i s) = S.second i lo hi which s h in
        record {
          at_most = S.at_most;
          more = S.more;
          pool = S.pool;
          pooled = S.pooled;
          first = S.first i lo hi which s h;
          demand_shared = C.demand_shared;
          supply_shared = C.supply_shared;
          demand_is = C.demand_is;
          supply_is = C.supply_is;
          demand_lt = C.demand_lt;
          supply_lt = C.supply_lt;
          demand_seen = side_seen (i - 1) (k + i - 1);
          supply_seen = side_seen (k + i - 1) (i - 1);
          verdict_same = S.agree which i lo hi;
          mask_stays = mask_stays;
          mask_lt = omega (arith, mask_stays, mask_small);
        }

    fits : Matches (way_of last) n t xs (probe_at a fs which i s) f' g' (matched_sheet a b xs which i s)
    unfolding matched_sheet
    fits =
        subst (λ (z : ℕ). Matches (way_of last) n t xs (probe_at a fs which i s) f' g' (matched xs (way_of last) z (moved s.mask d e d' e') s))
        (opening_is (opened_sum (probe_at a fs which i s)) d e s.mask (sum_law (way_of last) t d e s (probe_at a fs which i s) (S.first i lo hi which s h)))
        (hides (way_of last) n t xs d e s (probe_at a fs which i s) d' e' f' g' other)

    pair : Pair n k last bids bids' xs fs fs' which i s (matched_sheet a b xs which i s)
    unfolding probe_at
    pair =
        let M : Matches (way_of last) n t xs (probe_at a fs which i s) f' g' (matched_sheet a b xs which i s) = fits in
        record {
          least = lo;
          most = hi;
          ranged = h;
          ranged' = M.ranged;
          words = same_map (λ x. sheet_shares x (sheet_polynomials (matched_sheet a b xs which i s))) (λ x. sheet_shares x (sheet_polynomials s)) xs M.same_words;
          said = M.same_messages;
          same = M.same_verdict;
          only = λ e he w said. M.only e he (map_same (λ x. sheet_shares x (sheet_polynomials e)) (λ x. sheet_shares x (sheet_polynomials s)) xs w) said;
        }

  -- ---- the matching sheets

  abbrev given : (which i : ℕ) → ℕ
  given = promise (demand a) (supply a)

  abbrev Staying : List Decision → List SheetCoins → Type 0
  Staying ds ss = Each (λ z. stays a b z.0.which z.0.index z.1.mask ≡ true) (zip ds ss)

  pub course : (ss : List SheetCoins) (here : Search) → Roomy k here → Each (SheetInRange (way_of last) t) ss → Staying (trail given (length ss) here) ss
      → Course n k last bids bids' xs fs fs' here ss (matched_sheets a b xs (trail given (length ss) here) ss)
  unfolding trail matched_sheets zip zip_with
  course [] here R h st = none
  course (s ∷ ss) here R h st = split (finished here) refl (course ss (next here (given here.which (middle here.bracket))))
    where
      after : Search
      after = next here (given here.which (middle here.bracket))

      split : (o : Bool) → finished here ≡ o
          → (Roomy k after → Each (SheetInRange (way_of last) t) ss → Staying (trail given (length ss) after) ss
          → Course n k last bids bids' xs fs fs' after ss (matched_sheets a b xs (trail given (length ss) after) ss))
          → Course n k last bids bids' xs fs fs' here (s ∷ ss) (matched_sheets a b xs (trail given (suc (length ss)) here) (s ∷ ss))
      split true o later =
          subst (λ (z : List Decision). Course n k last bids bids' xs fs fs' here (s ∷ ss) (matched_sheets a b xs z (s ∷ ss)))
          (sym (trail_over given (suc (length ss)) here o)) (ended o h)
      split false o later =
          let which : ℕ = here.which in
          let i : ℕ = middle here.bracket in
          let F = probing k here (roomy_sound k here R) o in
          let staying : (stays a b which i s.mask ≡ true) × Staying (trail given (length ss) after) ss =
          subst (λ (z : List Decision). Staying z (s ∷ ss)) (trail_going given (length ss) here o) st in
          subst (λ (z : List Decision). Course n k last bids bids' xs fs fs' here (s ∷ ss) (matched_sheets a b xs z (s ∷ ss)))
          (sym (trail_going given (length ss) here o))
          (probed o (pair which i F.index_least F.index_most s h.0 staying.0)
          (ap (next here) (promised (way_of last) t (left_side a which i) (right_side a which i) s (probe_at a fs which i s) (S.first i F.index_least F.index_most which s h.0)))
          (later (roomy_next k here (given which i) R o) h.1 staying.1))

-- ---- what two such auctions have in common

-- party j's words of a list of sheets, sheet by sheet
abbrev pub words_of : ℕ → List SheetCoins → List (List ℕ)
words_of j ss = map (λ s. sheet_shares j (sheet_polynomials s)) ss

-- without the sheets of m + 1 probes
drop_words : (v : Way) (t j m : ℕ) {m' : ℕ} (s : SheetCoins) (ss : List SheetCoins) → SheetInRange v t s → m' ≡ suc m
    → drop (sheet_size v * m') (flat (words_of j (s ∷ ss))) ≡ drop (sheet_size v * m) (flat (words_of j ss))
unfolding flat
drop_words v t j m {m'} s ss h l =
    let w : List ℕ = sheet_shares j (sheet_polynomials s) in
    let e : sheet_size v * m' ≡ length w + sheet_size v * m = one_more (sheet_size v) m m' (length w) l (words_long v t j s h) in
    ap (λ (z : ℕ). drop z (w ++ flat (words_of j ss))) e ∙ drop-append-add w (flat (words_of j ss)) (sheet_size v * m)
  where
    one_more : (x m m' y : ℕ) → m' ≡ suc m → y ≡ x → x * m' ≡ y + x * m
    one_more x m m' y f g = ap (λ (z : ℕ). x * z) f ∙ omega arith

module _ {n k last : ℕ} {bids bids' : List Bid} {xs : List ℕ} {fs fs' : List (List ℕ)} where
  pub sheets_ranged : {here : Search} {ss ss' : List SheetCoins} → Course n k last bids bids' xs fs fs' here ss ss' → Each (SheetInRange (way_of last) (threshold n)) ss'
  sheets_ranged none = tt
  sheets_ranged (ended o h) = h
  sheets_ranged (probed o P e C) = (P.ranged', sheets_ranged C)

  pub sheets_many : {here : Search} {ss ss' : List SheetCoins} → Course n k last bids bids' xs fs fs' here ss ss' → length ss' ≡ length ss
  sheets_many none = refl
  sheets_many (ended o h) = refl
  sheets_many (probed o P e C) = ap suc (sheets_many C)

  -- the pool's words
  pub words_same : (j : ℕ) → In j xs → {here : Search} {ss ss' : List SheetCoins} → Course n k last bids bids' xs fs fs' here ss ss' → words_of j ss' ≡ words_of j ss
  words_same j i none = refl
  words_same j i (ended o h) = refl
  words_same j i (probed o P e C) = ap₂ (λ (z : List ℕ) (zs : List (List ℕ)). z ∷ zs) (P.words j i) (words_same j i C)

  -- the probes, one by one: whatever is the same of the probes of each pair
  pub made_same : {X : Type 0} (f : Made → X)
      → ((here : Search) (s s' : SheetCoins) → Pair n k last bids bids' xs fs fs' here.which (middle here.bracket) s s'
      → f (probing_at (auction n k last bids') fs' here s') ≡ f (probing_at (auction n k last bids) fs here s))
      → {here : Search} {ss ss' : List SheetCoins} → Course n k last bids bids' xs fs fs' here ss ss'
      → map f (made (auction n k last bids') fs' here ss') ≡ map f (made (auction n k last bids) fs here ss)
  made_same f h {here} none = ap (map f) (made_none (auction n k last bids') fs' here ∙ sym (made_none (auction n k last bids) fs here))
  made_same f h {here} {ss} (ended o r) = ap (map f) (made_over (auction n k last bids') fs' here ss o ∙ sym (made_over (auction n k last bids) fs here ss o))
  made_same {X} f h (probed {here = here} {s = s} {s' = s'} {ss = ss} {ss' = ss'} o P e C) =
      ap (map f) (made_first (auction n k last bids') fs' here s' ss' o (ap (next here) P.same ∙ e))
      ∙ ap₂ (λ (z : X) (zs : List X). z ∷ zs) (h here s s' P) (made_same f h C)
      ∙ ap (map f) (sym (made_first (auction n k last bids) fs here s ss o e))

  -- unused sheets
  pub unused_same : (j : ℕ) {here : Search} {ss ss' : List SheetCoins} → Course n k last bids bids' xs fs fs' here ss ss'
      → drop (sheet_size (way_of last) * length (made (auction n k last bids) fs here ss)) (flat (words_of j ss'))
      ≡ drop (sheet_size (way_of last) * length (made (auction n k last bids) fs here ss)) (flat (words_of j ss))
  unused_same j none = refl
  unused_same j (ended o h) = refl
  unused_same j (probed {here = here} {after = after} {s = s} {s' = s'} {ss = ss} {ss' = ss'} o P e C) =
      let m : ℕ = length (made (auction n k last bids) fs after ss) in
      let one : length (made (auction n k last bids) fs here (s ∷ ss)) ≡ suc m = ap length (made_first (auction n k last bids) fs here s ss o e) in
      drop_words (way_of last) (threshold n) j m s' ss' P.ranged' one ∙ unused_same j C ∙ sym (drop_words (way_of last) (threshold n) j m s ss P.ranged one)

-- ---- and no other sheets

-- of sheets that all n parties read the same
module _ (v : Way) (n t : ℕ) (more : t < n) (most : n ≤ 9) where
  words_parts : (j : ℕ) (s u : SheetCoins) (ss us : List SheetCoins) → SheetInRange v t s → SheetInRange v t u
      → flat (words_of j (u ∷ us)) ≡ flat (words_of j (s ∷ ss))
      → (sheet_shares j (sheet_polynomials u) ≡ sheet_shares j (sheet_polynomials s)) × (flat (words_of j us) ≡ flat (words_of j ss))
  unfolding flat
  words_parts j s u ss us h k e =
      append_parts (sheet_shares j (sheet_polynomials u)) (sheet_shares j (sheet_polynomials s)) (flat (words_of j us)) (flat (words_of j ss))
      (words_long v t j u k ∙ sym (words_long v t j s h)) e

  sheets_fixed : (ss us : List SheetCoins) → Each (SheetInRange v t) ss → Each (SheetInRange v t) us → length us ≡ length ss
      → ((j : ℕ) → 1 ≤ j → j ≤ n → flat (words_of j us) ≡ flat (words_of j ss)) → us ≡ ss
  sheets_fixed [] [] h k l w = refl
  sheets_fixed [] (u ∷ us) h k l w = absurd (omega arith)
  sheets_fixed (s ∷ ss) [] h k l w = absurd (omega arith)
  sheets_fixed (s ∷ ss) (u ∷ us) h k l w =
      ap₂ (λ (z : SheetCoins) (zs : List SheetCoins). z ∷ zs)
      (sheet_fixed n t more most v s u h.0 k.0 (λ j h1 hn. (words_parts j s u ss us h.0 k.0 (w j h1 hn)).0))
      (sheets_fixed ss us h.1 k.1 (suc_inj l) (λ j h1 hn. (words_parts j s u ss us h.0 k.0 (w j h1 hn)).1))

module _ {n k last : ℕ} {bids bids' : List Bid} {xs : List ℕ} {fs fs' : List (List ℕ)} (S : Setting n k last bids bids' xs fs fs') where
  -- the probe-messages of all probes, round by round
  abbrev all_said : List Made → List (List (List ℕ))
  all_said ds = flatten (map (λ d. spoken (way_of last) n d.probe) ds)

  said_parts : (q q' : Probe) (ds ds' : List Made) (here here' : Search)
      → all_said (record { here = here'; probe = q' } ∷ ds') ≡ all_said (record { here = here; probe = q } ∷ ds)
      → (spoken (way_of last) n q' ≡ spoken (way_of last) n q) × (all_said ds' ≡ all_said ds)
  unfolding flatten
  said_parts q q' ds ds' here here' e = append_parts (spoken (way_of last) n q') (spoken (way_of last) n q) (all_said ds') (all_said ds) (spoken_long (way_of last) n q' ∙ sym (spoken_long (way_of last) n q)) e

  pub sheets_only : {here : Search} {ss ss' : List SheetCoins} → Course n k last bids bids' xs fs fs' here ss ss'
      → (us : List SheetCoins) → length us ≡ length ss → Each (SheetInRange (way_of last) (threshold n)) us
      → ((j : ℕ) → In j xs → flat (words_of j us) ≡ flat (words_of j ss))
      → ((j : ℕ) → 1 ≤ j → j ≤ n
      → drop (sheet_size (way_of last) * length (made (auction n k last bids) fs here ss)) (flat (words_of j us))
      ≡ drop (sheet_size (way_of last) * length (made (auction n k last bids) fs here ss)) (flat (words_of j ss)))
      → all_said (made (auction n k last bids') fs' here us) ≡ all_said (made (auction n k last bids) fs here ss)
      → us ≡ ss'
  sheets_only none [] l h w v e = refl
  sheets_only none (u ∷ us) l h w v e = absurd (omega arith)
  sheets_only {here} {ss} (ended o r) us l h w v e =
      sheets_fixed (way_of last) n (threshold n) S.more S.at_most ss us r h l
      (λ j h1 hn.
      let z : drop (sheet_size (way_of last) * 0) (flat (words_of j us)) ≡ drop (sheet_size (way_of last) * 0) (flat (words_of j ss)) =
      subst (λ (z : List Made). drop (sheet_size (way_of last) * length z) (flat (words_of j us)) ≡ drop (sheet_size (way_of last) * length z) (flat (words_of j ss)))
      (made_over (auction n k last bids) fs here ss o) (v j h1 hn) in
      subst (λ (x : ℕ). drop x (flat (words_of j us)) ≡ drop x (flat (words_of j ss))) (mul-zero (sheet_size (way_of last))) z)
  sheets_only (probed o P n' C) [] l h w v e = absurd (omega arith)
  sheets_only (probed {here = here} {after = after} {s = s} {s' = s'} {ss = ss} {ss' = ss'} o P n' C) (u ∷ us) l h w v e =
      let a : Auction = auction n k last bids in
      let b : Auction = auction n k last bids' in
      let t : ℕ = threshold n in
      let which : ℕ = here.which in
      let i : ℕ = middle here.bracket in
      let m : ℕ = length (made a fs after ss) in
      let one : length (made a fs here (s ∷ ss)) ≡ suc m = ap length (made_first a fs here s ss o n') in
      let parts : (spoken (way_of last) n (probe_at b fs' which i u) ≡ spoken (way_of last) n (probe_at a fs which i s))
      × (all_said (made b fs' (next here (verdict_at b fs' here u)) us) ≡ all_said (made a fs after ss)) =
      said_parts (probe_at a fs which i s) (probe_at b fs' which i u) (made a fs after ss) (made b fs' (next here (verdict_at b fs' here u)) us) here here
      (ap all_said (sym (made_first b fs' here u us o refl)) ∙ e ∙ ap all_said (made_first a fs here s ss o n')) in
      let same : u ≡ s' =
      P.only u h.0 (λ x m. (words_parts (way_of last) n t S.more S.at_most x s u ss us P.ranged h.0 (w x m)).0)
      (spoken_heard (way_of last) n (probe_at a fs which i s) (probe_at b fs' which i u) parts.0) in
      let on : next here (verdict_at b fs' here u) ≡ after = ap (λ (z : SheetCoins). next here (verdict_at b fs' here z)) same ∙ ap (next here) P.same ∙ n' in
      ap₂ (λ (z : SheetCoins) (zs : List SheetCoins). z ∷ zs) same
      (sheets_only C us (suc_inj l) h.1 (λ x m. (words_parts (way_of last) n t S.more S.at_most x s u ss us P.ranged h.0 (w x m)).1)
      (λ j h1 hn. sym (drop_words (way_of last) t j m u us h.0 one) ∙ v j h1 hn ∙ drop_words (way_of last) t j m s ss P.ranged one)
      (ap (λ (z : Search). all_said (made b fs' z us)) (sym on) ∙ parts.1))
