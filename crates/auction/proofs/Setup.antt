-- The calls before the first round: opening, splitting and adding each bid, dealing. All are accepted, and each party is left with its
-- words of the totals' polynomials and of the dealt ones. Assumes nothing.
use Rattle.std.specs.Prelude.{Ok}
use mathlib.Core.Path.{◌≡◌, refl, sym, ap, ap₂, ◌∙◌}
use mathlib.Core.Bool.{true}
use mathlib.Core.List.{List, [], ◌∷◌, ◌++◌, map, flatten, zip, append_assoc, append-nil}
use mathlib.Core.Option.{Option, none}
use Prim.Native.Nat.{ℕ, ◌≤◌}
use lib.ListN.{length, replicate, length-replicate}
use Rattle.ways.specs.Way.{way_of, sheet_size}
use Rattle.kept_pairs.specs.Pairs as kept
use Rattle.sharing.specs.Scheme.{threshold, points}
use Rattle.search.specs.Searches.{first_search}
use Rattle.comparison.specs.Probe.{SheetCoins, SheetInRange, Each}
use Rattle.record.specs.declared.Party.{Party}
use Rattle.roll.specs.declared.Roll.{Roll}
use Rattle.roll.specs.Marks.{empty, mark}
use Rattle.roll.proofs.Laws.{Proper, Free, proper_mark, proper_empty}
use Rattle.roll.proofs.Entry.{enter, Enters, all_enter}
use Rattle.auction.specs.Auction.{Auction, bidders, IsAuction}
use Rattle.auction.specs.Coins.{Coins, DrawnBid, InRange, flat, coin_words, coin_bytes}
use Rattle.auction.specs.Call.{Call, open_call, deal_call, add_call, judgement, is_accepted, accepted, whose, of_party, given}
use Rattle.auction.specs.Desk.{Desk, Complete}
use Rattle.auction.specs.Attendance.{Marks, Attendance}
use Rattle.auction.specs.Canonical.{zeros, seated, bundle_calls, splits_for, add_by, after_adding, deal_for, sheet_for, sheets_for, after_dealing, enough_rounds, from_rounds, deals, from_bids, canonical}
use Rattle.auction.specs.Run.{select, own}
use Rattle.auction.specs.Received.{collect, bid_in}
use Rattle.auction.specs.Demands.{all_accepted}
use Rattle.auction.proofs.Closed.{entries, added_polynomials, totals_after, at_party, bid_for, bid_words, no_totals, polynomials, full_roll, fresh_stage, record_at, sheets_at, seat, no_words}
use Rattle.auction.proofs.Calls.{own_append, collect_none, all_accepted_append, all_accepted_map, all_accepted_points, each_point, map_each, map_points, map_through, Own, own_points, own_none, all_accepted_flatten, own_flatten, own_bundle}
use Rattle.auction.proofs.Totals.{each_imp, map_zip, GoodBid, Held, entries_held, added_held, no_totals_held, all_good}
use Rattle.ranges.proofs.Ranges.{one_of_n}
use Rattle.auction.proofs.Bidding.{holding, holding_seat, member, opened, seated_holding, bundle_accepted, shares_for_party, adding_accepted, added_holding}
use Rattle.auction.proofs.Dealing.{deals_sheet, deal_writes}

-- ---- who enters

abbrev pub bidders_of : List DrawnBid → List ℕ
bidders_of bs = map (λ b. b.0.bidder) bs

-- those on the roll have entered, and the bidders of bs are still to
pub record Entering (a : Auction) (roll : Roll) (bs : List DrawnBid) : Type 0 where
  pub proper : Proper roll
  pub enters : Enters roll (bidders_of bs)
  pub full : enter roll (bidders_of bs) ≡ full_roll a

module _ (a : Auction) (roll : Roll) where
  pub entering_more : (b : DrawnBid) (bs : List DrawnBid) → Entering a roll (b ∷ bs) → Entering a (mark roll b.0.bidder) bs
  unfolding enter
  entering_more b bs I =
      record { proper = proper_mark roll I.proper b.0.bidder I.enters.0; enters = I.enters.1; full = I.full }

  pub all_entered : Entering a roll [] → roll ≡ full_roll a
  unfolding enter
  all_entered I = I.full

-- at the start all are
pub entering_all : {a : Auction} → IsAuction a → (gss : List (List (List ℕ))) → length gss ≡ length a.bids → Entering a empty (zip a.bids gss)
unfolding full_roll
entering_all {a} A gss l =
    let same : bidders_of (zip a.bids gss) ≡ bidders a = map_zip (λ b. b.bidder) a.bids gss l in
    record { proper = proper_empty; enters = rw same (all_enter (bidders a) A.bidders); full = ap (enter empty) same }

-- ---- the calls

accepts : (c : Call) → judgement c ≡ Ok tt → accepted c ≡ true
unfolding is_accepted
accepts c e = rw e

module _ (a : Auction) (c : Coins) where
  unfoldable pub open_at : ℕ → Call
  open_at j = open_call a.n j a.k a.last (zeros a)

  unfoldable pub splits_at : Desk → DrawnBid → ℕ → List Call
  splits_at desk b j = bundle_calls a j b.0.table (flat b.1) (desk b.0.bidder j)

  -- with the bids of these on the roll held and the polynomials fs behind the totals
  unfoldable pub add_at : DrawnBid → (roll : Roll) (fs : List (List ℕ)) → ℕ → Call
  add_at b roll fs j = add_call (holding a.n a.k a.last roll j) (at_party j fs) b.0.bidder (at_party j (entries b.0.table b.1))

  unfoldable pub deal_at : ℕ → SheetCoins → Call
  deal_at j s = deal_call a.n j a.last (coin_words s) (coin_bytes s) (replicate (sheet_size (way_of a.last)) 0)

  unfoldable pub bid_calls : Desk → List DrawnBid → (roll : Roll) (fs : List (List ℕ)) → List Call
  bid_calls desk [] roll fs = []
  bid_calls desk (b ∷ bs) roll fs =
      flatten (map (splits_at desk b) (points a.n))
      ++ (map (add_at b roll fs) (points a.n) ++ bid_calls desk bs (mark roll b.0.bidder) (added_polynomials fs (entries b.0.table b.1)))

  unfoldable pub deal_calls : List ℕ → List Call
  deal_calls [] = []
  deal_calls (j ∷ js) = map (deal_at j) c.sheets ++ deal_calls js

  unfoldable pub setup_calls : Desk → List Call
  setup_calls desk = map open_at (points a.n) ++ (bid_calls desk (zip a.bids c.bids) empty (no_totals a) ++ deal_calls (points a.n))

  -- and all calls from the first saying on
  abbrev pub round_calls : Marks → Attendance → List Call
  round_calls marks att = from_rounds marks att (enough_rounds a) 0 (map (seat a c (fresh_stage (first_search a.k))) (points a.n))

  -- party j's own calls of the bids
  unfoldable pub adds_of : (j : ℕ) → List DrawnBid → (roll : Roll) (fs : List (List ℕ)) → List Call
  adds_of j [] roll fs = []
  adds_of j (b ∷ bs) roll fs = add_at b roll fs j ∷ adds_of j bs (mark roll b.0.bidder) (added_polynomials fs (entries b.0.table b.1))

module _ {a : Auction} {c : Coins} (A : IsAuction a) (C : InRange a c) where
  abbrev t : ℕ
  t = threshold a.n

  -- ---- the seats

  pub seated_all : map (seated a) (points a.n) ≡ map (holding_seat a empty (no_totals a)) (points a.n)
  seated_all = map_points (seated a) (holding_seat a empty (no_totals a)) a.n (λ j h1 hn. seated_holding A j h1 hn)

  all_entering : Entering a empty (zip a.bids c.bids)
  all_entering = entering_all A c.bids C.bids_many

  -- what the dealer writes for a party
  pub sheets_dealt : (j : ℕ) → 1 ≤ j → j ≤ a.n → sheets_for a c j ≡ sheets_at a c j
  unfolding sheets_for sheet_for sheets_at
  sheets_dealt j h1 hn =
      ap flat
      (map_each _ _ c.sheets
      (each_imp (SheetInRange (way_of a.last) t) _ c.sheets (λ s h. deal_writes a.n j a.last (one_of_n _ _ _ (member A j h1 hn)) A.way s h (replicate (sheet_size (way_of a.last)) 0) (length-replicate {A = ℕ} (sheet_size (way_of a.last)) 0)) C.sheets))

  pub dealt_seat : (j : ℕ) → 1 ≤ j → j ≤ a.n
      → after_dealing a c (holding_seat a (full_roll a) (polynomials a c) j) ≡ seat a c (fresh_stage (first_search a.k)) j
  unfolding after_dealing holding_seat holding seat record_at no_words kept.none
  dealt_seat j h1 hn =
      ap (λ (z : List ℕ). record { party = holding a.n a.k a.last (full_roll a) j; totals = at_party j (polynomials a c); sheets = z }) (sheets_dealt j h1 hn)

  dealt_all : map (after_dealing a c) (map (holding_seat a (full_roll a) (polynomials a c)) (points a.n))
      ≡ map (seat a c (fresh_stage (first_search a.k))) (points a.n)
  dealt_all =
      map_through (after_dealing a c) (holding_seat a (full_roll a) (polynomials a c)) (seat a c (fresh_stage (first_search a.k))) a.n dealt_seat

  -- ---- the list of calls

  deals_holding : (roll : Roll) (fs : List (List ℕ)) (js : List ℕ) → deals a c (map (holding_seat a roll fs) js) ≡ deal_calls a c js
  unfolding deals deal_calls deal_for deal_at holding_seat holding
  deals_holding roll fs [] = refl
  deals_holding roll fs (j ∷ js) = ap (λ (z : List Call). map (deal_at a c j) c.sheets ++ z) (deals_holding roll fs js)

  -- ---- every call is accepted

  pub open_own : (j : ℕ) → 1 ≤ j → j ≤ a.n → Own j (open_at a c j)
  unfolding open_at judgement whose of_party
  open_own j h1 hn = record { accepted = accepts (open_at a c j) (opened A j h1 hn); whose = λ i. refl }

  pub add_own : (b : DrawnBid) → GoodBid a.k t b → (roll : Roll) (fs : List (List ℕ)) → Held a.k t fs → Proper roll → Free roll b.0.bidder
      → (j : ℕ) → 1 ≤ j → j ≤ a.n → Own j (add_at a c b roll fs j)
  unfolding add_at judgement whose of_party holding
  add_own b B roll fs F P free j h1 hn =
      record { accepted = accepts (add_at a c b roll fs j) (adding_accepted A j h1 hn b B roll fs F P free); whose = λ i. refl }

  pub deal_at_accepted : (j : ℕ) → 1 ≤ j → j ≤ a.n → (s : SheetCoins) → SheetInRange (way_of a.last) t s → accepted (deal_at a c j s) ≡ true
  unfolding deal_at judgement
  deal_at_accepted j h1 hn s h = accepts (deal_at a c j s) (deals_sheet a.n j a.last (one_of_n _ _ _ (member A j h1 hn)) A.way s h (replicate (sheet_size (way_of a.last)) 0) (length-replicate {A = ℕ} (sheet_size (way_of a.last)) 0))

  deals_accepted : (js : List ℕ) → Each (λ j. (1 ≤ j) × (j ≤ a.n)) js → all_accepted (deal_calls a c js) ≡ true
  unfolding deal_calls all_accepted
  deals_accepted [] h = refl
  deals_accepted (j ∷ js) h =
      all_accepted_append (map (deal_at a c j) c.sheets) (deal_calls a c js)
      (all_accepted_map (deal_at a c j) c.sheets (each_imp (SheetInRange (way_of a.last) t) (λ s. accepted (deal_at a c j s) ≡ true) c.sheets (deal_at_accepted j h.0.0 h.0.1) C.sheets))
      (deals_accepted js h.1)

  -- ---- with the bundles written in these ways

  module _ (marks : Marks) (desk : Desk) (D : Complete a.k desk) (att : Attendance) where
    splits_holding : (b : DrawnBid) (roll : Roll) (fs : List (List ℕ))
        → map (splits_for a desk b) (map (holding_seat a roll fs) (points a.n)) ≡ map (splits_at a c desk b) (points a.n)
    unfolding splits_for splits_at holding_seat holding
    splits_holding b roll fs = map_through (splits_for a desk b) (holding_seat a roll fs) (splits_at a c desk b) a.n (λ j h1 hn. refl)

    adds_holding : (b : DrawnBid) → GoodBid a.k t b → (roll : Roll) (fs : List (List ℕ)) → Held a.k t fs
        → map (add_by a desk b) (map (holding_seat a roll fs) (points a.n)) ≡ map (add_at a c b roll fs) (points a.n)
    unfolding add_by add_at holding_seat
    adds_holding b B roll fs F =
        map_through (add_by a desk b) (holding_seat a roll fs) (add_at a c b roll fs) a.n
        (λ j h1 hn. ap (add_call (holding a.n a.k a.last roll j) (at_party j fs) b.0.bidder) (shares_for_party A j h1 hn b B desk D roll fs))

    from_bids_calls : (bs : List DrawnBid) (roll : Roll) (fs : List (List ℕ)) → Each (GoodBid a.k t) bs → Held a.k t fs
        → Entering a roll bs → totals_after bs fs ≡ polynomials a c
        → from_bids a c marks desk att bs (map (holding_seat a roll fs) (points a.n)) ≡ bid_calls a c desk bs roll fs ++ (deal_calls a c (points a.n) ++ round_calls a c marks att)
    unfolding from_bids bid_calls totals_after
    from_bids_calls [] roll fs B F l e =
        let e' : roll ≡ full_roll a = all_entered a roll l in
        ap₂ ◌++◌ (deals_holding roll fs (points a.n))
        (ap (from_rounds marks att (enough_rounds a) 0)
        (ap₂ (λ (z : Roll) (zs : List (List ℕ)). map (after_dealing a c) (map (holding_seat a z zs) (points a.n))) e' e ∙ dealt_all))
    from_bids_calls (b ∷ bs) roll fs B F l e =
        let rest : List Call = deal_calls a c (points a.n) ++ round_calls a c marks att in
        let gs : List (List ℕ) = added_polynomials fs (entries b.0.table b.1) in
        let splits : List Call = flatten (map (splits_at a c desk b) (points a.n)) in
        let adds : List Call = map (add_at a c b roll fs) (points a.n) in
        ap₂ ◌++◌ (ap flatten (splits_holding b roll fs))
        (ap₂ ◌++◌ (adds_holding b B.0 roll fs F)
        (ap (from_bids a c marks desk att bs)
        (map_through (after_adding a desk b) (holding_seat a roll fs) (holding_seat a (mark roll b.0.bidder) gs) a.n
        (λ j h1 hn. added_holding A j h1 hn b B.0 roll fs F l.proper l.enters.0 desk D))
        ∙ from_bids_calls bs (mark roll b.0.bidder) gs B.1 (added_held a.k t fs (entries b.0.table b.1) F (entries_held a.k t b B.0)) (entering_more a roll b bs l) e))
        ∙ sym (append_assoc splits (adds ++ bid_calls a c desk bs (mark roll b.0.bidder) gs) rest ∙ ap (λ (z : List Call). splits ++ z) (append_assoc adds (bid_calls a c desk bs (mark roll b.0.bidder) gs) rest))

    pub canonical_setup : canonical a c marks desk att ≡ setup_calls a c desk ++ round_calls a c marks att
    unfolding canonical setup_calls open_at polynomials
    canonical_setup =
        let opens : List Call = map (open_at a c) (points a.n) in
        let bids : List Call = bid_calls a c desk (zip a.bids c.bids) empty (no_totals a) in
        ap (λ (z : List Call). opens ++ z)
        (ap (from_bids a c marks desk att (zip a.bids c.bids)) seated_all
        ∙ from_bids_calls (zip a.bids c.bids) empty (no_totals a) (all_good A C) (no_totals_held a.k t) all_entering refl)
        ∙ sym
        (append_assoc opens (bids ++ deal_calls a c (points a.n)) (round_calls a c marks att)
        ∙ ap (λ (z : List Call). opens ++ z) (append_assoc bids (deal_calls a c (points a.n)) (round_calls a c marks att)))

  module _ (desk : Desk) (D : Complete a.k desk) where
    splits_at_accepted : (b : DrawnBid) → GoodBid a.k t b → (j : ℕ) → 1 ≤ j → j ≤ a.n → all_accepted (splits_at a c desk b j) ≡ true
    unfolding splits_at
    splits_at_accepted b B j h1 hn = bundle_accepted A j h1 hn b B (desk b.0.bidder j) (D b.0.bidder j)

    bids_accepted : (bs : List DrawnBid) (roll : Roll) (fs : List (List ℕ)) → Each (GoodBid a.k t) bs → Held a.k t fs
        → Entering a roll bs → all_accepted (bid_calls a c desk bs roll fs) ≡ true
    unfolding bid_calls all_accepted
    bids_accepted [] roll fs B F l = refl
    bids_accepted (b ∷ bs) roll fs B F l =
        all_accepted_append (flatten (map (splits_at a c desk b) (points a.n))) _
        (all_accepted_flatten (splits_at a c desk b) a.n (splits_at_accepted b B.0))
        (all_accepted_append (map (add_at a c b roll fs) (points a.n)) _
        (all_accepted_points (add_at a c b roll fs) a.n (λ j h1 hn. (add_own b B.0 roll fs F l.proper l.enters.0 j h1 hn).accepted))
        (bids_accepted bs (mark roll b.0.bidder) (added_polynomials fs (entries b.0.table b.1)) B.1
        (added_held a.k t fs (entries b.0.table b.1) F (entries_held a.k t b B.0)) (entering_more a roll b bs l)))

    pub setup_accepted : all_accepted (setup_calls a c desk) ≡ true
    unfolding setup_calls
    setup_accepted =
        all_accepted_append (map (open_at a c) (points a.n)) _
        (all_accepted_points (open_at a c) a.n (λ j h1 hn. (open_own j h1 hn).accepted))
        (all_accepted_append (bid_calls a c desk (zip a.bids c.bids) empty (no_totals a)) (deal_calls a c (points a.n))
        (bids_accepted (zip a.bids c.bids) empty (no_totals a) (all_good A C) (no_totals_held a.k t) all_entering)
        (deals_accepted (points a.n) (each_point (λ j. (1 ≤ j) × (j ≤ a.n)) a.n (λ j h1 hn. (h1, hn)))))

-- ---- what a party receives in them

module _ (a : Auction) (c : Coins) (j : ℕ) where
  own_splits : (desk : Desk) (b : DrawnBid) → own j (flatten (map (splits_at a c desk b) (points a.n))) ≡ []
  unfolding splits_at
  own_splits desk b = own_flatten j (splits_at a c desk b) (points a.n) (λ i. own_bundle a j i b.0.table (flat b.1) (desk b.0.bidder i))

  pub own_deals : (js : List ℕ) → own j (deal_calls a c js) ≡ []
  unfolding deal_calls deal_at whose of_party select
  own_deals [] = refl
  own_deals (i ∷ js) =
      own_append j (map (deal_at a c i) c.sheets) (deal_calls a c js) ∙ ap₂ ◌++◌ (own_none j (deal_at a c i) c.sheets (λ s. refl)) (own_deals js)

  given_add : (b : DrawnBid) (roll : Roll) (fs : List (List ℕ)) → given (add_at a c b roll fs j) ≡ add_at a c b roll fs j
  unfolding add_at given
  given_add b roll fs = refl

  adds_bids : (bs : List DrawnBid) (roll : Roll) (fs : List (List ℕ))
      → collect bid_in (adds_of a c j bs roll fs) ≡ map (bid_for j) bs
  unfolding adds_of add_at bid_in collect
  adds_bids [] roll fs = refl
  adds_bids (b ∷ bs) roll fs =
      ap (λ (z : List (ℕ × List ℕ)). bid_for j b ∷ z) (adds_bids bs (mark roll b.0.bidder) (added_polynomials fs (entries b.0.table b.1)))

  -- a reader that passes over addings
  module _ {B : Type 0} (f : Call → Option B) (no_add : (q : Party) (t : List ℕ) (bidder : ℕ) (s : List ℕ) → f (add_call q t bidder s) ≡ none) where
    adds_none : (bs : List DrawnBid) (roll : Roll) (fs : List (List ℕ)) → collect f (adds_of a c j bs roll fs) ≡ []
    unfolding adds_of add_at collect
    adds_none [] roll fs = refl
    adds_none (b ∷ bs) roll fs =
        let gs : List (List ℕ) = added_polynomials fs (entries b.0.table b.1) in
        collect_none f (add_at a c b roll fs j) (adds_of a c j bs (mark roll b.0.bidder) gs) (no_add _ _ _ _)
        ∙ adds_none bs (mark roll b.0.bidder) gs

module _ {a : Auction} {c : Coins} (A : IsAuction a) (C : InRange a c) (desk : Desk) (j : ℕ) (h1 : 1 ≤ j) (hn : j ≤ a.n) where
  own_bids : (bs : List DrawnBid) (roll : Roll) (fs : List (List ℕ)) → Each (GoodBid a.k (threshold a.n)) bs
      → Held a.k (threshold a.n) fs → Entering a roll bs → own j (bid_calls a c desk bs roll fs) ≡ adds_of a c j bs roll fs
  unfolding bid_calls adds_of select
  own_bids [] roll fs B F l = refl
  own_bids (b ∷ bs) roll fs B F l =
      let gs : List (List ℕ) = added_polynomials fs (entries b.0.table b.1) in
      let splits : List Call = flatten (map (splits_at a c desk b) (points a.n)) in
      let adds : List Call = map (add_at a c b roll fs) (points a.n) in
      own_append j splits (adds ++ bid_calls a c desk bs (mark roll b.0.bidder) gs)
      ∙ ap₂ ◌++◌ (own_splits a c j desk b)
      (own_append j adds (bid_calls a c desk bs (mark roll b.0.bidder) gs)
      ∙ ap₂ ◌++◌
      (own_points j a.n (add_at a c b roll fs) h1 hn (add_own A C b B.0 roll fs F l.proper l.enters.0)
      ∙ ap (λ (z : Call). z ∷ []) (given_add a c j b roll fs))
      (own_bids bs (mark roll b.0.bidder) gs B.1
      (added_held a.k (threshold a.n) fs (entries b.0.table b.1) F (entries_held a.k (threshold a.n) b B.0)) (entering_more a roll b bs l)))

  -- its own calls: it opens a session, and adds its shares of each bid
  pub own_setup : own j (setup_calls a c desk) ≡ given (open_at a c j) ∷ adds_of a c j (zip a.bids c.bids) empty (no_totals a)
  unfolding setup_calls
  own_setup =
      let opens : List Call = map (open_at a c) (points a.n) in
      let bids : List Call = bid_calls a c desk (zip a.bids c.bids) empty (no_totals a) in
      own_append j opens (bids ++ deal_calls a c (points a.n))
      ∙ ap₂ ◌++◌ (own_points j a.n (open_at a c) h1 hn (open_own A C))
      (own_append j bids (deal_calls a c (points a.n))
      ∙ ap₂ ◌++◌
      (own_bids (zip a.bids c.bids) empty (no_totals a) (all_good A C) (no_totals_held a.k (threshold a.n)) (all_entering A C))
      (own_deals a c j (points a.n))
      ∙ append-nil (adds_of a c j (zip a.bids c.bids) empty (no_totals a)))

  pub setup_bids : collect bid_in (own j (setup_calls a c desk)) ≡ bid_words j a.bids c.bids
  unfolding open_at given bid_in collect
  setup_bids = ap (collect bid_in) own_setup ∙ adds_bids a c j (zip a.bids c.bids) empty (no_totals a)

  -- a reader that passes over openings and addings
  pub setup_none : {B : Type 0} (f : Call → Option B) → ((n own k last : ℕ) (t : List ℕ) → f (open_call n own k last t) ≡ none)
      → ((q : Party) (t : List ℕ) (bidder : ℕ) (s : List ℕ) → f (add_call q t bidder s) ≡ none) → collect f (own j (setup_calls a c desk)) ≡ []
  unfolding open_at given
  setup_none f no_open no_add =
      ap (collect f) own_setup ∙ collect_none f _ _ (no_open _ _ _ _ _) ∙ adds_none a c j f no_add (zip a.bids c.bids) empty (no_totals a)
