-- Opening the sessions and adding a bid, for all parties: the records and totals of an auction's run. Assumes nothing.
use mathlib.Core.Path.{◌≡◌, refl, sym, ap, ap₂, ◌∙◌}
use mathlib.Core.List.{List, [], ◌∷◌, map, zip, zip_with}
use Prim.Native.Nat.{ℕ, suc, ◌+◌, ◌-◌, ◌*◌, ◌^◌, ◌<◌}
use native.Mathlib.Nat.{sub-zero}
use native.Mathlib.Numerals.{add-one}
use native.Mathlib.Omega.{arith}
use lib.ListN.{length, drop, get_or, replicate, length-map}
use lib.Seq.{drop-drop}
use Rattle.refusal.proofs.Judging.{kept_new}
use Rattle.ranges.specs.Lists.{from}
use Rattle.ranges.proofs.Loops.{length_from}
use Rattle.sharing.specs.Scheme.{threshold}
use Rattle.comparison.specs.Probe.{Each}
use Rattle.record.specs.declared.Party.{Party}
use Rattle.record.proofs.Replies.{next_party}
use Rattle.session.specs.Add.{add_reply, add_left}
use Rattle.roll.specs.declared.Roll.{Roll}
use Rattle.roll.specs.Marks.{empty, mark}
use Rattle.roll.proofs.Laws.{Proper, Free}
use Rattle.auction.specs.Auction.{Auction, Bid, IsAuction}
use Rattle.auction.specs.Coins.{Coins, DrawnBid, flat}
use Rattle.auction.specs.Desk.{whole}
use Rattle.auction.specs.Canonical.{Seat, bundle, shares_for, after_adding}
use Rattle.auction.proofs.Closed.{entries, added_polynomials, totals_after, at_party, no_totals, polynomials, full_roll}
use Rattle.auction.proofs.Totals.{GoodBid, bids_good, Held, entries_held, added_held, no_totals_held}
use Rattle.auction.proofs.Bidding.{opening_accepted, holding, fresh_holding, holding_seat, at_party_zeros, added_holding}
use Rattle.auction.proofs.Setup.{Entering, entering_more, all_entered, entering_all}
use Rattle.draws.specs.Draws.{first_state, next_coin, later, drawn_coins, groups, bid_coins, after_bids, auction_coins}
use Rattle.lines.specs.Lines.{numbers, bytes_of, past}
use Rattle.sections.specs.Sections.{tables}
use Rattle.standing.specs.Numbered.{numbered}
use Rattle.standing.proofs.Standing.{auction_of, Holds, Adds}
use Rattle.sections.proofs.Bids.{length_tables}
use Rattle.draws.proofs.Drawn.{Word, groups_flat, bid_coins_length, bid_coins_in_range}
use Rattle.record.specs.Record.{blank}
use Rattle.record.specs.Updates.{fresh}
use Rattle.session.specs.Open.{open_reply, open_left}
use Rattle.panel.specs.Parties.{All, part, shares_of, party_added, totals_added}
use Rattle.panel.proofs.Parts.{part_length}

module _ {a : Auction} (A : IsAuction a) where
  -- what `open_all` leaves
  pub opened_holds : (old totals : List ℕ) (parties : List Party) → length old ≡ a.n * (2 * a.k)
      → All a.n
      (λ i. (get_or parties i blank ≡ (open_reply a.n (i + 1) a.k a.last (part (2 * a.k) i old)).party)
      × (part (2 * a.k) i totals ≡ open_left a.n (i + 1) a.k a.last (part (2 * a.k) i old)))
      → Holds a empty (no_totals a) parties totals
  opened_holds old totals parties l e i h =
      let ok = opening_accepted A (i + 1) (omega arith) (omega arith) (part (2 * a.k) i old) (part_length (2 * a.k) a.n i old l h) in (
        (e i h).0 ∙ next_party _ (fresh a.n (i + 1) a.k a.last) blank ok ∙ fresh_holding a.n a.k a.last (i + 1),
        (e i h).1 ∙ kept_new _ (replicate (2 * a.k) 0) (part (2 * a.k) i old) ok ∙ sym (at_party_zeros (threshold a.n) (i + 1) (2 * a.k)),
      )

  -- what `add_all` leaves
  pub added_holds : (b : DrawnBid) → GoodBid a.k (threshold a.n) b → (roll : Roll) (fs : List (List ℕ))
      → Held a.k (threshold a.n) fs → Proper roll → Free roll b.0.bidder
      → (parties after : List Party) (totals new : List ℕ) → Holds a roll fs parties totals
      → All a.n
      (λ i. (get_or after i blank ≡ party_added a.n a.k b.0.bidder b.0.table (flat b.1) parties totals i)
      × (part (2 * a.k) i new ≡ totals_added a.n a.k b.0.bidder b.0.table (flat b.1) parties totals i))
      → Holds a (mark roll b.0.bidder) (added_polynomials fs (entries b.0.table b.1)) after new
  unfolding party_added totals_added shares_of after_adding shares_for bundle holding_seat holding
  added_holds b B roll fs F P free parties after totals new H e i h =
      let w : List ℕ = shares_of a.n a.k (i + 1) b.0.table (flat b.1) in
      let s = added_holding A (i + 1) (omega arith) (omega arith) b B roll fs F P free (λ bidder own. whole) (λ bidder own. tt) in (
        (e i h).0 ∙ ap₂ (λ (q : Party) (x : List ℕ). (add_reply q x b.0.bidder w).party) (H i h).0 (H i h).1 ∙ ap (λ (s : Seat). s.party) s,
        (e i h).1 ∙ ap₂ (λ (q : Party) (x : List ℕ). add_left q x b.0.bidder w) (H i h).0 (H i h).1 ∙ ap (λ (s : Seat). s.totals) s,
      )

-- ---- bid after bid

-- a bid with the coins that are drawn for it
abbrev drawn : (k t x : ℕ) → Bid → DrawnBid
drawn k t x b = (b, groups next_coin (2 ^ 61) t (2 * k) x)

-- as the program draws them
drawn_flat : (k t x : ℕ) → flat (groups next_coin (2 ^ 61) t (2 * k) x) ≡ drawn_coins (2 * k * t) x
drawn_flat k t x = groups_flat next_coin (2 ^ 61) t (2 * k) x

-- ---- the bids of an input

-- their bidders, and their number
pub numbered_bidders : (b : ℕ) (tables : List (List ℕ)) → map (λ x. x.bidder) (numbered b tables) ≡ from b (length tables)
unfolding numbered from
numbered_bidders b [] = refl
numbered_bidders b (t ∷ tables) = ap (λ (bs : List ℕ). b ∷ bs) (numbered_bidders (suc b) tables)

pub length_numbered : (b : ℕ) (tables : List (List ℕ)) → length (numbered b tables) ≡ length tables
length_numbered b tables =
    sym (length-map (numbered b tables) (λ x. x.bidder)) ∙ ap length (numbered_bidders b tables) ∙ length_from b (length tables)

-- m of them from `at`, whose bidders are b and those after it, with coins drawn from `last` on
unfoldable pub still : (k t m b : ℕ) (input : List ℕ) (at last : ℕ) → List DrawnBid
still k t m b input at last = zip (numbered b (tables k m (drop at input))) (bid_coins t k m last)

-- the first of them, and the others
still_more : (k t m b : ℕ) (input : List ℕ) (at last new_at new_last : ℕ) → new_at ≡ at + bytes_of (2 * k) (drop at input)
    → new_last ≡ later next_coin (2 * k * t) last
    → still k t (suc m) b input at last
    ≡ drawn k t last (record { bidder = b; table = numbers (2 * k) (drop at input) }) ∷ still k t m (suc b) input new_at new_last
unfolding still tables numbered bid_coins zip zip_with
still_more k t m b input at last new_at new_last ea el =
    let first : DrawnBid = drawn k t last (record { bidder = b; table = numbers (2 * k) (drop at input) }) in
    let d : past (2 * k) (drop at input) ≡ drop new_at input = drop-drop (bytes_of (2 * k) (drop at input)) at input ∙ ap (λ (z : ℕ). drop z input) (sym ea) in
    ap₂ (λ (x : List ℕ) (y : ℕ). first ∷ zip (numbered (suc b) (tables k m x)) (bid_coins t k m y)) d (sym el)

-- i of them are added, and the others are still to be read from `at` and drawn from `last` on
pub record Bidding (a : Auction) (bids : ℕ) (input : List ℕ) (whole : List (List ℕ)) (parties : List Party) (totals : List ℕ) (at last i : ℕ) : Type 0 where
  pub roll : Roll
  pub behind : List (List ℕ)
  pub held : Held a.k (threshold a.n) behind
  pub holds : Holds a roll behind parties totals
  pub entering : Entering a roll (still a.k (threshold a.n) (bids - i) (i + 1) input at last)
  pub good : Each (GoodBid a.k (threshold a.n)) (still a.k (threshold a.n) (bids - i) (i + 1) input at last)
  pub rest : totals_after (still a.k (threshold a.n) (bids - i) (i + 1) input at last) behind ≡ whole

module _ {a : Auction} (A : IsAuction a) (bids : ℕ) (input : List ℕ) (whole : List (List ℕ)) where
  pub bidding_more : (parties new_parties : List Party) (totals new_totals : List ℕ) (at last i : ℕ) → Bidding a bids input whole parties totals at last i
      → i < bids → (new_at new_last : ℕ) → new_at ≡ at + bytes_of (2 * a.k) (drop at input)
      → new_last ≡ later next_coin (2 * a.k * threshold a.n) last
      → All a.n
      (λ j. (get_or new_parties j blank
      ≡ party_added a.n a.k (i + 1) (numbers (2 * a.k) (drop at input)) (drawn_coins (2 * a.k * threshold a.n) last) parties totals j)
      × (part (2 * a.k) j new_totals
      ≡ totals_added a.n a.k (i + 1) (numbers (2 * a.k) (drop at input)) (drawn_coins (2 * a.k * threshold a.n) last) parties totals j))
      → Bidding a bids input whole new_parties new_totals new_at new_last (i + 1)
  unfolding totals_after
  bidding_more parties new_parties totals new_totals at last i B h new_at new_last ea el added =
      let k = a.k in
      let t = threshold a.n in
      let b : DrawnBid = drawn k t last (record { bidder = i + 1; table = numbers (2 * k) (drop at input) }) in
      let others : List DrawnBid = still k t (bids - (i + 1)) (i + 1 + 1) input new_at new_last in
      let m : bids - i ≡ suc (bids - (i + 1)) = omega arith in
      let e : still k t (bids - i) (i + 1) input at last ≡ b ∷ others =
      ap (λ (z : ℕ). still k t z (i + 1) input at last) m
      ∙ still_more k t (bids - (i + 1)) (i + 1) input at last new_at new_last ea el
      ∙ ap (λ (z : ℕ). b ∷ still k t (bids - (i + 1)) z input new_at new_last) (sym (add-one (i + 1))) in
      let I : Entering a B.roll (b ∷ others) = rw e at B.entering in
      let G : Each (GoodBid k t) (b ∷ others) = rw e at B.good in
      let R : totals_after (b ∷ others) B.behind ≡ whole = rw e at B.rest in
      record {
        roll = mark B.roll (i + 1);
        behind = added_polynomials B.behind (entries b.0.table b.1);
        held = added_held k t B.behind (entries b.0.table b.1) B.held (entries_held k t b G.0);
        holds =
            added_holds A b G.0 B.roll B.behind B.held I.proper I.enters.0 parties new_parties totals new_totals B.holds
            (rw (drawn_flat k t last) added);
        entering = entering_more a B.roll b others I;
        good = G.1;
        rest = R;
      }

  -- all are added
  pub bidding_end : (parties : List Party) (totals : List ℕ) (at last i : ℕ) → Bidding a bids input whole parties totals at last i → i ≡ bids
      → Holds a (full_roll a) whole parties totals
  unfolding still tables numbered bid_coins zip zip_with totals_after
  bidding_end parties totals at last i B e j h =
      let z : bids - i ≡ 0 = omega arith in
      let none : still a.k (threshold a.n) (bids - i) (i + 1) input at last ≡ [] =
      ap (λ (m : ℕ). still a.k (threshold a.n) m (i + 1) input at last) z in
      let full : B.roll ≡ full_roll a = all_entered a B.roll (rw none at B.entering) in
      let r : B.behind ≡ whole = rw none at B.rest in
      ((B.holds j h).0 ∙ ap (λ (x : Roll). holding a.n a.k a.last x (j + 1)) full, (B.holds j h).1 ∙ ap (at_party (j + 1)) r)

-- none is
pub bidding_start : (n k bids : ℕ) (input : List ℕ) (at state : ℕ) → Word state → (parties : List Party) (totals : List ℕ) → IsAuction (auction_of n k bids (drop at input))
    → Holds (auction_of n k bids (drop at input)) empty (no_totals (auction_of n k bids (drop at input))) parties totals
    → Bidding (auction_of n k bids (drop at input)) bids input
    (totals_after (zip (numbered 1 (tables k bids (drop at input))) (bid_coins (threshold n) k bids state)) (no_totals (auction_of n k bids (drop at input)))) parties totals
    at state 0
unfolding still
bidding_start n k bids input at state w parties totals A H =
    let many : length (bid_coins (threshold n) k bids state) ≡ length (numbered 1 (tables k bids (drop at input))) =
    bid_coins_length (threshold n) k bids state ∙ sym (length_numbered 1 (tables k bids (drop at input)) ∙ length_tables k bids (drop at input)) in
    record {
      roll = empty;
      behind = no_totals (auction_of n k bids (drop at input));
      held = no_totals_held k (threshold n);
      holds = H;
      entering = rw (sub-zero bids) (entering_all A (bid_coins (threshold n) k bids state) many);
      good =
          rw (sub-zero bids)
          (bids_good k (threshold n) (numbered 1 (tables k bids (drop at input))) (bid_coins (threshold n) k bids state) A.tables
          (bid_coins_in_range (threshold n) k bids state w));
      rest = rw (sub-zero bids);
    }

-- the state of the draws
pub bids_left : (t k bids i x y z : ℕ) → i < bids → y ≡ later next_coin (2 * k * t) x → after_bids t k (bids - i) x ≡ z → after_bids t k (bids - (i + 1)) y ≡ z
unfolding after_bids
bids_left t k bids i x y z h e f =
    let n : bids - i ≡ suc (bids - (i + 1)) = omega arith in
    ap (after_bids t k (bids - (i + 1))) e ∙ ap (λ (m : ℕ). after_bids t k m x) (sym n) ∙ f

pub bids_done : (t k bids i x z : ℕ) → i ≡ bids → after_bids t k (bids - i) x ≡ z → x ≡ z
unfolding after_bids
bids_done t k bids i x z e f =
    let n : bids - i ≡ 0 = omega arith in
    ap (λ (m : ℕ). after_bids t k m x) (sym n) ∙ f

-- ---- the whole auction

module _ (n k bids seed : ℕ) (bytes : List ℕ) where
  abbrev a : Auction
  a = auction_of n k bids bytes

  abbrev coins : Coins
  coins = auction_coins n k bids seed

  -- what `collect` leaves
  pub collected_holds : (state : ℕ) → state ≡ first_state seed → (opened parties : List Party) (fresh totals : List ℕ) → IsAuction a
      → Adds n k bids bytes state opened fresh parties totals → Holds a empty (no_totals a) opened fresh → Holds a (full_roll a) (polynomials a coins) parties totals
  unfolding polynomials auction_coins
  collected_holds state e opened parties fresh totals A D H i h =
      let g = D A H i h in (
        g.0,
        g.1
            ∙ ap (λ (x : ℕ). at_party (i + 1) (totals_after (zip (numbered 1 (tables k bids bytes)) (bid_coins (threshold n) k bids x)) (no_totals a))) e,
      )
