-- Opening a session, splitting a bid and adding its shares, for parties that hold the polynomials of the totals between them. Assumes nothing.
use Rattle.std.specs.Prelude.{Ok}
use mathlib.Core.Path.{◌≡◌, refl, sym, ap, ap₂, ◌∙◌}
use mathlib.Core.Bool.{true, ◌&&◌}
use mathlib.Core.List.{List, [], ◌∷◌}
use Prim.Native.Nat.{ℕ, zero, suc, ◌+◌, ◌*◌, ◌%◌, ◌≤◌, ◌<◌}
use native.Mathlib.Nat.{suc_inj, mul-zero}
use native.Mathlib.Omega.{arith}
use lib.ListN.{length, replicate, length-append, length-map, length-replicate}
use lib.Seq.{take_at, drop_at}
use Rattle.fields.specs.Amount.{p, amounts}
use Rattle.ranges.specs.Below.{AllBelow}
use Rattle.fields.proofs.Fields.{amount_field}
use Rattle.refusal.proofs.Judging.{kept_new}
use Rattle.sharing.specs.Polynomial.{value, share_each}
use Rattle.sharing.specs.Linear.{sums}
use Rattle.sharing.specs.Scheme.{threshold}
use Rattle.ranges.specs.Lists.{every}
use Rattle.ranges.proofs.Loops.{and-true}
use Rattle.ranges.proofs.Ranges.{OnList, below_append}
use Rattle.sharing.proofs.Laws.{value_lt, value_sums}
use Rattle.comparison.specs.Probe.{Each, Group}
use Rattle.comparison.proofs.Values.{Shared}
use Rattle.bid.specs.Split.{bid_shares, split_left}
use Rattle.bid.specs.Entry.{is_entry, entry_coins}
use Rattle.bid.proofs.Laws.{Splits, split_accepted}
use Rattle.bid.proofs.Entries.{length_left, all_are_entries, entry_accepted, any_order}
use Rattle.roll.specs.declared.Roll.{Roll}
use Rattle.roll.specs.Marks.{marks, empty, mark}
use Rattle.roll.proofs.Laws.{Proper, Free, marks_mark, marks_empty}
use Rattle.ways.specs.Way.{is_way}
use Rattle.kept_pairs.specs.Pairs.{none}
use Rattle.record.specs.declared.Party.{Party}
use Rattle.record.specs.Record.{blank}
use Rattle.session.specs.Open.{open_judgement}
use Rattle.search.specs.Searches.{first_search}
use Rattle.record.specs.Updates.{fresh, entered}
use Rattle.record.proofs.Replies.{next_party}
use Rattle.record.proofs.Soundness.{Sound}
use Rattle.record.proofs.Updates.{fresh_sound}
use Rattle.session.specs.Add.{add_judgement, add_reply, add_left}
use Rattle.session.proofs.Laws.{open_accepted, add_accepted}
use Rattle.auction.specs.Auction.{Auction, IsAuction}
use Rattle.auction.specs.Coins.{DrawnBid, flat}
use Rattle.auction.specs.Desk.{Way, whole, by_entries, EachOnce, Desk, Complete}
use Rattle.auction.specs.Call.{judgement, is_accepted}
use Rattle.auction.specs.Canonical.{Seat, zeros, seated, entry_calls, bundle_calls, bundle, shares_for, after_adding}
use Rattle.auction.specs.Demands.{all_accepted}
use Rattle.auction.proofs.Closed.{entries, added_polynomials, at_party, no_totals}
use Rattle.auction.proofs.Totals.{GoodBid, Held, entries_held}

-- ---- flattened groups

module _ (q t : ℕ) where
  pub flat_below : (gs : List (List ℕ)) → Each (Group q t) gs → AllBelow q (flat gs)
  unfolding flat
  flat_below [] h = tt
  flat_below (g ∷ gs) h = below_append q g (flat gs) h.0.1 (flat_below gs h.1)

  pub flat_length : (gs : List (List ℕ)) → Each (Group q t) gs → length (flat gs) ≡ length gs * t
  unfolding flat
  flat_length [] h = omega arith
  flat_length (g ∷ gs) h = length-append g (flat gs) ∙ omega (arith, h.0.0, flat_length gs h.1)

-- ---- splitting

-- the groups are taken one after the other
pub shares_written : (t j : ℕ) (table : List ℕ) (groups : List (List ℕ)) → length groups ≡ length table → Each (Group p t) groups
    → bid_shares t j table (flat groups) ≡ at_party j (entries table groups)
unfolding share_each entries flat
shares_written t j [] gs l h = refl
shares_written t j (x ∷ xs) [] l h = absurd (omega arith)
shares_written t j (x ∷ xs) (g ∷ gs) l h =
    ap₂ (λ (u v : List ℕ). value amounts (x ∷ u) j ∷ bid_shares t j xs v) (take_at g (flat gs) t h.0.0) (drop_at g (flat gs) t h.0.0)
    ∙ ap (λ (z : List ℕ). value amounts (x ∷ g) j ∷ z) (shares_written t j xs gs (suc_inj l) h.1)

module _ (n j k : ℕ) (L : OnList n j k) (b : DrawnBid) (shares : List ℕ) (B : GoodBid k (threshold n) b) (l : length shares ≡ 2 * k) where
  splits_bid : Splits n j k b.0.table (flat b.1) shares
  splits_bid =
      record {
        listed = L;
        table_long = B.table.long;
        coins_long = flat_length p (threshold n) b.1 B.groups ∙ ap (λ (z : ℕ). z * threshold n) B.many;
        shares_long = l;
        faultless =
            record {
              coins_below = flat_below p (threshold n) b.1 B.groups;
              small = B.table.small;
              monotone = B.table.monotone;
            };
      }

  split_writes : split_left n j k b.0.table (flat b.1) shares ≡ at_party j (entries b.0.table b.1)
  split_writes =
      kept_new _ _ shares (split_accepted n j k b.0.table (flat b.1) shares splits_bid)
      ∙ shares_written (threshold n) j b.0.table b.1 (B.many ∙ sym B.table.long) B.groups

-- the record of party j with the bids of these on the roll held
unfoldable pub holding : (n k last : ℕ) (roll : Roll) (j : ℕ) → Party
holding n k last roll j =
    record { n = n; own = j; k = k; bids = marks roll; search = first_search k; round = 1; sum = 0; carry = 0; roll = roll; demand = 0; supply = 0; last = last; pairs = none }

-- no probe is made at the start
none_made : (k : ℕ) → (first_search k).probes ≡ 0
unfolding first_search
none_made k = refl

pub fresh_holding : (n k last j : ℕ) → fresh n j k last ≡ holding n k last empty j
unfolding fresh holding
fresh_holding n k last j = rw marks_empty

module _ (n k last j : ℕ) (roll : Roll) (P : Proper roll) where
  pub one_more : (b : ℕ) → Free roll b → entered (holding n k last roll j) b ≡ holding n k last (mark roll b) j
  unfolding entered holding
  one_more b free = rw (marks_mark roll P b free)

  holding_sound : OnList n j k → is_way last ≡ true → Sound (holding n k last roll j)
  unfolding holding fresh
  holding_sound L W =
      let s = fresh_sound n j k last L W in
      record {
        listed = L;
        search = s.search;
        round = s.round;
        sum = s.sum;
        carry = s.carry;
        roll = P;
        bids = refl;
        totals = s.totals;
        way = W;
        pairs = s.pairs;
      }

-- ---- the words of a party

pub point_below : (n j : ℕ) → n ≤ 9 → j ≤ n → j < p
point_below n j h l = omega arith

pub at_party_below : (t j : ℕ) (fs : List (List ℕ)) → j < p → Each (Shared p t) fs → AllBelow p (at_party j fs)
at_party_below t j [] hj h = tt
at_party_below t j (f ∷ fs) hj h = (value_lt amount_field f j h.0.1 hj, at_party_below t j fs hj h.1)

pub at_party_added : (t j : ℕ) (fs gs : List (List ℕ)) → j < p → Each (Shared p t) fs → Each (Shared p t) gs → length gs ≡ length fs
    → sums amounts (at_party j fs) (at_party j gs) ≡ at_party j (added_polynomials fs gs)
unfolding sums added_polynomials
at_party_added t j [] [] hj hf hg l = refl
at_party_added t j [] (g ∷ gs) hj hf hg l = absurd (omega arith)
at_party_added t j (f ∷ fs) [] hj hf hg l = absurd (omega arith)
at_party_added t j (f ∷ fs) (g ∷ gs) hj hf hg l =
    ap₂ (λ (x : ℕ) (xs : List ℕ). x ∷ xs) (sym (value_sums amount_field f g j hf.0.1 hg.0.1 hj))
    (at_party_added t j fs gs hj hf.1 hg.1 (suc_inj l))

value_zeros : (m j : ℕ) → value amounts (replicate m 0) j ≡ 0
unfolding value
value_zeros zero j = refl
value_zeros (suc m) j = ap (λ (z : ℕ). (0 + j * z % p) % p) (value_zeros m j) ∙ ap (λ (z : ℕ). (0 + z % p) % p) (mul-zero j)

pub at_party_zeros : (t j m : ℕ) → at_party j (replicate m (replicate (suc t) 0)) ≡ replicate m 0
at_party_zeros t j zero = refl
at_party_zeros t j (suc m) = ap₂ (λ (x : ℕ) (xs : List ℕ). x ∷ xs) (value_zeros (suc t) j) (at_party_zeros t j m)

-- ---- seats

-- party j with the bids of these on the roll held and the polynomials fs behind the totals
unfoldable pub holding_seat : (a : Auction) (roll : Roll) (fs : List (List ℕ)) (j : ℕ) → Seat
holding_seat a roll fs j = record { party = holding a.n a.k a.last roll j; totals = at_party j fs; sheets = [] }

module _ {a : Auction} (A : IsAuction a) (j : ℕ) (h1 : 1 ≤ j) (hn : j ≤ a.n) where
  -- every party of an auction is one of n, with k listed prices
  pub member : OnList a.n j a.k
  member =
      record {
        parties_least = A.n_least;
        parties_most = A.n_most;
        own_least = h1;
        own_most = hn;
        prices_least = A.k_least;
        prices_most = A.k_most;
      }

  pub opening_accepted : (totals : List ℕ) → length totals ≡ 2 * a.k → open_judgement a.n j a.k a.last totals ≡ Ok tt
  opening_accepted totals l = open_accepted a.n j a.k a.last totals (record { listed = member; way = A.way; totals_long = l })

module _ {a : Auction} (A : IsAuction a) (j : ℕ) (h1 : 1 ≤ j) (hn : j ≤ a.n) where
  pub opened : open_judgement a.n j a.k a.last (zeros a) ≡ Ok tt
  opened = opening_accepted A j h1 hn (zeros a) (length-replicate (2 * a.k) 0)

  pub seated_holding : seated a j ≡ holding_seat a empty (no_totals a) j
  unfolding seated holding_seat
  seated_holding =
      ap₂ (λ (q : Party) (totals : List ℕ). record { party = q; totals = totals; sheets = [] })
      (next_party _ (fresh a.n j a.k a.last) blank opened ∙ fresh_holding a.n a.k a.last j)
      (kept_new _ (replicate (2 * a.k) 0) (zeros a) opened ∙ sym (at_party_zeros (threshold a.n) j (2 * a.k)))

  module _ (b : DrawnBid) (B : GoodBid a.k (threshold a.n) b) where
    -- the words of a bid make a call for the whole table, whatever the slice holds
    splits_on : (lent : List ℕ) → length lent ≡ 2 * a.k → Splits a.n j a.k b.0.table (flat b.1) lent
    splits_on lent l = splits_bid a.n j a.k (member A j h1 hn) b lent B l

    -- entry after entry, in any order, every call is accepted
    entries_accepted : (order lent : List ℕ) → every (is_entry a.k) order ≡ true → length lent ≡ 2 * a.k
        → all_accepted (entry_calls a j b.0.table (flat b.1) order lent) ≡ true
    unfolding entry_calls all_accepted judgement is_accepted every
    entries_accepted [] lent h l = refl
    entries_accepted (e ∷ es) lent h l =
        let w = and-true (is_entry a.k e) (every (is_entry a.k) es) h in
        let words = entry_coins (threshold a.n) e (flat b.1) in
        ap₂ ◌&&◌ (ap is_accepted (entry_accepted (splits_on lent l) e w.0 lent l))
        (entries_accepted es _ w.1 (length_left a.n j a.k e b.0.table words lent ∙ l))

    -- either way the calls are accepted, and leave the party's words of the bid's polynomials
    pub bundle_accepted : (way : Way) → EachOnce a.k way → all_accepted (bundle_calls a j b.0.table (flat b.1) way) ≡ true
    unfolding bundle_calls all_accepted judgement is_accepted
    bundle_accepted whole w = rw (split_accepted _ _ _ _ _ _ (splits_on (zeros a) (length-replicate (2 * a.k) 0)))
    bundle_accepted (by_entries order lent) w = entries_accepted order lent (all_are_entries a.k order w.0) w.1

    bundle_written : (way : Way) → EachOnce a.k way → bundle a j b.0.table (flat b.1) way ≡ at_party j (entries b.0.table b.1)
    unfolding bundle
    bundle_written whole w = split_writes a.n j a.k (member A j h1 hn) b (zeros a) B (length-replicate (2 * a.k) 0)
    bundle_written (by_entries order lent) w =
        any_order a.n j a.k b.0.table (flat b.1) lent (split_accepted _ _ _ _ _ _ (splits_on lent w.1)) lent w.1 order w.0
        ∙ split_writes a.n j a.k (member A j h1 hn) b lent B w.1

    pub shares_for_party : (desk : Desk) → Complete a.k desk → (roll : Roll) (fs : List (List ℕ))
        → shares_for a desk b (holding_seat a roll fs j) ≡ at_party j (entries b.0.table b.1)
    unfolding shares_for holding_seat holding
    shares_for_party desk D roll fs = bundle_written (desk b.0.bidder j) (D b.0.bidder j)

    module _ (roll : Roll) (fs : List (List ℕ)) (F : Held a.k (threshold a.n) fs) where
      module _ (P : Proper roll) (free : Free roll b.0.bidder) where
        pub adding_accepted : add_judgement (holding a.n a.k a.last roll j) (at_party j fs) b.0.bidder (at_party j (entries b.0.table b.1)) ≡ Ok tt
        unfolding holding
        adding_accepted =
            let E : Held a.k (threshold a.n) (entries b.0.table b.1) = entries_held a.k (threshold a.n) b B in
            let hj : j < p = point_below a.n j A.n_most hn in
            add_accepted (holding a.n a.k a.last roll j) (at_party j fs) b.0.bidder (at_party j (entries b.0.table b.1))
            (record {
              sound = holding_sound a.n a.k a.last j roll P (member A j h1 hn) A.way;
              free = free;
              totals_long = length-map fs (λ f. value amounts f j) ∙ F.many;
              shares_long = length-map (entries b.0.table b.1) (λ f. value amounts f j) ∙ E.many;
              no_probes = none_made a.k;
              first_round = refl;
              totals_below = at_party_below (threshold a.n) j fs hj F.shared;
              shares_below = at_party_below (threshold a.n) j (entries b.0.table b.1) hj E.shared;
            })

        pub added_holding : (desk : Desk) → Complete a.k desk
            → after_adding a desk b (holding_seat a roll fs j) ≡ holding_seat a (mark roll b.0.bidder) (added_polynomials fs (entries b.0.table b.1)) j
        unfolding after_adding holding_seat
        added_holding desk D =
            let q : Party = holding a.n a.k a.last roll j in
            let E : Held a.k (threshold a.n) (entries b.0.table b.1) = entries_held a.k (threshold a.n) b B in
            ap (λ (shares : List ℕ). record { party = (add_reply q (at_party j fs) b.0.bidder shares).party; totals = add_left q (at_party j fs) b.0.bidder shares; sheets = [] })
            (shares_for_party desk D roll fs)
            ∙ ap₂ (λ (r : Party) (totals : List ℕ). record { party = r; totals = totals; sheets = [] })
            (next_party _ (entered q b.0.bidder) q adding_accepted ∙ one_more a.n a.k a.last j roll P b.0.bidder free)
            (kept_new _ _ (at_party j fs) adding_accepted
            ∙ at_party_added (threshold a.n) j fs (entries b.0.table b.1) (point_below a.n j A.n_most hn) F.shared E.shared (E.many ∙ sym F.many))
