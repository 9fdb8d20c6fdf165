-- Demand 3 speaks of something: of any two auctions there are coins of the first, in range, whose masks stay when moved; and any coins
-- of the first are such, but for their masks.
-- Assumes nothing.
use mathlib.Core.Path.{◌≡◌, refl, ap, ap₂, ◌∙◌}
use mathlib.Core.Bool.{true, ◌&&◌}
use mathlib.Core.List.{List, [], ◌∷◌, map, zip}
use Prim.Native.Nat.{ℕ, zero, suc, ◌+◌, ◌*◌, ◌^◌}
use native.Mathlib.Omega.{arith}
use lib.Dec.{lit<}
use lib.ListN.{length, replicate, length-map, length-replicate}
use borrow.Author.Tests.{le-leb, lt-ltb}
use Rattle.fields.specs.Amount.{p}
use Rattle.sharing.specs.Scheme.{threshold}
use Rattle.ways.specs.Way.{Way, way_of}
use Rattle.search.specs.Limit.{most_probes}
use Rattle.search.specs.Search.{Decision}
use Rattle.comparison.specs.Probe.{SheetCoins, SheetInRange, Group, Each}
use Rattle.comparison.proofs.Plain.{each_replicate, zeros_group, plain_coins, plain_mask, plain_ranged}
use Rattle.auction.specs.Auction.{Auction, IsAuction, left_side, right_side, probed}
use Rattle.auction.specs.Coins.{Coins, InRange}
use Rattle.auction.specs.Demands.{stays, Stay, remasked, ButMasks}
use Rattle.auction.proofs.Totals.{left_small, right_small}

-- a mask in the middle of its range
abbrev middle : ℕ
middle = 2 ^ 57

module _ (a : Auction) where
  -- every coefficient 0, every mask in the middle
  plain_sheet : SheetCoins
  plain_sheet = plain_coins (way_of a.last) (threshold a.n) middle

  plain : Coins
  plain =
      record {
        bids = replicate (length a.bids) (replicate (2 * a.k) (replicate (threshold a.n) 0));
        sheets = replicate (most_probes a.k) plain_sheet;
      }

  plain_in_range : InRange a plain
  unfolding plain plain_sheet
  plain_in_range =
      let t : ℕ = threshold a.n in
      record {
        bids_many = length-replicate (length a.bids) _;
        bids =
            each_replicate (λ groups. (length groups ≡ 2 * a.k) × Each (Group p t) groups) (length a.bids) _
            (length-replicate (2 * a.k) _, each_replicate (Group p t) (2 * a.k) _ (zeros_group p t (lit< tt)));
        sheets_many = length-replicate (most_probes a.k) _;
        sheets = each_replicate (SheetInRange (way_of a.last) t) (most_probes a.k) _ (plain_ranged (way_of a.last) t middle (lit< tt));
      }

module _ (a b : Auction) (A : IsAuction a) (B : IsAuction b) where
  -- surpluses are far smaller than half the range of masks
  middle_stays : (which i : ℕ) → stays a b which i middle ≡ true
  unfolding stays
  middle_stays which i =
      let la = left_small A which i in
      let ra = right_small A which i in
      let lb = left_small B which i in
      let rb = right_small B which i in
      let up : ℕ = middle + left_side b which i + right_side a which i in
      let down : ℕ = left_side a which i + right_side b which i in
      ap₂ ◌&&◌ (le-leb down up (omega arith)) (lt-ltb up (2 ^ 58 + down) (omega arith))

  all_stay : (ds : List Decision) (m : ℕ) → Each (λ s. stays a b s.0.which s.0.index s.1.mask ≡ true) (zip ds (replicate m (plain_sheet a)))
  unfolding plain_sheet zip
  all_stay [] m = tt
  all_stay (d ∷ ds) zero = tt
  all_stay (d ∷ ds) (suc m) = (rw (plain_mask (way_of a.last) (threshold a.n) middle) (middle_stays d.which d.index), all_stay ds m)

  -- all masks in the middle
  module _ (c : Coins) (C : InRange a c) where
    middle_coins : Coins
    middle_coins = record { bids = c.bids; sheets = map (remasked middle) c.sheets }

    remasked_in_range : (w : Way) (t : ℕ) (ss : List SheetCoins) → Each (SheetInRange w t) ss → Each (SheetInRange w t) (map (remasked middle) ss)
    remasked_in_range w t [] h = tt
    remasked_in_range w t (s ∷ ss) h = (
      record {
        mask = lit< tt;
        of_mask = h.0.of_mask;
        of_bits = h.0.of_bits;
        bits_long = h.0.bits_long;
        triples = h.0.triples;
        triples_long = h.0.triples_long;
      },
      remasked_in_range w t ss h.1,
    )

    middle_in_range : InRange a middle_coins
    unfolding middle_coins
    middle_in_range =
        record {
          bids_many = C.bids_many;
          bids = C.bids;
          sheets_many = length-map c.sheets (remasked middle) ∙ C.sheets_many;
          sheets = remasked_in_range (way_of a.last) (threshold a.n) c.sheets C.sheets;
        }

    middles_stay : (ds : List Decision) (ss : List SheetCoins)
        → Each (λ s. stays a b s.0.which s.0.index s.1.mask ≡ true) (zip ds (map (remasked middle) ss))
    unfolding zip
    middles_stay [] ss = tt
    middles_stay (d ∷ ds) [] = tt
    middles_stay (d ∷ ds) (s ∷ ss) = (middle_stays d.which d.index, middles_stay ds ss)

    unmasked : (ss : List SheetCoins) → map (remasked 0) (map (remasked middle) ss) ≡ map (remasked 0) ss
    unmasked [] = refl
    unmasked (s ∷ ss) = ap (λ (l : List SheetCoins). remasked 0 s ∷ l) (unmasked ss)

    pub but_masks : (d : Coins) × InRange a d × Stay a b d × ButMasks c d
    unfolding middle_coins
    but_masks = (middle_coins, middle_in_range, middles_stay (probed a) c.sheets, record { bids = refl; sheets = unmasked c.sheets })

  pub some_coins : (c : Coins) × InRange a c × Stay a b c
  unfolding plain
  some_coins = (plain a, plain_in_range a, all_stay (probed a) (most_probes a.k))
