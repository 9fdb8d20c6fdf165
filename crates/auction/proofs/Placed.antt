-- The stages of a probe, where each party has its current sheet, and those at which a total is opened, where it has none: at both the session
-- goes on, and what is used is in range. Assumes nothing.
use mathlib.Core.Path.{◌≡◌, sym, ap, ◌∙◌}
use mathlib.Core.Bool.{Bool, true, false, cond, true≢false}
use mathlib.Core.List.{List, [], ◌∷◌}
use Prim.Native.Nat.{ℕ, ◌+◌, ◌-◌, ◌*◌, ◌≤◌, ◌<◌}
use native.Mathlib.Omega.{arith}
use lib.Dec.{eqb, lit<}
use lib.ListN.{take, drop}
use borrow.Author.Tests.{le-leb, lt-leb, ne_eqb}
use Rattle.ways.specs.Way.{way_of, sheet_size}
use Rattle.fields.specs.Amount.{p, amounts}
use Rattle.sharing.specs.Polynomial.{value}
use Rattle.sharing.specs.Scheme.{threshold}
use Rattle.search.specs.declared.searches.Search.{Search}
use Rattle.search.specs.Bracket.{middle}
use Rattle.search.specs.Searches.{finished, price, clears}
use Rattle.search.proofs.Bounds as searches
use Rattle.search.proofs.Cleared.{going_clears, clears_finished, clears_some, price_on_list}
use Rattle.comparison.specs.Probe.{SheetCoins, SheetInRange, sheet_polynomials, sheet_shares, Each}
use Rattle.comparison.proofs.Dealt.{SheetShared, dealt_shared}
use Rattle.comparison.proofs.Lists.{each_drop}
use Rattle.record.specs.Record.{ended}
use Rattle.record.proofs.Soundness.{RoundSound, going_on, last_most}
use Rattle.message.specs.Message.{index, demand_share, supply_share, sheet_words}
use Rattle.saying.specs.Say.{current}
use Rattle.message.proofs.Sheets.{InField, probe_words, total_words}
use Rattle.auction.specs.Auction.{Auction, IsAuction}
use Rattle.auction.specs.Coins.{Coins, InRange}
use Rattle.auction.proofs.Closed.{at_party, polynomials, demand_at, supply_at, Stage, fresh_stage, decided_stage, total_stage, record_at, sheets_at}
use Rattle.auction.proofs.Sheets.{flat_at, mask_word, getD_amounts, amount_below, sheet_bytes_below}
use Rattle.auction.proofs.Comparing.{demand_shared, supply_shared}
use Rattle.auction.proofs.Step.{Sane, Placed, sheets_long}

-- a round of a probe is in turn while the searches go on
pub probe_turn : (here : Search) (last round : ℕ) → finished here ≡ false → 1 ≤ round → round ≤ last → RoundSound here last round
probe_turn here last round going least most =
    record { least = least; probing = λ c. most; opening = λ c. absurd (true≢false (sym c ∙ going_clears here going)) }

-- and a round for the totals once they have ended at a price
pub total_turn : (here : Search) (last round : ℕ) → clears here ≡ true → 34 ≤ round → round ≤ 36 → RoundSound here last round
total_turn here last round cleared least most =
    record { least = omega arith; probing = λ c. absurd (true≢false (sym cleared ∙ c)); opening = λ c. (least, most) }

-- while the searches go on there is a probe next
pub decided_going : (here : Search) → finished here ≡ false → decided_stage here ≡ fresh_stage here
decided_going here going = rw (going_clears here going)

-- where they have ended at a price, a total
pub decided_clears : (here : Search) → clears here ≡ true → decided_stage here ≡ total_stage here 34 0 0
decided_clears here cleared = rw cleared

-- a stage of a probe, with the sheet s
pub record InProbe (a : Auction) (c : Coins) (σ : Stage) (s : SheetCoins) (ss : List SheetCoins) : Type 0 where
  pub sane : Sane a σ
  pub going : finished σ.search ≡ false
  pub left : drop σ.search.probes c.sheets ≡ s ∷ ss

-- the words of the totals at the index
module _ (a : Auction) (c : Coins) (σ : Stage) (j : ℕ) where
  demand_word : demand_share (record_at a c σ j) (at_party j (polynomials a c)) ≡ value amounts (demand_at a (polynomials a c) (index (record_at a c σ j))) j
  demand_word = getD_amounts j (polynomials a c) (index (record_at a c σ j) - 1)

  supply_word : supply_share (record_at a c σ j) (at_party j (polynomials a c)) ≡ value amounts (supply_at a (polynomials a c) (index (record_at a c σ j))) j
  unfolding record_at
  supply_word = getD_amounts j (polynomials a c) (a.k + index (record_at a c σ j) - 1)

each_first : {A : Type 0} (P : A → Type 0) (s : A) (ss xs : List A) → xs ≡ s ∷ ss → Each P xs → P s
each_first P s ss xs e h = (rw e at h).0

module _ (a : Auction) (c : Coins) (A : IsAuction a) (C : InRange a c) where
  abbrev t : ℕ
  t = threshold a.n

  abbrev fs : List (List ℕ)
  fs = polynomials a c

  -- ---- in a probe

  module _ (σ : Stage) (s : SheetCoins) (ss : List SheetCoins) (P : InProbe a c σ s ss) where
    in_probe : σ.round ≤ 33
    in_probe = omega (arith, P.sane.round.probing (going_clears σ.search P.going), last_most a.last A.way)

    pub coins_ranged : SheetInRange (way_of a.last) t s
    coins_ranged =
        each_first (SheetInRange (way_of a.last) t) s ss (drop σ.search.probes c.sheets) P.left (each_drop (SheetInRange (way_of a.last) t) σ.search.probes c.sheets C.sheets)

    sheet_shared : SheetShared (way_of a.last) t (sheet_polynomials s)
    sheet_shared = dealt_shared (way_of a.last) t s coins_ranged

    probed : (1 ≤ middle σ.search.bracket) × (middle σ.search.bracket ≤ a.k)
    probed =
        let F = searches.probing a.k σ.search P.sane.search P.going in
        (F.index_least, F.index_most)

    module _ (j : ℕ) where
      whole_sheet : sheet_words (record_at a c σ j) ≡ sheet_size (way_of a.last)
      unfolding record_at
      whole_sheet = probe_words (record_at a c σ j) in_probe

      at_probes : take (sheet_size (way_of a.last)) (drop (sheet_size (way_of a.last) * (record_at a c σ j).search.probes) (sheets_at a c j)) ≡ sheet_shares j (sheet_polynomials s)
      unfolding record_at sheets_at
      at_probes = flat_at (λ s. sheet_shares j (sheet_polynomials s)) (sheet_size (way_of a.last)) c.sheets σ.search.probes s ss (sheets_long a c A C j) P.left

      current_at : current (record_at a c σ j) (sheets_at a c j) ≡ sheet_shares j (sheet_polynomials s)
      unfolding current record_at
      current_at =
          ap (λ (m : ℕ). take m (drop (sheet_size (way_of a.last) * (record_at a c σ j).search.probes) (sheets_at a c j))) whole_sheet
          ∙ at_probes

      index_at : index (record_at a c σ j) ≡ middle σ.search.bracket
      unfolding index record_at
      index_at = rw (le-leb σ.round 33 in_probe)

      pub probed_demand : demand_share (record_at a c σ j) (at_party j fs) ≡ value amounts (demand_at a fs (middle σ.search.bracket)) j
      probed_demand = demand_word a c σ j ∙ ap (λ (i : ℕ). value amounts (demand_at a fs i) j) index_at

      pub probed_supply : supply_share (record_at a c σ j) (at_party j fs) ≡ value amounts (supply_at a fs (middle σ.search.bracket)) j
      probed_supply = supply_word a c σ j ∙ ap (λ (i : ℕ). value amounts (supply_at a fs i) j) index_at

    in_field_at : (j : ℕ) → 1 ≤ j → j ≤ a.n → InField (record_at a c σ j) true (at_party j fs) (sheet_shares j (sheet_polynomials s))
    unfolding record_at
    in_field_at j j1 jn =
        let small : j < 10 = omega (arith, A.n_most) in
        record {
          demand = λ u e. rw (probed_demand j) (amount_below j small _ (demand_shared a c A C (middle σ.search.bracket) probed.0 probed.1).1);
          supply = λ u e. rw (probed_supply j) (amount_below j small _ (supply_shared a c A C (middle σ.search.bracket) probed.0 probed.1).1);
          total = λ u late. absurd (omega (arith, in_probe));
          mask = rw (mask_word (way_of a.last) t j (sheet_polynomials s) sheet_shared) (amount_below j small _ sheet_shared.mask.1);
          bytes = sheet_bytes_below t j small (way_of a.last) (sheet_polynomials s) sheet_shared;
        }

    pub probe_placed : Placed a c σ (λ j. sheet_shares j (sheet_polynomials s))
    unfolding record_at
    probe_placed =
        record {
          sane = P.sane;
          going = λ j. going_on (record_at a c σ j) P.going;
          current_is = current_at;
          in_field = in_field_at;
        }

  -- ---- where a total is opened

  module _ (here : Search) (round demand supply : ℕ) (cleared : clears here ≡ true) (least : 34 ≤ round) (most : round ≤ 35)
      (sane : Sane a (total_stage here round demand supply)) where
    abbrev σ : Stage
    σ = total_stage here round demand supply

    abbrev m : ℕ
    m = price here

    module _ (j : ℕ) where
      still_on : ended (record_at a c σ j) ≡ false
      unfolding ended record_at
      still_on = rw (cleared, ne_eqb round 36 (λ e. omega arith))

      no_sheet : current (record_at a c σ j) (sheets_at a c j) ≡ []
      unfolding current record_at
      no_sheet = rw (total_words (record_at a c σ j) (omega arith))

      price_at : index (record_at a c σ j) ≡ m
      unfolding index record_at
      price_at = rw (lt-leb round 33 (omega arith))

      pub opened_demand : demand_share (record_at a c σ j) (at_party j fs) ≡ value amounts (demand_at a fs m) j
      opened_demand = demand_word a c σ j ∙ ap (λ (i : ℕ). value amounts (demand_at a fs i) j) price_at

      pub opened_supply : supply_share (record_at a c σ j) (at_party j fs) ≡ value amounts (supply_at a fs m) j
      opened_supply = supply_word a c σ j ∙ ap (λ (i : ℕ). value amounts (supply_at a fs i) j) price_at

    -- the price is on the list
    listed : (1 ≤ m) × (m ≤ a.k)
    listed = (clears_some here cleared, price_on_list here a.k sane.search (clears_finished here cleared))

    in_field_late : (j : ℕ) → 1 ≤ j → j ≤ a.n → InField (record_at a c σ j) true (at_party j fs) []
    unfolding record_at
    in_field_late j j1 jn =
        let small : j < 10 = omega (arith, A.n_most) in
        record {
          demand = λ u e. absurd (omega arith);
          supply = λ u e. absurd (omega arith);
          total = λ u late.
              either (eqb round 34) _ _ (rw (opened_demand j) (amount_below j small _ (demand_shared a c A C m listed.0 listed.1).1))
              (rw (opened_supply j) (amount_below j small _ (supply_shared a c A C m listed.0 listed.1).1));
          mask = lit< tt;
          bytes = tt;
        }
      where
        either : (b : Bool) (x y : ℕ) → x < p → y < p → cond b x y < p
        either true x y h k = h
        either false x y h k = k

    pub total_placed : Placed a c σ (λ j. [])
    total_placed = record { sane = sane; going = still_on; current_is = no_sheet; in_field = in_field_late }
