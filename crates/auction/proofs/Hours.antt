-- Each fleet's hours: what it is told with a record of a session that is over, and what all fleets get. Assumes nothing.
use mathlib.Core.Path.{◌≡◌, refl, ap, ap₂, ◌∙◌}
use mathlib.Core.Bool.{false, cond}
use Prim.Native.Nat.{ℕ, ◌≤◌, ◌<◌}
use Rattle.std.proofs.Common.{Ok}
use native.Mathlib.Omega.{arith}
use borrow.Author.Tests.{eq-eqb, ne_eqb}
use Rattle.search.proofs.Cleared.{covered_at_price}
use Rattle.bid.specs.Table.{most}
use Rattle.record.specs.declared.Party.{Party}
use Rattle.record.proofs.Soundness.{Sound, sound_facts}
use Rattle.filling.specs.Fill.{shared, fill_reply}
use Rattle.filling.specs.Sums.{AllFills}
use Rattle.filling.proofs.Laws.{fill_accepted, not_cleared}
use Rattle.filling.proofs.Replies.{filled_accepted, filled_refused}
use Rattle.filling.proofs.Sums.{all_fills}
use Rattle.auction.specs.Auction.{Auction, IsAuction, wanted, demand, supply, price_answer}
use Rattle.auction.specs.Coins.{Coins, InRange}
use Rattle.auction.specs.Demands.{FleetTold}
use Rattle.auction.proofs.Closed.{record_at}
use Rattle.auction.proofs.Totals.{totals_monotone}
use Rattle.auction.proofs.Step.{sound_at}
use Rattle.auction.proofs.Search.{price_found}
use Rattle.auction.proofs.Whole.{no_price, end, end_totals, end_round, end_sane}

-- ---- what a fleet is told

module _ (a : Auction) (c : Coins) (A : IsAuction a) (C : InRange a c) (j : ℕ) (j1 : 1 ≤ j) (jn : j ≤ a.n) where
  abbrev q : Party
  q = record_at a c (end a c) j

  abbrev m : ℕ
  m = price_answer a

  sound : Sound q
  sound = sound_facts q (sound_at a c A (end a c) (end_sane a c A C) j j1 jn)

  round_is : q.round ≡ cond (no_price a c) 1 36
  unfolding record_at
  round_is = end_round a c

  demand_is : q.demand ≡ cond (no_price a c) 0 (demand a m)
  unfolding record_at
  demand_is = (end_totals a c (price_found a c A C)).0

  supply_is : q.supply ≡ cond (no_price a c) 0 (supply a m)
  unfolding record_at
  supply_is = (end_totals a c (price_found a c A C)).1

  told_hours : 0 < m → (amount : ℕ) → amount ≤ most
      → fill_reply q amount ≡ Ok (shared (demand a m) (supply a m) amount)
  told_hours some amount small =
      let priced : no_price a c ≡ false = ne_eqb m 0 (λ e. omega arith) in
      let last : q.round ≡ 36 = round_is ∙ ap (λ b. cond b 1 36) priced in
      filled_accepted _ q amount (fill_accepted q amount (record { sound = sound; last_round = last; small = small }))
      ∙ ap₂ (λ (D S : ℕ). Ok (shared D S amount)) (demand_is ∙ ap (λ b. cond b 0 (demand a m)) priced)
      (supply_is ∙ ap (λ b. cond b 0 (supply a m)) priced)

  pub fleet_told : FleetTold a q
  fleet_told =
      record {
        filled = told_hours;
        not_cleared = λ none amount.
            let last : q.round ≡ 1 = round_is ∙ ap (λ b. cond b 1 36) (eq-eqb m 0 none) in
            filled_refused _ q amount _ (not_cleared q amount sound (λ e. omega arith));
      }

-- ---- what all get

module _ {a : Auction} (A : IsAuction a) where
  -- "S above D" is never opened
  pub price_covered : 0 < price_answer a → supply a (price_answer a) ≤ demand a (price_answer a)
  price_covered some = covered_at_price (totals_monotone A) some

pub fills_come_to : (a : Auction) → AllFills (demand a (price_answer a)) (supply a (price_answer a)) (wanted a (price_answer a))
unfolding demand
fills_come_to a = all_fills (demand a (price_answer a)) (supply a (price_answer a)) (wanted a (price_answer a)) refl
