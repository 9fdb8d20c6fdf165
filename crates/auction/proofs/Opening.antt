-- The rounds after the last probe: total demand and total supply at the price are opened, and the session is over. Assumes nothing.
use Rattle.std.specs.Prelude.{Some}
use mathlib.Core.Path.{◌≡◌, refl, ap, ◌∙◌}
use mathlib.Core.Bool.{true}
use mathlib.Core.List.{List, [], ◌∷◌, map}
use Prim.Native.Nat.{ℕ, ◌^◌, ◌≤◌, ◌<◌}
use native.Mathlib.Omega.{arith}
use Rattle.fields.specs.Amount.{p, amounts}
use Rattle.sharing.specs.Polynomial.{value}
use Rattle.sharing.specs.Scheme.{threshold, points}
use Rattle.openings.proofs.Laws.{amount_fits}
use Rattle.search.specs.declared.searches.Search.{Search}
use Rattle.search.specs.Searches.{price, clears}
use Rattle.search.proofs.Bounds as searches
use Rattle.search.proofs.Cleared.{clears_finished, clears_some, price_on_list}
use Rattle.comparison.specs.Probe.{secret}
use Rattle.comparison.proofs.Values.{Shared}
use Rattle.record.specs.Updates.{totalled}
use Rattle.record.proofs.Soundness.{totals_of}
use Rattle.round.specs.declared.Heard.TheVariants.{Total}
use Rattle.round.specs.Round.{heard}
use Rattle.round.proofs.Opened.{total_heard}
use Rattle.message.specs.Message.{message}
use Rattle.message.specs.Message.{in_level}
use Rattle.message.proofs.Messages.{total_single, single_message}
use lib.Dec.{eqb}
use mathlib.Core.Bool.{Bool, false, cond}
use borrow.Author.Tests.{ne_eqb}
use Rattle.record.proofs.Soundness.{last_most}
use Rattle.stepping.specs.After.{after}
use Rattle.auction.specs.Auction.{Auction, IsAuction, demand, supply}
use Rattle.auction.specs.Coins.{Coins, InRange}
use Rattle.auction.specs.Attendance.{Enough}
use Rattle.auction.proofs.Closed.{at_party, polynomials, demand_at, supply_at, Stage, total_stage, record_at, none_small}
use Rattle.auction.proofs.Totals.{demand_small, demand_secret, supply_secret}
use Rattle.auction.proofs.Comparing.{demand_shared, supply_shared}
use Rattle.auction.proofs.Step.{Sane, Step, single_step}
use Rattle.auction.proofs.Placed.{total_turn, opened_demand, opened_supply, total_placed}
use Rattle.auction.proofs.Round.{shared_opens, late}
use Rattle.auction.proofs.Chain.{Turn, Chain, done, round_on}

-- the polynomials of the totals, and the totals, at the price
module _ (a : Auction) (fs : List (List ℕ)) (here : Search) where
  abbrev pub demand_words : ℕ → List ℕ
  demand_words j = value amounts (demand_at a fs (price here)) j ∷ []

  abbrev pub supply_words : ℕ → List ℕ
  supply_words j = value amounts (supply_at a fs (price here)) j ∷ []

  -- rounds 34 and 35
  abbrev pub total_turns : List Turn
  total_turns =
      record { stage = total_stage here 34 0 0; words = demand_words; opening = Total (demand a (price here)) }
      ∷ record { stage = total_stage here 35 (demand a (price here)) 0; words = supply_words; opening = Total (supply a (price here)) }
      ∷ []

  -- and where they lead
  abbrev pub closed_stage : Stage
  closed_stage = total_stage here 36 (demand a (price here)) (supply a (price here))

module _ (a : Auction) (c : Coins) (A : IsAuction a) (C : InRange a c) (here : Search) (sound : searches.Sound a.k here) (cleared : clears here ≡ true)
    (covered : supply a (price here) ≤ demand a (price here)) where
  abbrev fs : List (List ℕ)
  fs = polynomials a c

  abbrev m : ℕ
  m = price here

  abbrev D : ℕ
  D = demand a m

  abbrev S : ℕ
  S = supply a m

  least : 1 ≤ m
  least = clears_some here cleared

  most : m ≤ a.k
  most = price_on_list here a.k sound (clears_finished here cleared)

  pub total_sane : (round D' S' : ℕ) → 34 ≤ round → round ≤ 36 → D' < 2 ^ 32 → S' ≤ D' → Sane a (total_stage here round D' S')
  total_sane round D' S' l h small le =
      record { search = sound; round = total_turn here a.last round cleared l h; sum = omega arith; carry = λ j j1 jn. omega arith; pairs = λ j j1 jn. none_small; totals = (small, le) }

  small : D < 2 ^ 32
  small = demand_small A m

  -- a total that is shared is opened
  total_opens : (round : ℕ) (cs : List ℕ) (total : ℕ) → 33 < round → Shared p (threshold a.n) cs → secret cs ≡ total
      → (present : List ℕ) → Enough a.n present → heard a.n (cond (eqb round a.last) 33 round) present (map (value amounts cs) (points a.n)) ≡ Total total
  total_opens round cs total l h e present E =
      ap (λ (b : Bool). heard a.n (cond b 33 round) present (map (value amounts cs) (points a.n))) (ne_eqb round a.last (λ f. omega (arith, last_most a.last A.way)))
      ∙ total_heard a.n present (map (value amounts cs) (points a.n)) round total l
      (shared_opens amount_fits a.n cs present A.n_least A.n_most h E ∙ ap Some e)

  module _ (j : ℕ) where
    demand_said : message (record_at a c (total_stage here 34 0 0) j) (at_party j fs) [] ≡ demand_words a fs here j
    unfolding record_at
    demand_said =
        single_message (record_at a c (total_stage here 34 0 0) j) (at_party j fs) [] (late (record_at a c (total_stage here 34 0 0) j) (omega arith))
        ∙ ap (λ (x : ℕ). x ∷ [])
        (total_single (record_at a c (total_stage here 34 0 0) j) (at_party j fs) [] (omega arith) (last_most a.last A.way)
        ∙ opened_demand a c A C here 34 0 0 cleared (omega arith) (omega arith) (total_sane 34 0 0 (omega arith) (omega arith) (omega arith) (omega arith)) j)

    supply_said : message (record_at a c (total_stage here 35 D 0) j) (at_party j fs) [] ≡ supply_words a fs here j
    unfolding record_at
    supply_said =
        single_message (record_at a c (total_stage here 35 D 0) j) (at_party j fs) [] (late (record_at a c (total_stage here 35 D 0) j) (omega arith))
        ∙ ap (λ (x : ℕ). x ∷ [])
        (total_single (record_at a c (total_stage here 35 D 0) j) (at_party j fs) [] (omega arith) (last_most a.last A.way)
        ∙ opened_supply a c A C here 35 D 0 cleared (omega arith) (omega arith) (total_sane 35 D 0 (omega arith) (omega arith) small (omega arith)) j)

    demand_turns : after (record_at a c (total_stage here 34 0 0) j) [] (Total D) ≡ record_at a c (total_stage here 35 D 0) j
    unfolding record_at after totalled
    demand_turns = refl

    supply_turns : after (record_at a c (total_stage here 35 D 0) j) [] (Total S) ≡ record_at a c (total_stage here 36 D S) j
    unfolding record_at after totalled
    supply_turns = refl

  not_level : (round D' S' : ℕ) → 34 ≤ round → (j : ℕ) → in_level (record_at a c (total_stage here round D' S') j) ≡ false
  unfolding record_at
  not_level round D' S' l j = late (record_at a c (total_stage here round D' S') j) (omega arith)

  demand_step : Step a c (total_stage here 34 0 0) (total_stage here 35 D 0) (demand_words a fs here) (Total D)
  demand_step =
      single_step a c A C (total_stage here 34 0 0) (λ j. [])
      (total_placed a c A C here 34 0 0 cleared (omega arith) (omega arith) (total_sane 34 0 0 (omega arith) (omega arith) (omega arith) (omega arith)))
      (not_level 34 0 0 (omega arith)) (total_stage here 35 D 0) (demand_words a fs here) (Total D) (λ j j1 jn. demand_said j)
      (total_opens 34 (demand_at a fs m) D (omega arith) (demand_shared a c A C m least most) (demand_secret A C m least most))
      (totals_of D 0 small (omega arith)) (λ j j1 jn. demand_turns j)

  supply_step : Step a c (total_stage here 35 D 0) (total_stage here 36 D S) (supply_words a fs here) (Total S)
  supply_step =
      single_step a c A C (total_stage here 35 D 0) (λ j. [])
      (total_placed a c A C here 35 D 0 cleared (omega arith) (omega arith) (total_sane 35 D 0 (omega arith) (omega arith) small (omega arith)))
      (not_level 35 D 0 (omega arith)) (total_stage here 36 D S) (supply_words a fs here) (Total S) (λ j j1 jn. supply_said j)
      (total_opens 35 (supply_at a fs m) S (omega arith) (supply_shared a c A C m least most) (supply_secret A C m least most))
      (totals_of D S small covered) (λ j j1 jn. supply_turns j)

  pub total_chain : Chain a c (total_stage here 34 0 0) (total_turns a fs here) (closed_stage a fs here)
  total_chain = round_on demand_step (round_on supply_step done)
