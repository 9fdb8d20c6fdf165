-- A whole probe: its rounds, in the last of which its verdict is heard. Assumes nothing.
use mathlib.Core.Path.{◌≡◌, refl, subst, ◌∙◌}
use mathlib.Core.List.{List, [], ◌∷◌, map}
use mathlib.Core.Option.{none}
use Prim.Native.Nat.{ℕ, zero, suc, ◌+◌, ◌≤◌, ◌<◌}
use native.Mathlib.Omega.{arith}
use lib.ListN.{take}
use borrow.Author.Tests.{lt-ltb}
use Rattle.ways.specs.Way.{Way, chain, tree, way_of, levels_of, last_round}
use Rattle.ranges.specs.Lists.{from}
use Rattle.search.specs.declared.searches.Search.{Search}
use Rattle.search.specs.Searches.{next}
use Rattle.search.specs.Search.{Decision, decision_at}
use Rattle.comparison.specs.Probe.{SheetCoins, Probe, secret, last_polynomial}
use Rattle.auction.specs.Auction.{Auction, IsAuction}
use Rattle.auction.specs.Coins.{Coins, InRange}
use Rattle.auction.specs.Received.{collect, verdict_in, decided_by}
use Rattle.auction.proofs.Closed.{polynomials, probe_of, Stage, fresh_stage, decided_stage}
use Rattle.auction.proofs.Calls.{collect_none}
use Rattle.auction.proofs.Kept.{last_round_is}
use Rattle.auction.proofs.Round.{stage_of, words_at, level_heard, opening_at, opening_last, Ready, first_step, product_step, last_step}
use Rattle.auction.proofs.Chain.{Turn, Chain, done, round_on, decision_of}

-- round i + 1
abbrev pub turn_of : Way → Search → Probe → ℕ → Turn
turn_of v here q i = record { stage = stage_of v here q i; words = words_at v q i; opening = opening_at v q i }

module _ (a : Auction) (c : Coins) (A : IsAuction a) (C : InRange a c) (here : Search) (s : SheetCoins)
    (ss : List SheetCoins) (R : Ready a c here s ss) where
  abbrev q : Probe
  q = probe_of a (polynomials a c) here s

  abbrev v : Way
  v = way_of a.last

  abbrev after : Stage
  after = decided_stage (next here (secret (last_polynomial v q)))

  -- the rounds from i + 1 on
  chain_from : (i k : ℕ) → i + k ≡ suc (levels_of v) → Chain a c (stage_of v here q i) (map (turn_of v here q) (from i (suc k))) after
  unfolding from
  chain_from i zero e =
      let at : suc (levels_of v) ≡ i = omega arith in
      subst (λ (x : ℕ). Chain a c (stage_of v here q x) (turn_of v here q x ∷ []) after) at (round_on (last_step a c A C here s ss R v refl) done)
  chain_from zero (suc k) e = round_on (first_step a c A C here s ss R v refl) (chain_from 1 k (omega arith))
  chain_from (suc i) (suc k) e = round_on (product_step a c A C here s ss R v refl i (omega arith)) (chain_from (suc (suc i)) k (omega arith))

  pub probe_chain : Chain a c (fresh_stage here) (map (turn_of v here q) (from 0 (last_round v))) after
  probe_chain =
      let e : suc (suc (levels_of v)) ≡ last_round v = omega (arith, last_round_is v) in
      subst (λ (m : ℕ). Chain a c (fresh_stage here) (map (turn_of v here q) (from 0 m)) after) e (chain_from 0 (suc (levels_of v)) (omega arith))

level_quiet : (v : Way) (here : Search) (q : Probe) (i : ℕ) → decided_by here (level_heard v q i) ≡ none
unfolding level_heard decided_by verdict_in
level_quiet chain here q i = refl
level_quiet tree here q i = refl

-- ---- the verdict is heard in the last of them, and in no other

module _ (v : Way) (here : Search) (q : Probe) where
  abbrev last : Decision
  last = decision_at here (secret (last_polynomial v q))

  quiet : (i : ℕ) → i < suc (levels_of v) → decision_of (turn_of v here q i) ≡ none
  unfolding opening_at decision_of decided_by verdict_in
  quiet zero l = refl
  quiet (suc i) l = rw (lt-ltb i (levels_of v) (omega arith)) (level_quiet v here q i)

  quiet_part : (m i k : ℕ) → i + m ≤ suc (levels_of v) → collect decision_of (take m (map (turn_of v here q) (from i k))) ≡ []
  unfolding collect from
  quiet_part zero i k h = refl
  quiet_part (suc m) i zero h = refl
  quiet_part (suc m) i (suc k) h =
      collect_none decision_of (turn_of v here q i) (take m (map (turn_of v here q) (from (suc i) k))) (quiet i (omega arith))
      ∙ quiet_part m (suc i) k (omega arith)

  last_decides : collect decision_of (turn_of v here q (suc (levels_of v)) ∷ []) ≡ last ∷ []
  unfolding collect decision_of decided_by verdict_in
  last_decides = rw (opening_last v q, collect)

  decided_last : (i k : ℕ) → i + k ≡ suc (levels_of v) → collect decision_of (map (turn_of v here q) (from i (suc k))) ≡ last ∷ []
  unfolding collect from
  decided_last i zero e = let at : suc (levels_of v) ≡ i = omega arith in subst (λ (x : ℕ). collect decision_of (turn_of v here q x ∷ []) ≡ last ∷ []) at last_decides
  decided_last i (suc k) e =
      collect_none decision_of (turn_of v here q i) (map (turn_of v here q) (from (suc i) (suc k))) (quiet i (omega arith))
      ∙ decided_last (suc i) k (omega arith)

  pub probe_decides : collect decision_of (map (turn_of v here q) (from 0 (last_round v))) ≡ last ∷ []
  probe_decides =
      let e : suc (suc (levels_of v)) ≡ last_round v = omega (arith, last_round_is v) in
      subst (λ (m : ℕ). collect decision_of (map (turn_of v here q) (from 0 m)) ≡ last ∷ []) e (decided_last 0 (suc (levels_of v)) (omega arith))

  -- and in a part of them none is
  pub part_decides : (m : ℕ) → m < last_round v → collect decision_of (take m (map (turn_of v here q) (from 0 (last_round v)))) ≡ []
  part_decides m h = quiet_part m 0 (last_round v) (omega (arith, last_round_is v))
