-- All rounds of an auction, those of the probes and then those in which the totals are opened, as one chain; where it ends. Assumes nothing.
use mathlib.Core.Path.{◌≡◌, refl, sym, ap, ap₂, subst, ◌∙◌}
use mathlib.Core.Bool.{Bool, true, false, cond, true≢false}
use mathlib.Core.List.{List, [], ◌∷◌, ◌++◌, map, map-map, map-append, flatten, append-nil}
use Prim.Native.Nat.{ℕ, zero, suc, ◌+◌, ◌-◌, ◌*◌, ◌/◌, ◌≤◌}
use native.Mathlib.Nat.{zero-add, mul-zero, mul-le-mul_left}
use native.Mathlib.Decide.{dec_le}
use native.Mathlib.Omega.{arith}
use lib.Dec.{eqb}
use lib.ListN.{length, take, length-append, length-map}
use Rattle.search.specs.Limit.{most_probes}
use lib.Seq.{take-nil, take_all, take-length, take-append-le, take-append-add}
use borrow.Author.Tests.{eqb-true, eqb-false}
use Rattle.ways.specs.Way.{Way, way_of, last_round}
use Rattle.auction.proofs.Kept.{rounds_of, last_round_range, div_all}
use Rattle.ranges.specs.Lists.{from}
use Rattle.fields.specs.Amount.{amounts}
use Rattle.sharing.specs.Polynomial.{value}
use Rattle.sharing.specs.Scheme.{points}
use Rattle.search.specs.declared.searches.Search.{Search}
use Rattle.search.specs.Searches.{first_search, finished, price, clears}
use Rattle.search.proofs.Cleared.{clears_of, nought_clears, first_going, covered_at_price}
use Rattle.record.specs.Record.{ended}
use Rattle.auction.specs.Auction.{Auction, IsAuction, demand, supply, price_answer, rounds}
use Rattle.auction.specs.Coins.{Coins, InRange}
use Rattle.auction.specs.Received.{collect, verdict_in, decided_by}
use Rattle.auction.proofs.Closed.{polynomials, demand_at, supply_at, Made, decision, spoken, all_spoken, totals_spoken, Stage, fresh_stage, decided_stage, record_at, probes, no_words, none_small}
use Rattle.auction.proofs.Totals.{demand_small, totals_monotone}
use Rattle.auction.proofs.Calls.{collect_append}
use Rattle.auction.proofs.Step.{Sane}
use Rattle.auction.proofs.Placed.{decided_going, decided_clears}
use Rattle.auction.proofs.Chain.{Turn, Chain, done, chain_append, decision_of}
use Rattle.auction.proofs.Opening.{total_turns, closed_stage, total_sane, total_chain}
use Rattle.auction.proofs.Probed.{turn_of}
use Rattle.auction.proofs.Search.{turns_in, turns_of, turns_length, turns_decide, Counted, counted_append, made_counted, after_probes, whole, probes_many, probes_few, probes_counted, end_sound, price_found}

-- the words of all parties in a round
abbrev pub all_words : Auction → Turn → List (List ℕ)
all_words a r = map r.words (points a.n)

turns_spoken : (a : Auction) (v : Way) (ds : List Made) → map (all_words a) (turns_of v ds) ≡ all_spoken v a.n ds
unfolding turns_of flatten spoken
turns_spoken a v [] = refl
turns_spoken a v (d ∷ ds) =
    map-append (all_words a) (turns_in v d) (turns_of v ds)
    ∙ ap₂ ◌++◌ (map-map (all_words a) (turn_of v d.here d.probe) (from 0 (last_round v))) (turns_spoken a v ds)

module _ (a : Auction) (c : Coins) where
  -- where the searches end
  abbrev pub last : Search
  last = after_probes (way_of a.last) (first_search a.k) (probes a c)

  abbrev fs : List (List ℕ)
  fs = polynomials a c

  -- the rounds after the last probe, and the stage after them, with no price and with one
  abbrev pub turns_after : (no_price : Bool) → List Turn
  turns_after true = []
  turns_after false = total_turns a fs last

  abbrev stage_after : (no_price : Bool) → Stage
  stage_after true = fresh_stage last
  stage_after false = closed_stage a fs last

  abbrev pub no_price : Bool
  no_price = eqb (price_answer a) 0

  unfoldable pub all_turns : List Turn
  all_turns = turns_of (way_of a.last) (probes a c) ++ turns_after no_price

  abbrev pub end : Stage
  end = stage_after no_price

  -- the searches stand where they ended
  pub end_search : end.search ≡ last
  end_search = split no_price
    where
      split : (b : Bool) → (stage_after b).search ≡ last
      split true = refl
      split false = refl

  -- and the totals are those at the price, where they are opened
  pub end_totals : price last ≡ price_answer a
      → (end.demand ≡ cond no_price 0 (demand a (price_answer a))) × (end.supply ≡ cond no_price 0 (supply a (price_answer a)))
  end_totals e = split no_price
    where
      split : (b : Bool) → ((stage_after b).demand ≡ cond b 0 (demand a (price_answer a))) × ((stage_after b).supply ≡ cond b 0 (supply a (price_answer a)))
      split true = (refl, refl)
      split false = (ap (demand a) e, ap (supply a) e)

  -- no carry is left
  pub end_bare : (end.sum ≡ 0) × ((j : ℕ) → end.carry j ≡ 0) × ((j : ℕ) → end.pairs j ≡ no_words)
  end_bare = split no_price
    where
      split : (b : Bool) → ((stage_after b).sum ≡ 0) × ((j : ℕ) → (stage_after b).carry j ≡ 0) × ((j : ℕ) → (stage_after b).pairs j ≡ no_words)
      split true = (refl, (λ j. refl), (λ j. refl))
      split false = (refl, (λ j. refl), (λ j. refl))

  -- and the last round is heard
  pub end_round : end.round ≡ cond no_price 1 36
  end_round = split no_price
    where
      split : (b : Bool) → (stage_after b).round ≡ cond b 1 36
      split true = refl
      split false = refl

  -- the words of all rounds
  unfoldable pub whole_spoken : List (List (List ℕ))
  whole_spoken = all_spoken (way_of a.last) a.n (probes a c) ++ totals_spoken a fs

-- the session is over where the searches have ended at no price, and where the totals are opened
module _ (a : Auction) (c : Coins) (here : Search) (j : ℕ) where
  over_nought : clears here ≡ false → finished here ≡ true → ended (record_at a c (fresh_stage here) j) ≡ true
  unfolding ended record_at
  over_nought e f = rw (e, f)

  over_closed : clears here ≡ true → ended (record_at a c (closed_stage a (polynomials a c) here) j) ≡ true
  unfolding ended record_at
  over_closed e = rw e

module _ (a : Auction) (c : Coins) (A : IsAuction a) (C : InRange a c) where
  abbrev here : Search
  here = last a c

  over : finished here ≡ true
  over = (whole a c A C).ended

  none_clears : no_price a c ≡ true → clears here ≡ false
  none_clears e = nought_clears here (price_found a c A C ∙ eqb-true (price_answer a) 0 e)

  some_clears : no_price a c ≡ false → clears here ≡ true
  some_clears e =
      let other = eqb-false (price_answer a) 0 e in
      clears_of here over (omega (arith, price_found a c A C, other))

  -- the totals at the price
  covered : no_price a c ≡ false → supply a (price here) ≤ demand a (price here)
  covered e =
      let other = eqb-false (price_answer a) 0 e in
      rw (price_found a c A C) (covered_at_price (totals_monotone A) (omega (arith, other)))

  -- ---- from the first word to the end

  ends : (b : Bool) → no_price a c ≡ b → Chain a c (decided_stage here) (turns_after a c b) (stage_after a c b)
  ends true e = subst (λ (σ : Stage). Chain a c σ [] (fresh_stage here)) (sym none) done
    where
      none : decided_stage here ≡ fresh_stage here
      none = rw (none_clears e)
  ends false e =
      subst (λ (σ : Stage). Chain a c σ (total_turns a (polynomials a c) here) (closed_stage a (polynomials a c) here)) (sym (decided_clears here (some_clears e)))
      (total_chain a c A C here (end_sound a c A C) (some_clears e) (covered e))

  pub last_chain : Chain a c (decided_stage (last a c)) (turns_after a c (no_price a c)) (end a c)
  last_chain = ends (no_price a c) refl

  pub all_chain : Chain a c (fresh_stage (first_search a.k)) (all_turns a c) (end a c)
  unfolding all_turns
  all_chain =
      subst (λ (σ : Stage). Chain a c σ (all_turns a c) (end a c)) (decided_going (first_search a.k) (first_going a.k))
      (chain_append (whole a c A C).chain last_chain)

  -- ---- what is known at the end

  some_rounds : 1 ≤ a.last
  some_rounds = omega (arith, (last_round_range (way_of a.last)).0, rounds_of a.last A.way)

  pub end_sane : Sane a (end a c)
  end_sane = split (no_price a c) refl
    where
      split : (b : Bool) → no_price a c ≡ b → Sane a (stage_after a c b)
      split true e =
          record {
            search = end_sound a c A C;
            round = record { least = omega arith; probing = λ f. omega (arith, some_rounds); opening = λ f. absurd (true≢false (sym f ∙ none_clears e)) };
            sum = omega arith;
            carry = λ j j1 jn. omega arith;
            pairs = λ j j1 jn. none_small;
            totals = (omega arith, omega arith);
          }
      split false e =
          total_sane a c A C here (end_sound a c A C) (some_clears e) (covered e) 36 _ _ (omega arith) (omega arith) (demand_small A (price here)) (covered e)

  pub end_over : (j : ℕ) → ended (record_at a c (end a c) j) ≡ true
  end_over j = split (no_price a c) refl
    where
      split : (b : Bool) → no_price a c ≡ b → ended (record_at a c (stage_after a c b) j) ≡ true
      split true e = over_nought a c here j (none_clears e) over
      split false e = over_closed a c here j (some_clears e)

  -- ---- the rounds are counted, and as many as are made

  abbrev each : ℕ
  each = last_round (way_of a.last)

  counted_way : Counted each 0 (all_turns a c)
  unfolding all_turns first_search
  counted_way =
      counted_append each 0 (each * here.probes) (turns_of (way_of a.last) (probes a c)) (turns_after a c (no_price a c))
      (zero-add _ ∙ turns_length (way_of a.last) (probes a c) ∙ ap (λ (m : ℕ). each * m) (sym (probes_counted a c A C)))
      (subst (λ (k : ℕ). Counted each k (turns_of (way_of a.last) (probes a c))) (mul-zero each) (made_counted a (polynomials a c) (first_search a.k) c.sheets)) (later (no_price a c))
    where
      later : (b : Bool) → Counted each (each * here.probes) (turns_after a c b)
      later true = tt
      later false = (omega arith, (omega arith, tt))

  pub counted : Counted a.last 0 (all_turns a c)
  counted = subst (λ (m : ℕ). Counted m 0 (all_turns a c)) (rounds_of a.last A.way) counted_way

  turns_after_long : (b : Bool) → length (turns_after a c b) ≡ cond b 0 2
  turns_after_long true = refl
  turns_after_long false = refl

  pub last_few : length (turns_after a c (no_price a c)) ≤ 2
  last_few = rw (turns_after_long (no_price a c)) (split (no_price a c))
    where
      split : (b : Bool) → cond b 0 2 ≤ 2
      split true = omega arith
      split false = omega arith

  pub rounds_are : length (all_turns a c) ≡ rounds a
  unfolding all_turns
  rounds_are =
      length-append (turns_of (way_of a.last) (probes a c)) (turns_after a c (no_price a c))
      ∙ ap₂ ◌+◌ (turns_length (way_of a.last) (probes a c) ∙ ap₂ ◌*◌ (rounds_of a.last A.way) (probes_many a c A C)) (turns_after_long (no_price a c))

  -- 2P probes and the totals are not more than are told
  pub rounds_few : length (all_turns a c) ≤ a.last * most_probes a.k + 2
  unfolding all_turns
  rounds_few =
      few_enough a.last (length (probes a c)) (most_probes a.k) _ _ _ (probes_few a c A C) last_few
      (turns_length (way_of a.last) (probes a c) ∙ ap (λ (m : ℕ). m * length (probes a c)) (rounds_of a.last A.way))
      (length-append (turns_of (way_of a.last) (probes a c)) (turns_after a c (no_price a c)))
    where
      few_enough : (l m n x y z : ℕ) → m ≤ n → y ≤ 2 → x ≡ l * m → z ≡ x + y → z ≤ l * n + 2
      few_enough l m n x y z h k e f = omega (arith, mul-le-mul_left l h)

  -- ---- no verdict is heard after the last probe's

  quiet : (b : Bool) (m : ℕ) → collect decision_of (take m (turns_after a c b)) ≡ []
  unfolding collect decision_of decided_by verdict_in
  quiet true m = ap (collect decision_of) (take-nil m)
  quiet false zero = refl
  quiet false (suc zero) = refl
  quiet false (suc (suc m)) = ap (λ (l : List Turn). collect decision_of l) (take_all (suc (suc m)) (turns_after a c false) (omega arith))

  pub all_decide : (m : ℕ) → collect decision_of (take m (all_turns a c)) ≡ take (m / each) (map (decision (way_of a.last)) (probes a c))
  unfolding all_turns
  all_decide m =
      let rs : List Turn = turns_of (way_of a.last) (probes a c) in
      let ts : List Turn = turns_after a c (no_price a c) in
      elim (dec_le m (length rs)) [
        | yes le ↦ ap (collect decision_of) (take-append-le m rs ts le) ∙ turns_decide (way_of a.last) (probes a c) m
        | no gt ↦
            let later : ℕ = m - length rs in
            let at : m ≡ length rs + later = omega arith in
            let all : length (map (decision (way_of a.last)) (probes a c)) ≤ m / each = few_verdicts m (omega arith) in
            ap (λ (k : ℕ). collect decision_of (take k (rs ++ ts))) at
            ∙ ap (collect decision_of) (take-append-add rs ts later)
            ∙ collect_append decision_of rs (take later ts)
            ∙ ap₂ ◌++◌ every_verdict (quiet (no_price a c) later)
            ∙ append-nil _ ∙ sym (take_all (m / each) (map (decision (way_of a.last)) (probes a c)) all)
      ]
    where
      few_verdicts : (m : ℕ) → length (turns_of (way_of a.last) (probes a c)) ≤ m → length (map (decision (way_of a.last)) (probes a c)) ≤ m / each
      few_verdicts m h =
          let l : length (map (decision (way_of a.last)) (probes a c)) ≡ length (probes a c) = length-map (probes a c) (decision (way_of a.last)) in
          let d : length (probes a c) ≤ m / each = div_all (way_of a.last) m (length (probes a c)) (omega (arith, turns_length (way_of a.last) (probes a c))) in
          omega arith

      every_verdict : collect decision_of (turns_of (way_of a.last) (probes a c)) ≡ map (decision (way_of a.last)) (probes a c)
      every_verdict =
          ap (collect decision_of) (sym (take-length (turns_of (way_of a.last) (probes a c))))
          ∙ turns_decide (way_of a.last) (probes a c) (length (turns_of (way_of a.last) (probes a c)))
          ∙ take_all (length (turns_of (way_of a.last) (probes a c)) / each) (map (decision (way_of a.last)) (probes a c))
          (few_verdicts (length (turns_of (way_of a.last) (probes a c))) (omega arith))

  -- ---- what is said

  totals_said : (b : Bool) → no_price a c ≡ b → map (all_words a) (turns_after a c b)
      ≡ cond b [] (map (λ j. value amounts (demand_at a (polynomials a c) (price_answer a)) j ∷ []) (points a.n)
      ∷ map (λ j. value amounts (supply_at a (polynomials a c) (price_answer a)) j ∷ []) (points a.n) ∷ [])
  totals_said true e = refl
  totals_said false e =
      ap
      (λ (m : ℕ).
      map (λ j. value amounts (demand_at a (polynomials a c) m) j ∷ []) (points a.n)
      ∷ map (λ j. value amounts (supply_at a (polynomials a c) m) j ∷ []) (points a.n) ∷ [])
      (price_found a c A C)

  pub said_are : map (all_words a) (all_turns a c) ≡ whole_spoken a c
  unfolding all_turns whole_spoken totals_spoken
  said_are =
      map-append (all_words a) (turns_of (way_of a.last) (probes a c)) (turns_after a c (no_price a c))
      ∙ ap₂ ◌++◌ (turns_spoken a (way_of a.last) (probes a c)) (totals_said (no_price a c) refl)
