-- Probe after probe: the indices and verdicts that the program notes are those of the searches. Assumes nothing.
use Rattle.std.specs.Prelude.{Ok}
use mathlib.Core.Path.{◌≡◌, refl, sym, ap, ap₂, subst, ◌∙◌}
use mathlib.Core.Bool.{Bool, true, false, cond, not}
use mathlib.Core.List.{List, [], ◌∷◌, ◌++◌, map, append_assoc, append-nil}
use Prim.Native.Nat.{ℕ, zero, suc, ◌+◌, ◌≤◌, ◌<◌}
use native.Mathlib.Numerals.{add-one}
use native.Mathlib.Omega.{arith}
use lib.Dec.{eqb, leb}
use lib.ListN.{length, drop, set, get_or}
use lib.Seq.{get_or-set_same, get_or-set_other, drop-cons}
use borrow.Author.Tests.{eq-eqb, ne_eqb}
use Rattle.verdict.specs.Verdict.{verdict}
use Rattle.search.specs.declared.bracket.Bracket.{Bracket}
use Rattle.search.specs.declared.searches.Search.{Search}
use Rattle.search.specs.Bracket.{middle, over, raise, lower, step}
use Rattle.search.specs.Limit.{most_probes}
use Rattle.search.specs.Searches.{side, first_search, second_search, moves_lo, moved, next, finished, price, clears}
use Rattle.search.specs.Search.{promise, follow}
use Rattle.search.proofs.Narrowing.{middle_above, middle_below}
use Rattle.search.proofs.Bounds.{Sound, in_first, in_second, probing, roomy_sound, probes_few, probes_enough, next_probes, next_second, next_goes_on, next_turns, moves_told}
use Rattle.search.proofs.Promised.{Promised, promised_start, promised_next}
use Rattle.ways.specs.Way.{way_of}
use Rattle.comparison.specs.Probe.{SheetCoins}
use Rattle.record.specs.declared.Party.{Party}
use Rattle.record.specs.Record.{blank}
use Rattle.session.specs.Answer.{answer_judgement, answered, answer_reply}
use Rattle.refusal.specs.Judging.{judged}
use Rattle.refusal.specs.Refusal.{Judgement}
use Rattle.auction.specs.Auction.{Auction, Bid, IsAuction, demand, supply, price_answer, probed}
use Rattle.auction.specs.Coins.{Coins, InRange}
use Rattle.auction.specs.Demands.{FleetTold}
use Rattle.auction.proofs.Closed.{polynomials, probe_of, Made, decision, made, Stage, fresh_stage, decided_stage, record_at}
use Rattle.auction.proofs.Totals.{totals_monotone}
use Rattle.auction.proofs.Step.{sound_at}
use Rattle.auction.proofs.Placed.{decided_going}
use Rattle.auction.proofs.Round.{Ready, verdict_is}
use Rattle.auction.proofs.Search.{after_probes, made_over, made_going, probes_trail, price_found}
use Rattle.auction.proofs.Hours.{fleet_told}
use Rattle.auction.proofs.Whole.{last, end, end_search, end_totals, end_sane, end_over}
use Rattle.listing.specs.declared.course.Course.{Course}
use Rattle.listing.specs.declared.course.Probe.{Probe}
use Rattle.listing.specs.Lines.{most_listed, not_noted, course_trail}
use Rattle.probing.specs.Follows.{as_listed, priced, Follows, moved_end, verdict_read}
use Rattle.panel.proofs.Parts.{sheets_eighteen}
use Rattle.standing.specs.Numbered.{rehearsed}
use Rattle.standing.proofs.Standing.{Stands, verdict_at, Probes, Closes}
use Rattle.standing.proofs.Rounds.{first_record}

-- a later note leaves the earlier ones
earlier : (trail : List Probe) (done : ℕ) (p : Probe) (m : ℕ) → m ≤ done → course_trail (set trail done p) m ≡ course_trail trail m
unfolding course_trail
earlier trail done p zero h = refl
earlier trail done p (suc m) h =
    let apart : m ≡ done → ⊥ = λ e. omega arith in
    ap₂ (λ (ps : List (ℕ × ℕ)) (q : Probe). ps ++ ((q.index, q.verdict) ∷ []))
    (earlier trail done p m (omega arith)) (get_or-set_other trail done m p not_noted apart)

-- what is noted of one probe more
noted_more : (trail : List Probe) (done : ℕ) (p : Probe) → done < length trail
    → course_trail (set trail done p) (done + 1) ≡ course_trail trail done ++ ((p.index, p.verdict) ∷ [])
unfolding course_trail
noted_more trail done p h =
    ap (course_trail (set trail done p)) (add-one done)
    ∙ ap₂ (λ (ps : List (ℕ × ℕ)) (q : Probe). ps ++ ((q.index, q.verdict) ∷ []))
    (earlier trail done p done (omega arith)) (get_or-set_same trail done p not_noted h)

-- ---- the verdict is read off the searches

-- the end that a step moved to the middle, or left where it was
module _ (b : Bracket) (gap : b.lo + 1 < b.hi) where
  raised : (t : Bool) → ◌≡◌ {A = ℕ} (cond (eqb (step b t).lo (middle b)) 1 0) (cond t 1 0)
  unfolding step raise lower
  raised true = rw (eq-eqb (middle b) (middle b) refl)
  raised false = rw (ne_eqb b.lo (middle b) (λ e. omega (arith, middle_above b gap)))

  lowered : (t : Bool) → ◌≡◌ {A = ℕ} (cond (eqb (step b (not t)).hi (middle b)) 1 0) (cond t 1 0)
  unfolding step raise lower
  lowered true = rw (eq-eqb (middle b) (middle b) refl)
  lowered false = rw (ne_eqb b.hi (middle b) (λ e. omega (arith, middle_below b gap)))

module _ (here : Search) where
  -- in the first search it is lo, which is the answer once it has ended
  turned_end : here.which ≡ 1 → (i m : ℕ) → moved_end here (second_search i m) ≡ i
  unfolding second_search
  turned_end e i m = rw (ne_eqb here.which 2 (λ f. omega arith))

  going_end : here.which ≡ 1 → (v : ℕ) → moved_end here (moved here v) ≡ (step here.bracket (moves_lo here.which v)).lo
  unfolding moved
  going_end e v = rw (ne_eqb here.which 2 (λ f. omega arith))

  -- in the second it is hi
  second_end : here.which ≡ 2 → (v : ℕ) → moved_end here (moved here v) ≡ (step here.bracket (moves_lo here.which v)).hi
  unfolding moved
  second_end e v = rw (eq-eqb here.which 2 e)

  first_end : here.which ≡ 1 → (v : ℕ) → moved_end here (next here v) ≡ (step here.bracket (moves_lo here.which v)).lo
  first_end e v = split (over (step here.bracket (moves_lo here.which v))) refl
    where
      split : (o : Bool) → over (step here.bracket (moves_lo here.which v)) ≡ o
          → moved_end here (next here v) ≡ (step here.bracket (moves_lo here.which v)).lo
      split true o = rw (next_turns here v e o) (turned_end e _ _)
      split false o = rw (next_goes_on here v o) (going_end e v)

  -- a verdict of 1 moves lo in the first, and hi in the second
  first_up : here.which ≡ 1 → (t : Bool) → moves_lo here.which (cond t 1 0) ≡ t
  unfolding side
  first_up e t = moves_told here.which t ∙ rw (ne_eqb here.which 2 (λ f. omega arith))

  second_up : here.which ≡ 2 → (t : Bool) → moves_lo here.which (cond t 1 0) ≡ not t
  unfolding side
  second_up e t = moves_told here.which t ∙ rw (eq-eqb here.which 2 e)

verdict_told : (k : ℕ) (here : Search) → Sound k here → finished here ≡ false → (t : Bool) → verdict_read here (next here (cond t 1 0)) ≡ cond t 1 0
verdict_told k here (in_first h) going t =
    ap (λ (x : ℕ). cond (eqb x (middle here.bracket)) 1 0) (first_end here h.on (cond t 1 0) ∙ ap (λ (u : Bool). (step here.bracket u).lo) (first_up here h.on t))
    ∙ raised here.bracket (probing k here (in_first h) going).apart t
verdict_told k here (in_second h) going t =
    rw (next_second here (cond t 1 0) h.on)
    (ap (λ (x : ℕ). cond (eqb x (middle here.bracket)) 1 0)
    (second_end here h.on (cond t 1 0) ∙ ap (λ (u : Bool). (step here.bracket u).hi) (second_up here h.on t))
    ∙ lowered here.bracket (probing k here (in_second h) going).apart t)

verdict_read_of : (k : ℕ) (here : Search) → Sound k here → finished here ≡ false → (d s : ℕ) → verdict_read here (next here (verdict d s)) ≡ verdict d s
unfolding verdict
verdict_read_of k here S going d s = verdict_told k here S going (leb s d)

no_coins : SheetCoins
no_coins = record { mask = 0; of_mask = []; of_bits = []; triples = [] }

-- where the searches stand after some probes, and what is noted of them; the probes that are left are noted next, and lead to the end
pub record Led (a : Auction) (c : Coins) (now : List Party) (totals sheets : List ℕ) (trail : List Probe) (done : ℕ) : Type 0 where
  pub here : Search
  pub counted : here.probes ≡ done
  pub stands : Stands a c (decided_stage here) now totals sheets
  pub promised : Promised (demand a) (supply a) a.k here
  pub noted : course_trail trail done ++ as_listed (map (decision (way_of a.last)) (made a (polynomials a c) here (drop done c.sheets))) ≡ as_listed (probed a)
  pub leads : after_probes (way_of a.last) here (made a (polynomials a c) here (drop done c.sheets)) ≡ last a c

module _ (n k : ℕ) (bids : List Bid) (c : Coins) where
  abbrev a : Auction
  a = rehearsed n k bids

  abbrev left : Search → ℕ → List Made
  left here done = made a (polynomials a c) here (drop done c.sheets)

  module _ (A : IsAuction a) (C : InRange a c) (totals sheets : List ℕ) where
    -- party 1's searches
    first_search_is : (here : Search) (now : List Party) → Stands a c (decided_stage here) now totals sheets → (get_or now 0 blank).search ≡ here
    unfolding record_at
    first_search_is here now H = ap (λ (q : Party). q.search) (first_record a c A (decided_stage here) now totals sheets H)

    module _ (now after : List Party) (trail : List Probe) (done : ℕ) (L : Led a c now totals sheets trail done)
        (going : finished (get_or now 0 blank).search ≡ false) (P : Probes n k now totals sheets after) where
      abbrev at_first : Search
      at_first = L.here

      sound : Sound k at_first
      sound = roomy_sound k at_first L.promised.roomy

      open_here : finished at_first ≡ false
      open_here = ap finished (sym (first_search_is at_first now L.stands)) ∙ going

      few : done < most_probes k
      few = subst (λ (x : ℕ). x < most_probes k) L.counted (probing k at_first sound open_here).sheet_left

      abbrev s : SheetCoins
      s = get_or c.sheets done no_coins

      sheet_next : drop done c.sheets ≡ s ∷ drop (suc done) c.sheets
      sheet_next = drop-cons c.sheets done no_coins (omega (arith, few, C.sheets_many))

      ready : Ready a c at_first s (drop (suc done) c.sheets)
      ready = record { sound = sound; going = open_here; left = rw L.counted sheet_next }

      abbrev v : ℕ
      v = verdict_at a c at_first s

      v_is : v ≡ promise (demand a) (supply a) at_first.which (middle at_first.bracket)
      v_is = verdict_is a c A C at_first s (drop (suc done) c.sheets) ready

      fresh : Stands a c (fresh_stage at_first) now totals sheets
      fresh = subst (λ (σ : Stage). Stands a c σ now totals sheets) (decided_going at_first open_here) L.stands

      later : Stands a c (decided_stage (next at_first v)) after totals sheets
      later = P bids c A C at_first s (drop (suc done) c.sheets) ready fresh

      verdict_read_is : verdict_read at_first (next at_first v) ≡ v
      verdict_read_is = ap (λ (x : ℕ). verdict_read at_first (next at_first x)) v_is ∙ verdict_read_of k at_first sound open_here _ _ ∙ sym v_is

      -- the first of those that are left
      abbrev this : Made
      this = record { here = at_first; probe = probe_of a (polynomials a c) at_first s }

      one_less : left at_first done ≡ this ∷ left (next at_first v) (done + 1)
      one_less =
          ap (made a (polynomials a c) at_first) sheet_next
          ∙ made_going a (polynomials a c) at_first s (drop (suc done) c.sheets) open_here
          ∙ ap (λ (m : ℕ). this ∷ left (next at_first v) m) (sym (add-one done))

      leads_on : after_probes (way_of a.last) (next at_first v) (left (next at_first v) (done + 1)) ≡ last a c
      unfolding follow
      leads_on = ap (after_probes (way_of a.last) at_first) (sym one_less) ∙ L.leads

      -- one probe more
      pub led_more : (p : Probe) → p.index ≡ middle (get_or now 0 blank).search.bracket → p.verdict ≡ verdict_read (get_or now 0 blank).search (get_or after 0 blank).search
          → done < length trail → Led a c after totals sheets (set trail done p) (done + 1)
      led_more p ei em h =
          let ib : p.index ≡ middle at_first.bracket = ei ∙ ap (λ (x : Search). middle x.bracket) (first_search_is at_first now L.stands) in
          let vb : p.verdict ≡ v =
          em ∙ ap₂ verdict_read (first_search_is at_first now L.stands) (first_search_is (next at_first v) after later) ∙ verdict_read_is in
          let r : List (ℕ × ℕ) = course_trail trail done in
          let rest : List (ℕ × ℕ) = as_listed (map (decision (way_of a.last)) (left (next at_first v) (done + 1))) in
          record {
            here = next at_first v;
            counted = next_probes at_first v ∙ ap (λ (x : ℕ). x + 1) L.counted;
            stands = later;
            promised = promised_next (demand a) (supply a) k (totals_monotone A) at_first L.promised open_here v v_is;
            noted =
                ap (λ (z : List (ℕ × ℕ)). z ++ rest) (noted_more trail done p h)
                ∙ append_assoc r ((p.index, p.verdict) ∷ []) rest
                ∙ ap₂ (λ (x y : ℕ). r ++ ((x, y) ∷ rest)) ib vb
                ∙ ap (λ (ds : List Made). r ++ as_listed (map (decision (way_of a.last)) ds)) (sym one_less)
                ∙ L.noted;
            leads = leads_on;
          }

    -- at the end
    module _ (now after : List Party) (trail : List Probe) (done : ℕ) (L : Led a c now totals sheets trail done)
        (ended : finished L.here ≡ true) (P : Closes n k now totals sheets after) where
      none_left : left L.here done ≡ []
      none_left = made_over a (polynomials a c) L.here (drop done c.sheets) ended

      noted_all : course_trail trail done ≡ as_listed (probed a)
      noted_all =
          sym (append-nil _) ∙ ap (λ (ds : List Made). course_trail trail done ++ as_listed (map (decision (way_of a.last)) ds)) (sym none_left) ∙ L.noted

      at_last : L.here ≡ last a c
      unfolding follow
      at_last = ap (after_probes (way_of a.last) L.here) (sym none_left) ∙ L.leads

      -- party 1's record once the session is over
      closed : get_or after 0 blank ≡ record_at a c (end a c) 1
      closed =
          first_record a c A (end a c) after totals sheets
          (P bids c A C (subst (λ (here : Search). Stands a c (decided_stage here) now totals sheets) at_last L.stands))

      -- it is sound, so that it answers
      answers : answer_judgement (record_at a c (end a c) 1) ≡ Ok tt
      unfolding answer_judgement judged
      answers = rw (sound_at a c A (end a c) (end_sane a c A C) 1 (omega arith) (omega (arith, A.n_least)), end_over a c A C 1)

      price_clears : priced (answer_reply (get_or after 0 blank)) ≡ price_answer a
      unfolding answered record_at
      price_clears =
          ap (λ (q : Party). priced (answer_reply q)) closed
          ∙ ap (λ (j : Judgement). priced (answered j (record_at a c (end a c) 1))) answers
          ∙ ap price (end_search a c) ∙ price_found a c A C

      some : 0 < price_answer a → eqb (price_answer a) 0 ≡ false
      some h = ne_eqb (price_answer a) 0 (λ e. omega arith)

      demand_told : 0 < price_answer a → (get_or after 0 blank).demand ≡ demand a (price_answer a)
      unfolding record_at
      demand_told h =
          ap (λ (q : Party). q.demand) closed
          ∙ (end_totals a c (price_found a c A C)).0
          ∙ ap (λ (none : Bool). cond none 0 (demand a (price_answer a))) (some h)

      supply_told : 0 < price_answer a → (get_or after 0 blank).supply ≡ supply a (price_answer a)
      unfolding record_at
      supply_told h =
          ap (λ (q : Party). q.supply) closed
          ∙ (end_totals a c (price_found a c A C)).1
          ∙ ap (λ (none : Bool). cond none 0 (supply a (price_answer a))) (some h)

      pub follows : (r : Course) → r.probes ≡ done → r.trail ≡ trail → r.answer ≡ priced (answer_reply (get_or after 0 blank))
          → r.demand ≡ (get_or after 0 blank).demand → r.supply ≡ (get_or after 0 blank).supply → Follows a r
      follows r ep et ec ed es =
          let e : course_trail r.trail r.probes ≡ course_trail trail done = cc in
          record {
            noted = e ∙ noted_all;
            clears = ec ∙ price_clears;
            total_demand = λ h. ed ∙ demand_told h;
            total_supply = λ h. es ∙ supply_told h;
          }

      -- what a fleet is told with that record
      pub told : FleetTold a (get_or after 0 blank)
      told = subst (FleetTold a) (sym closed) (fleet_told a c A C 1 (omega arith) (omega (arith, A.n_least)))

    -- before the first probe
    pub led_start : (parties : List Party) (trail : List Probe) → Stands a c (fresh_stage (first_search k)) parties totals sheets
        → Led a c parties totals sheets trail 0
    unfolding course_trail first_search finished clears
    led_start parties trail H =
        record {
          here = first_search k;
          counted = refl;
          stands = H;
          promised = promised_start (demand a) (supply a) k A.k_least;
          noted = ap as_listed (probes_trail a c A C);
          leads = refl;
        }

    -- the searches are over when the loop ends: it says so, or all the probes are made
    pub led_over : (now : List Party) (trail : List Probe) (done : ℕ) (L : Led a c now totals sheets trail done) → k ≤ 256
        → (finished (get_or now 0 blank).search ≡ false → most_listed ≤ done) → finished L.here ≡ true
    led_over now trail done L small h = split (finished L.here) refl
      where
        split : (t : Bool) → finished L.here ≡ t → finished L.here ≡ true
        split true e = e
        split false e =
            let all : most_listed ≤ done = h (ap finished (first_search_is L.here now L.stands) ∙ e) in
            let S : Sound k L.here = roomy_sound k L.here L.promised.roomy in
            probes_enough k L.here S (omega (arith, probes_few k L.here S, sheets_eighteen k small, L.counted))
