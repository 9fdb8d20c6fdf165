-- DEMANDS 2 AND 3, of every run of every auction. Assumes nothing.
use mathlib.Core.Path.{◌≡◌, refl, sym, ap, ap₂, subst, ◌∙◌}
use mathlib.Core.Bool.{Bool, true, false, cond, ◌&&◌, true≢false}
use mathlib.Core.List.Memᴰ
use mathlib.Core.List.{List, [], ◌∷◌, ◌++◌, map, flatten, Memᴰ}
use mathlib.Core.Logic.{◌↔◌, ⊎_elim}
use Prim.Native.Nat.{ℕ, zero, suc, ◌+◌, ◌-◌, ◌*◌, ◌/◌, ◌≤◌, ◌<◌, min}
use native.Mathlib.Nat.{zero-add}
use native.Mathlib.Decide.{dec_le}
use native.Mathlib.Omega.{arith}
use lib.Dec.{leb, eqb}
use lib.ListN.{length, take, drop, get_or, replicate, length-map, length-take, get_or-append}
use lib.Seq.{take_all, take-length}
use borrow.Author.Tests.{leb-true, leb-false}
use Rattle.ranges.specs.Distinct.{Distinct}
use Rattle.presence.specs.Presence.{is_present}
use Rattle.search.specs.Limit.{most_probes}
use Rattle.search.specs.declared.searches.Search.{Search}
use Rattle.search.specs.Searches.{first_search}
use Rattle.search.specs.Clearing.{price_index}
use Rattle.search.specs.Search.{promise, Decision, made_in}
use Rattle.search.proofs.Balance.{equal_between, equal_nowhere_else, all_equal}
use Rattle.search.proofs.Trails.{trail_given}
use Rattle.ranges.specs.Lists.{member, sum}
use Rattle.ranges.proofs.Loops.{map_take}
use Rattle.roll.specs.Marks.{marked}
use Rattle.roll.proofs.Entry.{entered_marked}
use Rattle.record.specs.declared.Party.{Party}
use Rattle.session.specs.Answer.{the_answer, answer_reply}
use Rattle.auction.specs.Auction.{Auction, bidders, IsAuction, demand, supply, clearing_answer, balanced_answer, price_answer, probed, total_rounds, rounds}
use Rattle.auction.specs.Coins.{Coins, InRange}
use Rattle.auction.specs.Attendance.{Marks, EnoughPresent}
use Rattle.auction.specs.Canonical.{sheets_for}
use Rattle.auction.specs.Call.{Call, answer_call}
use Rattle.auction.specs.Run.{Run, own}
use Rattle.auction.specs.Received.{collect, asking_in, decision_in, Saying, received_bids, sayings, hearings, askings, answers, messages, decisions, verdicts}
use Rattle.auction.specs.Demands.{FleetTold, Found, Outcome, Demand2, Alike, Pool, AsFar, SaidAlike, unused, Same, Matched, Demand3}
use Rattle.auction.proofs.Matched.{match_coins}
use Rattle.ways.specs.Way.{Way, is_way, way_of, last_round, sheet_size}
use Rattle.kept_pairs.specs.Pairs as kept
use Rattle.auction.proofs.Kept.{rounds_of, div_all, div_over}
use Rattle.auction.proofs.Closed.{bid_words, polynomials, full_roll, all_spoken, totals_spoken, record_at, sheets_at, probes, no_words}
use Rattle.auction.proofs.Setup.{sheets_dealt}
use Rattle.auction.proofs.Calls.{read_there}
use Rattle.auction.proofs.Elsewhere.{none_told}
use Rattle.auction.proofs.Orders.{canonical_run, told, run_bids, run_hearings, run_sayings, run_says, run_askings, run_asks_not}
use Rattle.auction.proofs.Hours.{fleet_told, price_covered, fills_come_to}
use Rattle.auction.proofs.Canonical.{canonical_accepted, canonical_bids, canonical_heard, canonical_rolled, canonical_messages, canonical_decisions, canonical_askings, canonical_sayings, canonical_says}
use Rattle.auction.proofs.Totals.{totals_monotone}
use Rattle.auction.proofs.Search.{whole, probes_trail, probes_many, probes_few, highest_found, lowest_found, none_found, spent_found, price_found}
use Rattle.sharing.specs.Scheme.{threshold}
use Rattle.comparison.specs.Probe.{Each}
use Rattle.comparison.proofs.Dealt.{ProbeShared}
use Rattle.comparison.proofs.Plain.{each_replicate}
use Rattle.auction.proofs.Whole.{end, end_search, end_totals, end_bare, whole_spoken}
use Rattle.auction.proofs.SameSheets.{all_spoken_long}
use Rattle.auction.proofs.Rounds.{end_answer, present_of, spoken_words, Says}
use Rattle.auction.proofs.Falling.{few_fall}
use Rattle.auction.proofs.Plain.{some_coins, but_masks}
use Rattle.auction.proofs.Fixed.{all_fixed}
use Rattle.auction.proofs.Match.{Match, matching}

-- ---- lists

map_replicate : {A B : Type 0} (f : A → B) (m : ℕ) (x : A) → map f (replicate m x) ≡ replicate m (f x)
map_replicate f zero x = refl
map_replicate {B} f (suc m) x = ap (λ (l : List B). f x ∷ l) (map_replicate f m x)

times_same : {A : Type 0} (m : ℕ) {x y : A} → (0 < m → x ≡ y) → replicate m x ≡ replicate m y
times_same zero h = refl
times_same {A} (suc m) h = ap (replicate (suc m)) (h (omega arith))

each_times : {A : Type 0} (Q : A → Type 0) (m : ℕ) (x : A) → (0 < m → Q x) → Each Q (replicate m x)
each_times Q zero x h = tt
each_times Q (suc m) x h = each_replicate Q (suc m) x (h (omega arith))

repeated : {A : Type 0} (m k : ℕ) (x : A) → AsFar (replicate m x) (replicate k x)
repeated zero k x = tt
repeated (suc m) zero x = tt
repeated (suc m) (suc k) x = (refl, repeated m k x)

-- two beginnings of a list are the same as far as both go
as_far : {A : Type 0} (m k : ℕ) (xs : List A) → AsFar (take m xs) (take k xs)
as_far zero k xs = tt
as_far (suc m) k [] = tt
as_far (suc m) zero (x ∷ xs) = tt
as_far (suc m) (suc k) (x ∷ xs) = (refl, as_far m k xs)

as_often : {A : Type 0} (m k : ℕ) (x : A) {ys zs : List A} → ys ≡ replicate m x → zs ≡ replicate k x → AsFar ys zs
as_often m k x e f = rw (e, f) (repeated m k x)

far_as : {A : Type 0} (m k : ℕ) (xs : List A) {ys zs : List A} → ys ≡ take m xs → zs ≡ take k xs → AsFar ys zs
far_as m k xs e f = rw (e, f) (as_far m k xs)

-- the probes of as many rounds as there are, and of more; the totals' rounds are fewer than a probe's
probes_by : {A : Type 0} (v : Way) (m more : ℕ) (xs : List A) → more ≤ 2 → take (m / last_round v) xs ≡ take (min m (last_round v * length xs + more) / last_round v) xs
probes_by {A} v m more xs h =
    elim (dec_le m (last_round v * length xs + more)) [
      | yes le ↦
          let e : m ≡ min m (last_round v * length xs + more) = omega arith in
          ap (λ (k : ℕ). take (k / last_round v) xs) e
      | no gt ↦
          let e : min m (last_round v * length xs + more) ≡ last_round v * length xs + more = omega arith in
          take_all (m / last_round v) xs (div_all v m (length xs) (omega arith)) ∙ sym (take-length xs)
          ∙ ap (λ (k : ℕ). take k xs) (sym (ap (λ (k : ℕ). k / last_round v) e ∙ div_over v (length xs) more h))
    ]

module _ (last : ℕ) (way : is_way last ≡ true) where
  probes_in : {A : Type 0} (m more : ℕ) (xs : List A) → more ≤ 2 → take (m / last) xs ≡ take (min m (last * length xs + more) / last) xs
  probes_in m more xs h =
      subst (λ (k : ℕ). take (m / k) xs ≡ take (min m (k * length xs + more) / k) xs) (rounds_of last way) (probes_by (way_of last) m more xs h)

  div_last : (m n : ℕ) → last * n ≤ m → n ≤ m / last
  div_last m n = subst (λ (k : ℕ). k * n ≤ m → n ≤ m / k) (rounds_of last way) (div_all (way_of last) m n)

-- two at most
few_more : (b : Bool) → cond b 0 2 ≤ 2
few_more true = omega arith
few_more false = omega arith

-- a pooled party is one of the n
pooled : (n j : ℕ) (xs : List ℕ) → Distinct n xs → Memᴰ j xs → (1 ≤ j) × (j ≤ n)
pooled n j [] P m = absurd (Memᴰ.not-nil m)
pooled n j (x ∷ xs) P m =
    ⊎_elim (λ e. (subst (λ (z : ℕ). 1 ≤ z) (sym e) P.0, subst (λ (z : ℕ). z ≤ n) (sym e) P.1)) (λ m'. pooled n j xs P.3 m') (Memᴰ.cases_cons m)

-- ---- what every run has, in closed form

module _ (a : Auction) (c : Coins) (A : IsAuction a) (C : InRange a c) (marks : Marks) (M : EnoughPresent a marks)
    (l : List Call) (run : Run a c marks l) (j : ℕ) (j1 : 1 ≤ j) (jn : j ≤ a.n) where
  -- how many rounds the party hears, if there are so many
  abbrev most : ℕ
  most = run.attendance.hears j

  bids_are : received_bids j l ≡ bid_words j a.bids c.bids
  bids_are = run_bids a c marks l run j ∙ canonical_bids a c A C marks M run.desk run.complete run.attendance j j1 jn

  heard_are : length (hearings j l) ≡ min most (rounds a)
  heard_are = ap length (run_hearings a c marks l run j) ∙ canonical_heard a c A C marks M run.desk run.complete run.attendance j j1 jn

  messages_are : messages j l ≡ take most (present_of marks 0 (whole_spoken a c))
  messages_are = ap (map _) (run_hearings a c marks l run j) ∙ canonical_messages a c A C marks M run.desk run.complete run.attendance j j1 jn

  decisions_are : decisions j l ≡ take (most / a.last) (probed a)
  decisions_are =
      ap (collect decision_in) (run_hearings a c marks l run j) ∙ canonical_decisions a c A C marks M run.desk run.complete run.attendance j j1 jn
      ∙ ap₂ (λ (k : ℕ) (ds : List Decision). take (most / k) ds) (rounds_of a.last A.way) (probes_trail a c A C)

  verdicts_are : verdicts j l ≡ take (most / a.last) (map (λ d. d.verdict) (probed a))
  verdicts_are = ap (map (λ d. d.verdict)) decisions_are ∙ map_take (λ d. d.verdict) (most / a.last) (probed a)

  sayings_are : (x : Saying) → Memᴰ x (sayings j l) → (i : ℕ) × Says a c i j x
  sayings_are x m =
      canonical_sayings a c A C marks M run.desk run.complete run.attendance j j1 jn x (run_sayings a c marks l run j x m)

  says_are : (i : ℕ) → i < rounds a → is_present (marks i) j ≡ true → (x : Saying) × Says a c i j x × Memᴰ x (sayings j l)
  says_are i h p =
      let r = canonical_says a c A C marks M run.desk run.complete run.attendance j j1 jn i h p (run.attends i j h j1 p) in
      (r.0, r.1, run_says a c marks l run j r.0 r.2)

  -- ---- demand 2

  -- the roll at the end
  marked_are : (b : ℕ) → marked (record_at a c (end a c) j).roll b ≡ member b (bidders a)
  unfolding record_at full_roll
  marked_are = entered_marked (bidders a) A.bidders

  -- a party that hears all the rounds
  module _ (all : rounds a ≤ most) where
    abbrev q : Party
    q = record_at a c (end a c) j

    decided_all : decisions j l ≡ probed a
    decided_all = decisions_are ∙ take_all (most / a.last) (probed a) (div_last a.last A.way most (length (probed a)) (omega arith))

    many_all : length (verdicts j l) ≡ length (probed a)
    many_all = length-map (decisions j l) (λ d. d.verdict) ∙ ap length decided_all

    -- what the searches found, at the end
    found_are : Found a (decisions j l) q
    unfolding record_at no_words kept.none
    found_are =
        record {
          highest = ap (λ (s : Search). s.first) (end_search a c) ∙ highest_found a c A C;
          its_probes = ap (λ (s : Search). s.spent) (end_search a c) ∙ spent_found a c A C ∙ ap (made_in 1) (sym decided_all);
          lowest = λ some. ap (λ (s : Search). s.bracket.hi) (end_search a c) ∙ lowest_found a c A C some;
          none = λ e. ap (λ (s : Search). s.bracket.hi) (end_search a c) ∙ none_found a c A C e;
          total_demand = (end_totals a c (price_found a c A C)).0;
          total_supply = (end_totals a c (price_found a c A C)).1;
          bare = ((end_bare a c).0, (end_bare a c).1 j, ap (λ (ws : List ℕ). record { words = ws }) ((end_bare a c).2 j));
        }

  -- whether it asks where it has heard all
  abbrev will : Bool
  will = run.attendance.asks j

  -- it asks with the last record where it has heard all and asks, else not at all
  record Asks : Type 0 where
    times : ℕ
    once_over : ((length (hearings j l) ≡ rounds a) × (will ≡ true)) ↔ (0 < times)
    asked_with : askings j l ≡ replicate times (record_at a c (end a c) j)

  asks : Asks
  asks = split (leb (rounds a) most) refl will refl (canonical_askings a c A C marks M run.desk run.complete run.attendance j j1 jn)
    where
      -- it is not asked
      never : askings j (told run) ≡ [] → (length (hearings j l) ≡ rounds a → will ≡ true → ⊥) → Asks
      never f not_so =
          record {
            times = 0;
            once_over = ((λ g. absurd (not_so g.0 g.1)), (λ g. absurd (omega arith)));
            asked_with = run_asks_not a c marks l run j f;
          }

      split : (b : Bool) → leb (rounds a) most ≡ b → (w : Bool) → will ≡ w
          → askings j (told run) ≡ cond (leb (rounds a) most && will) (record_at a c (end a c) j ∷ []) [] → Asks
      split true e true u f₀ =
          let f : askings j (told run) ≡ record_at a c (end a c) j ∷ [] = rw (e, u) at f₀ in
          let r = run_askings a c marks l run j (record_at a c (end a c) j) f in
          let h = leb-true (rounds a) most e in
          record {
            times = suc r.0;
            once_over = ((λ g. omega arith), (λ g. (heard_are ∙ omega arith, u)));
            asked_with = r.1;
          }
      split true e false u f = never (rw (e, u) at f) (λ g v. absurd (true≢false (sym v ∙ u)))
      split false e w u f =
          let h = leb-false (rounds a) most e in
          never (rw e at f) (λ g v. omega (arith, heard_are))

  -- each answer that it is given
  answers_are : answers j l ≡ replicate asks.times (the_answer (price_answer a) (length (probed a)))
  answers_are =
      ap (map answer_reply) asks.asked_with ∙ map_replicate answer_reply asks.times (record_at a c (end a c) j)
      ∙ ap (replicate asks.times) (end_answer a c A C j j1 jn ∙ ap (the_answer (price_answer a)) (probes_many a c A C))

  rolled_are : Each (λ h. (b : ℕ) → marked h.party.roll b ≡ member b (bidders a)) (hearings j l)
  unfolding record_at full_roll
  rolled_are =
      subst (Each (λ h. (b : ℕ) → marked h.party.roll b ≡ member b (bidders a))) (sym (run_hearings a c marks l run j))
      (canonical_rolled a c A C marks M run.desk run.complete run.attendance j j1 jn
      (λ q. (b : ℕ) → marked q.roll b ≡ member b (bidders a)) (λ σ. entered_marked (bidders a) A.bidders))

  outcome : Outcome a most will l j
  outcome =
      let given : (which i : ℕ) → ℕ = promise (demand a) (supply a) in
      let q : Party = record_at a c (end a c) j in
      let all : 0 < asks.times → rounds a ≤ most = λ h. omega (arith, (asks.once_over.1 h).0, heard_are) in
      record {
        heard = heard_are;
        promised =
            verdicts_are ∙ ap (take (most / a.last)) (trail_given given (most_probes a.k) (first_search a.k))
            ∙ sym (map_take (λ d. given d.which d.index) (most / a.last) (probed a))
            ∙ ap (map (λ d. given d.which d.index)) (sym decisions_are);
        searched = decisions_are ∙ probes_in a.last A.way most (total_rounds a) (probed a) (few_more (eqb (price_answer a) 0)) ∙ ap (λ (k : ℕ). take (k / a.last) (probed a)) (sym heard_are);
        asked = asks.times;
        once_over = asks.once_over;
        cleared =
            answers_are ∙ times_same asks.times (λ h. ap (the_answer (price_answer a)) (sym (many_all (all h))));
        found = rw asks.asked_with (each_times _ asks.times q (λ h. found_are (all h)));
        fleets = rw asks.asked_with (each_replicate _ asks.times q (fleet_told a c A C j j1 jn));
        few =
            omega (
              arith,
              length-map (decisions j l) (λ d. d.verdict),
              ap length decisions_are,
              length-take (most / a.last) (probed a),
              probes_few a c A C,
              probes_many a c A C,
            );
        rolled = rw asks.asked_with (each_replicate _ asks.times q marked_are);
        rolled_before = rolled_are;
      }

-- whoever asks for hours, asks with a record that a party asks with at the end
module _ (a : Auction) (c : Coins) (A : IsAuction a) (C : InRange a c) (marks : Marks) (M : EnoughPresent a marks)
    (l : List Call) (run : Run a c marks l) (q : Party) (j : ℕ) (asks : Memᴰ (answer_call q) (own j (told run))) where
  one_of_n : (1 ≤ j) × (j ≤ a.n)
  one_of_n =
      elim (dec_le 1 j) [
        | yes j1 ↦
            elim (dec_le j a.n) [
              | yes jn ↦ (j1, jn)
              | no far ↦ absurd (nobody (λ h k. omega arith))
            ]
        | no near ↦ absurd (nobody (λ h k. omega arith))
      ]
    where
      nobody : (1 ≤ j → j ≤ a.n → ⊥) → ⊥
      nobody outside = Memᴰ.not-nil (subst (Memᴰ (answer_call q)) (none_told j a c marks run.desk run.attendance outside) asks)

  asked_with : Memᴰ q (askings j (told run))
  unfolding asking_in
  asked_with = read_there asking_in (answer_call q) q refl (own j (told run)) asks

  asked_last : q ≡ record_at a c (end a c) j
  asked_last =
      only (leb (rounds a) (run.attendance.hears j) && run.attendance.asks j)
      (subst (Memᴰ q) (canonical_askings a c A C marks M run.desk run.complete run.attendance j one_of_n.0 one_of_n.1) asked_with)
    where
      only : (b : Bool) → Memᴰ q (cond b (record_at a c (end a c) j ∷ []) []) → q ≡ record_at a c (end a c) j
      only true m = ⊎_elim (λ e. e) (λ m'. absurd (Memᴰ.not-nil m')) (Memᴰ.cases_cons m)
      only false m = absurd (Memᴰ.not-nil m)

  asked_by : FleetTold a q
  asked_by = subst (FleetTold a) (sym asked_last) (fleet_told a c A C j one_of_n.0 one_of_n.1)

-- DEMAND 2: no call of a run is refused but those that stand between; each verdict that a party hears is the promise at the true totals;
-- whoever has heard all the rounds and asks is answered, and each answer is the price index, with as many probes as verdicts, at most 2P;
-- the record has what the searches found, and D and S; each fleet is told its hours; and the roll marks the bidders.
pub demand_2 : (a : Auction) → IsAuction a → (c : Coins) → InRange a c → (marks : Marks) → EnoughPresent a marks → Demand2 a c marks
demand_2 a A c C marks M =
    record {
      none_refused = λ desk D att T. canonical_accepted a c A C marks M desk D att;
      outcome = λ l run j j1 jn. outcome a c A C marks M l run j j1 jn;
      fleets = λ l run q amount m. let w = run.fleets q amount m in asked_by a c A C marks M l run q w.0 w.1;
      covered = price_covered A;
      shared_out = λ some. fills_come_to a;
    }

-- "where demand equals supply at several neighbouring prices": in every auction these are the indices from j to i, and no others
module _ {a : Auction} (A : IsAuction a) where
  pub balanced_between : 0 < balanced_answer a → (x : ℕ) → balanced_answer a ≤ x → x ≤ clearing_answer a → demand a x ≡ supply a x
  balanced_between = equal_between (totals_monotone A)

  pub balanced_nowhere_else : (x : ℕ) → 1 ≤ x → x ≤ a.k → demand a x ≡ supply a x
      → (0 < balanced_answer a) × (balanced_answer a ≤ x) × (x ≤ clearing_answer a)
  balanced_nowhere_else = equal_nowhere_else (totals_monotone A)

-- "No bids now clears at (k + 1)/2 rounded down."
pub no_bids : (n k last : ℕ) → 1 ≤ k → price_answer (record { n = n; k = k; last = last; bids = [] }) ≡ (k + 1) / 2
unfolding demand supply sum
no_bids n k last some =
    let nobody : Auction = record { n = n; k = k; last = last; bids = [] } in
    all_equal (demand nobody) (supply nobody) k some (λ i. refl)

-- ---- demand 3

-- a word of a probe's round
probe_word : (a : Auction) (c : Coins) (i j : ℕ) → i < last_round (way_of a.last) * length (probes a c)
    → spoken_words a c i j ≡ get_or (get_or (all_spoken (way_of a.last) a.n (probes a c)) i []) (j - 1) []
unfolding whole_spoken
probe_word a c i j h =
    ap (λ (ws : List (List ℕ)). get_or ws (j - 1) [])
    (get_or-append (all_spoken (way_of a.last) a.n (probes a c)) (totals_spoken a (polynomials a c)) [] i (omega (arith, all_spoken_long (way_of a.last) a.n (probes a c))))

module _ (a b : Auction) (A : IsAuction a) (B : IsAuction b) (alike : Alike a b) (pool : List ℕ) (P : Pool a.n pool)
    (c : Coins) (C : InRange a c) (N : Match a b pool c) where
  -- a party of the first is one of the second
  jb : (j : ℕ) → j ≤ a.n → j ≤ b.n
  jb j h = subst (λ (n : ℕ). j ≤ n) (sym alike.parties) h

  same_probes : probed b ≡ probed a
  same_probes =
      sym (probes_trail b (match_coins a b pool c) B N.ranged) ∙ N.same_decisions ∙ probes_trail a c A C

  same_price : price_answer b ≡ price_answer a
  same_price = ap₂ price_index alike.highest alike.lowest

  same_rounds : rounds b ≡ rounds a
  same_rounds =
      ap (λ (k : ℕ). k * length (probed b) + total_rounds b) alike.way
      ∙ ap₂ (λ (ds : List Decision) (m : ℕ). a.last * length ds + cond (eqb m 0) 0 2) same_probes same_price

  same_answer : the_answer (price_answer b) (length (probed b)) ≡ the_answer (price_answer a) (length (probed a))
  same_answer = ap₂ the_answer same_price (ap length same_probes)

  -- the marks serve both
  both_enough : {marks : Marks} → EnoughPresent a marks → EnoughPresent b marks
  both_enough M i h = rw alike.parties (M i (omega (arith, same_rounds)))

  -- every pair of runs, with any marks and any coins of the second
  module _ (marks : Marks) (M : EnoughPresent a marks) (o : Coins) (R : InRange b o) (l m : List Call) (runL : Run a c marks l) (run_m : Run b o marks m) where
    abbrev L : ℕ
    L = length (probes a c)

    sheets_a : (j : ℕ) → 1 ≤ j → j ≤ a.n → sheets_for a c j ≡ sheets_at a c j
    sheets_a j j1 jn = sheets_dealt A C j j1 jn

    sheets_b : (j : ℕ) → 1 ≤ j → j ≤ a.n → sheets_for b o j ≡ sheets_at b o j
    sheets_b j j1 jn = sheets_dealt B R j j1 (jb j jn)

    unused_a : (j : ℕ) → 1 ≤ j → j ≤ a.n → unused a c j ≡ drop (sheet_size (way_of a.last) * L) (sheets_at a c j)
    unused_a j j1 jn = ap₂ (λ (k : ℕ) (xs : List ℕ). drop (sheet_size (way_of a.last) * k) xs) (sym (probes_many a c A C)) (sheets_a j j1 jn)

    unused_b : (j : ℕ) → 1 ≤ j → j ≤ a.n → unused b o j ≡ drop (sheet_size (way_of a.last) * L) (sheets_at b o j)
    unused_b j j1 jn =
        ap (λ (z : ℕ). drop (sheet_size (way_of z) * length (probed b)) (sheets_for b o j)) alike.way
        ∙ ap₂ (λ (k : ℕ) (xs : List ℕ). drop (sheet_size (way_of a.last) * k) xs) (ap length same_probes ∙ sym (probes_many a c A C)) (sheets_b j j1 jn)

    -- whoever says a word, present or not
    said_from : whole_spoken b o ≡ whole_spoken a c → (round j : ℕ) → 1 ≤ j → j ≤ a.n → SaidAlike round j l m
    said_from spoken round j j1 jn x y mx my ex ey =
        let X = sayings_are a c A C marks M l runL j j1 jn x mx in
        let Y = sayings_are b o B R marks (both_enough M) m run_m j j1 (jb j jn) y my in
        Y.1.words
        ∙ ap₂ (λ (wss : List (List (List ℕ))) (i : ℕ). get_or (get_or wss i []) (j - 1) []) spoken (sym Y.1.in_round ∙ ey ∙ sym ex ∙ X.1.in_round)
        ∙ sym X.1.words

    same_from : ((j : ℕ) → Memᴰ j pool → bid_words j b.bids o.bids ≡ bid_words j a.bids c.bids)
        → ((j : ℕ) → Memᴰ j pool → sheets_at b o j ≡ sheets_at a c j)
        → ((j : ℕ) → drop (sheet_size (way_of a.last) * L) (sheets_at b o j) ≡ drop (sheet_size (way_of a.last) * L) (sheets_at a c j))
        → whole_spoken b o ≡ whole_spoken a c → Same a b pool c o marks l m
    same_from bids sheets_same left spoken =
        record {
          pool_bids = λ j h.
              let (j1, jn) = pooled a.n j pool P.parties h in
              bids_are b o B R marks (both_enough M) m run_m j j1 (jb j jn) ∙ bids j h ∙ sym (bids_are a c A C marks M l runL j j1 jn);
          pool_sheets = λ j h.
              let (j1, jn) = pooled a.n j pool P.parties h in
              sheets_b j j1 jn ∙ sheets_same j h ∙ sym (sheets_a j j1 jn);
          left = λ j j1 jn. unused_b j j1 jn ∙ left j ∙ sym (unused_a j j1 jn);
          words = λ round j j1 jn p. said_from spoken round j j1 jn;
          words_heard = λ j j1 jn.
              far_as (runL.attendance.hears j) (run_m.attendance.hears j) _ (messages_are a c A C marks M l runL j j1 jn)
              (messages_are b o B R marks (both_enough M) m run_m j j1 (jb j jn) ∙ ap (λ (wss : List (List (List ℕ))). take (run_m.attendance.hears j) (present_of marks 0 wss)) spoken);
          verdicts_heard = λ j j1 jn.
              far_as (runL.attendance.hears j / a.last) (run_m.attendance.hears j / a.last) _ (verdicts_are a c A C marks M l runL j j1 jn)
              (verdicts_are b o B R marks (both_enough M) m run_m j j1 (jb j jn)
              ∙ ap₂ (λ (z : ℕ) (ds : List Decision). take (run_m.attendance.hears j / z) (map (λ d. d.verdict) ds)) alike.way same_probes);
          answered = λ j j1 jn.
              let asksL = asks a c A C marks M l runL j j1 jn in
              let asksM = asks b o B R marks (both_enough M) m run_m j j1 (jb j jn) in
              as_often asksL.times asksM.times (the_answer (price_answer a) (length (probed a))) (answers_are a c A C marks M l runL j j1 jn)
              (answers_are b o B R marks (both_enough M) m run_m j j1 (jb j jn) ∙ ap (replicate asksM.times) same_answer);
          probes = same_probes;
        }

    -- and what two runs that are the same say of the coins
    module _ (S : Same a b pool c o marks l m) where
      -- whoever is present says the same
      present_same : (i : ℕ) → i < rounds a → (j : ℕ) → 1 ≤ j → j ≤ a.n → is_present (marks i) j ≡ true → spoken_words b o i j ≡ spoken_words a c i j
      present_same i h j j1 jn p =
          let X = says_are a c A C marks M l runL j j1 jn i h p in
          let Y = says_are b o B R marks (both_enough M) m run_m j j1 (jb j jn) i (omega (arith, same_rounds)) p in
          sym Y.1.words ∙ S.words i j j1 jn p X.0 Y.0 X.2 Y.2 X.1.in_round Y.1.in_round ∙ X.1.words

      -- there are as many probes
      same_many : length (probes b o) ≡ L
      same_many = probes_many b o B R ∙ ap length same_probes ∙ sym (probes_many a c A C)

      -- in the terms of the first, in the rounds of the probes
      in_rounds : (i : ℕ) → i < last_round (way_of a.last) * L → i < rounds a
      in_rounds i h =
          let e : last_round (way_of a.last) * L ≡ a.last * length (probed a) = ap₂ ◌*◌ (rounds_of a.last A.way) (probes_many a c A C) in
          omega arith

      present_word : (i : ℕ) → i < last_round (way_of a.last) * L → (j : ℕ) → 1 ≤ j → j ≤ a.n → is_present (marks i) j ≡ true
          → get_or (get_or (all_spoken (way_of a.last) a.n (probes b o)) i []) (j - 1) [] ≡ get_or (get_or (all_spoken (way_of a.last) a.n (probes a c)) i []) (j - 1) []
      present_word i h j j1 jn p =
          ap₂ (λ (z n : ℕ). get_or (get_or (all_spoken (way_of z) n (probes b o)) i []) (j - 1) []) (sym alike.way) (sym alike.parties)
          ∙ sym (probe_word b o i j (subst (λ (m : ℕ). i < m) (sym (ap₂ (λ (z n : ℕ). last_round (way_of z) * n) alike.way same_many)) h))
          ∙ present_same i (in_rounds i h) j j1 jn p
          ∙ probe_word a c i j h

      shared_b : Each (λ d. ProbeShared (way_of a.last) (threshold a.n) d.probe) (probes b o)
      shared_b =
          subst (λ (z : ℕ). Each (λ d. ProbeShared (way_of z) (threshold a.n) d.probe) (probes b o)) alike.way
          (subst (λ (n : ℕ). Each (λ d. ProbeShared (way_of b.last) (threshold n) d.probe) (probes b o)) alike.parties (whole b o B R).shared)

      same_spoken : all_spoken (way_of b.last) b.n (probes b o) ≡ all_spoken (way_of a.last) a.n (probes a c)
      same_spoken =
          ap₂ (λ (z n : ℕ). all_spoken (way_of z) n (probes b o)) alike.way alike.parties
          ∙ (all_fixed (way_of a.last) a.n A.n_least A.n_most marks (probes a c) (probes b o) 0
          same_many (whole a c A C).shared shared_b
          (λ i h. rw (zero-add i) (M i (in_rounds i h)))
          (λ i h j j1 jn p. present_word i h j j1 jn (ap (λ (k : ℕ). is_present (marks k) j) (sym (zero-add i)) ∙ p)))

      same_coins : o ≡ match_coins a b pool c
      same_coins =
          N.only o R
          (λ j h.
          let (j1, jn) = pooled a.n j pool P.parties h in
          sym (bids_are b o B R marks (both_enough M) m run_m j j1 (jb j jn)) ∙ S.pool_bids j h ∙ bids_are a c A C marks M l runL j j1 jn)
          (λ j h.
          let (j1, jn) = pooled a.n j pool P.parties h in
          sym (sheets_b j j1 jn) ∙ S.pool_sheets j h ∙ sheets_a j j1 jn)
          (λ j j1 jn. sym (unused_b j j1 jn) ∙ S.left j j1 jn ∙ unused_a j j1 jn)
          same_spoken

  -- with the matching coins all words are the same
  all_same : whole_spoken b (match_coins a b pool c) ≡ whole_spoken a c
  unfolding whole_spoken
  all_same = ap₂ ◌++◌ (ap flatten N.same_spoken) N.same_opened

  matched : Matched a b pool c
  matched =
      let o : Coins = match_coins a b pool c in
      record {
        coins = o;
        ranged = N.ranged;
        same = λ marks M l m runL run_m.
            same_from marks M o N.ranged l m runL run_m N.same_bids N.same_sheets N.same_unused all_same;
        said = λ marks M l m runL run_m. said_from marks M o N.ranged l m runL run_m all_same;
        only = λ o R marks M l m runL run_m S. same_coins marks M o R l m runL run_m S;
      }

-- DEMAND 3: any t parties together learn nothing but who bids, in which order, what the searches find, i and j, and the totals that are
-- opened at the price, D and S; whoever is present, and though some of the t hear no round. And it speaks of something: there are coins whose
-- masks stay, and any coins are such but for their masks.
pub demand_3 : Demand3
demand_3 =
    record {
      matched = λ a b A B alike pool P c C stay. matched a b A B alike pool P c C (matching a b A B alike pool P c C stay);
      few_fall = λ a b A B alike which i. few_fall a b which i A B;
      some_stay = λ a b A B alike. some_coins a b A B;
      others_free = λ a b A B alike c C. but_masks a b A B c C;
      runs = λ a A c C marks M desk D att T. canonical_run a c marks desk D att T;
    }
