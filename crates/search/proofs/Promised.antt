-- The price theorem: searches whose verdicts keep the promise enclose the clearing answer and the lowest balanced index, and end at the
-- price. Assumes nothing.
use mathlib.Core.Path.{◌≡◌, refl, sym, ap, subst, ◌∙◌}
use mathlib.Core.Bool.{Bool, true, false, cond, not}
use mathlib.Core.List.{List, [], ◌∷◌}
use Prim.Native.Nat.{ℕ, suc, ◌+◌, ◌-◌, ◌/◌, ◌≤◌, ◌<◌}
use native.Mathlib.Nat.{zero-add}
use native.Mathlib.Decide.{ℕ_discrete}
use native.Mathlib.Omega.{arith}
use lib.Dec.{leb, eqb}
use lib.ListN.{length}
use borrow.Author.Tests.{eq-eqb, ne_eqb, le-leb, lt-leb}
use Rattle.verdict.specs.Verdict.{verdict}
use Rattle.search.specs.declared.bracket.Bracket.{Bracket}
use Rattle.search.specs.declared.searches.Search.{Search}
use Rattle.search.specs.Bracket.{middle, over}
use Rattle.search.specs.Clearing.{highest, covered, clearing, balancing, price_index, Monotone}
use Rattle.search.specs.Searches.{side, first_search, second_search, moves_lo, moved, next, finished, price}
use Rattle.search.specs.Search.{promise, follow, Heard, Searched}
use Rattle.search.proofs.Highest.{Ending}
use Rattle.search.proofs.Lowest.{last_before, last_of_all}
use Rattle.search.proofs.Clearing.{covered_ends, clearing_within}
use Rattle.search.proofs.Balance.{short, shorter, short_ends, lowest_within}
use Rattle.search.proofs.Narrowing.{over_true, middle_above, middle_below, Room, Around, around_start, around_step, lo_at_most, hi_above, lo_found, room_step}
use Rattle.search.proofs.Bounds.{in_first, in_second, Roomy, roomy_start, roomy_next, roomy_sound, sound_of, probing, probes_few, probes_enough, second_finished, finished_second, after_step, next_second, next_goes_on, next_turns, follow_probes, moves_told}

-- a promised verdict moves lo exactly where demand is at least supply; in the second search, where it is above
abbrev pub tested : (demand supply : ℕ → ℕ) (which i : ℕ) → Bool
tested demand supply which i = side which (covered demand supply i) (short demand supply i)

pub promised : (demand supply : ℕ → ℕ) (which i : ℕ) → moves_lo which (promise demand supply which i) ≡ tested demand supply which i
unfolding verdict covered side
promised demand supply which i = moves_told which (leb (side which (supply i) (demand i)) (side which (demand i) (supply i))) ∙ split (eqb which 2)
  where
    split : (t : Bool)
        → cond t (not (leb (cond t (demand i) (supply i)) (cond t (supply i) (demand i)))) (leb (cond t (demand i) (supply i)) (cond t (supply i) (demand i)))
        ≡ cond t (not (leb (demand i) (supply i))) (leb (supply i) (demand i))
    split true = refl
    split false = refl

-- ---- where promised verdicts lead

pub record Promised (demand supply : ℕ → ℕ) (k : ℕ) (s : Search) : Type 0 where
  pub roomy : Roomy k s
  pub first_around : s.which ≡ 1 → Around (covered demand supply) k s.bracket
  pub first_kept : s.which ≡ 2 → s.first ≡ clearing demand supply k
  pub second_around : s.which ≡ 2 → Around (short demand supply) s.first s.bracket

-- the first search ends at the clearing answer
found_clearing : (demand supply : ℕ → ℕ) (k : ℕ) {m : ℕ} {b : Bracket} → Monotone demand supply k → Around (covered demand supply) k b → Room k m b
    → over b ≡ true → b.lo ≡ clearing demand supply k
unfolding clearing
found_clearing demand supply k M A R o = lo_found (covered demand supply) k A R (covered_ends M) o

module _ (demand supply : ℕ → ℕ) (k : ℕ) where
  pub promised_start : 1 ≤ k → Promised demand supply k (first_search k)
  unfolding first_search
  promised_start some =
      record {
        roomy = roomy_start k some;
        first_around = λ e. around_start (covered demand supply) k;
        first_kept = λ e. absurd (omega arith);
        second_around = λ e. absurd (omega arith);
      }

  -- the second search begins
  promised_turned : (i m : ℕ) → Roomy k (second_search i m) → i ≡ clearing demand supply k → Promised demand supply k (second_search i m)
  unfolding second_search
  promised_turned i m R e =
      record {
        roomy = R;
        first_around = λ f. absurd (omega arith);
        first_kept = λ f. e;
        second_around = λ f. around_start (short demand supply) i;
      }

  module _ (s : Search) (v : ℕ) (is : v ≡ promise demand supply s.which (middle s.bracket)) where
    up : moves_lo s.which v ≡ tested demand supply s.which (middle s.bracket)
    up = ap (moves_lo s.which) is ∙ promised demand supply s.which (middle s.bracket)

    first_up : s.which ≡ 1 → moves_lo s.which v ≡ covered demand supply (middle s.bracket)
    unfolding side
    first_up e = up ∙ rw (ne_eqb s.which 2 (λ f. omega arith))

    second_up : s.which ≡ 2 → moves_lo s.which v ≡ short demand supply (middle s.bracket)
    unfolding side
    second_up e = up ∙ rw (eq-eqb s.which 2 e)

    -- the search that is on goes on
    promised_moved : Promised demand supply k s → Roomy k (moved s v) → Promised demand supply k (moved s v)
    unfolding moved
    promised_moved C R =
        record {
          roomy = R;
          first_around = λ e. around_step (covered demand supply) k (C.first_around e) (moves_lo s.which v) (first_up e);
          first_kept = C.first_kept;
          second_around = λ e. around_step (short demand supply) s.first (C.second_around e) (moves_lo s.which v) (second_up e);
        }

  -- each promised verdict
  module _ (M : Monotone demand supply k) (s : Search) (C : Promised demand supply k s) (going : finished s ≡ false)
      (v : ℕ) (is : v ≡ promise demand supply s.which (middle s.bracket)) where
    N : Roomy k (next s v)
    N = roomy_next k s v C.roomy going

    pub promised_next : Promised demand supply k (next s v)
    promised_next = split C.roomy
      where
        split : Roomy k s → Promised demand supply k (next s v)
        split (in_first h) = turn (over (after_step s v)) refl
          where
            R : Room k (s.probes + 1) (after_step s v)
            R = room_step h.bounds h.going (moves_lo s.which v)

            A : Around (covered demand supply) k (after_step s v)
            A = around_step (covered demand supply) k (C.first_around h.on) (moves_lo s.which v) (first_up s v is h.on)

            turn : (t : Bool) → over (after_step s v) ≡ t → Promised demand supply k (next s v)
            turn true o =
                rw (next_turns s v h.on o)
                (promised_turned (after_step s v).lo (s.probes + 1) (rw (next_turns s v h.on o) at N) (found_clearing demand supply k M A R o))
            turn false o = rw (next_goes_on s v o) (promised_moved s v is C (rw (next_goes_on s v o) at N))
        split (in_second h) = rw (next_second s v h.on) (promised_moved s v is C (rw (next_second s v h.on) at N))

-- ---- the theorem

-- j, where there is one, is above lo and at most hi; and once the second search is over they give the price
module _ {demand supply : ℕ → ℕ} {k m : ℕ} {b : Bracket} (M : Monotone demand supply k)
    (A : Around (short demand supply) (clearing demand supply k) b) (R : Room (clearing demand supply k) m b) where
  abbrev i : ℕ
  i = clearing demand supply k

  abbrev j : ℕ
  j = balancing demand supply k

  abbrev h : ℕ
  h = highest (short demand supply) i

  ends : Ending (short demand supply) i
  ends = short_ends (shorter i (clearing_within demand supply k) M)

  above : b.lo ≤ h
  above = lo_at_most (short demand supply) i A R

  below : h < b.hi
  below = hi_above (short demand supply) i A R ends

  last_is : 0 < j → suc h ≡ j
  unfolding balancing
  last_is some = last_before (covered supply demand) i ends some

  none_is : j ≡ 0 → h ≡ i
  unfolding balancing
  none_is none = last_of_all (covered supply demand) i ends none

  pub lowest_around : 0 < j → (b.lo < j) × (j ≤ b.hi)
  lowest_around some = (omega (arith, above, last_is some), omega (arith, below, last_is some))

  pub none_around : j ≡ 0 → b.hi ≡ i + 1
  none_around none = omega (arith, below, R.inside, none_is none)

  pub price_found : over b ≡ true → cond (leb b.hi i) ((i + b.hi) / 2) i ≡ price_index i j
  unfolding price_index
  price_found o =
      elim (ℕ_discrete j 0) [
        | yes none ↦
            let e : b.hi ≡ i + 1 = omega (arith, over_true b o, above, below, none_is none) in
            rw (eq-eqb j 0 none, lt-leb b.hi i (omega arith))
        | no some ↦
            let e : b.hi ≡ j = omega (arith, over_true b o, above, below, last_is (omega arith)) in
            rw (ne_eqb j 0 some, le-leb b.hi i (omega (arith, lowest_within demand supply k)), e)
      ]

module _ {demand supply : ℕ → ℕ} {k : ℕ} (M : Monotone demand supply k) where
  second_room : (s : Search) → s.which ≡ 2 → Roomy k s → Room s.first (s.probes - s.spent) s.bracket
  second_room s e (in_first h) = absurd (omega (arith, h.on))
  second_room s e (in_second h) = h.bounds

  first_room : (s : Search) → s.which ≡ 1 → Roomy k s → Room k s.probes s.bracket
  first_room s e (in_first h) = h.bounds
  first_room s e (in_second h) = absurd (omega (arith, h.on))

  module _ (s : Search) (C : Promised demand supply k s) where
    abbrev kept : s.which ≡ 2 → s.first ≡ clearing demand supply k
    kept = C.first_kept

    around_first : s.which ≡ 1 → (s.bracket.lo ≤ clearing demand supply k) × (clearing demand supply k < s.bracket.hi)
    unfolding clearing
    around_first e =
        let A = C.first_around e in
        let R = first_room s e C.roomy in
        (lo_at_most (covered demand supply) k A R, hi_above (covered demand supply) k A R (covered_ends M))

    around_second : (e : s.which ≡ 2) → Around (short demand supply) (clearing demand supply k) s.bracket
    around_second e = subst (λ (x : ℕ). Around (short demand supply) x s.bracket) (kept e) (C.second_around e)

    room_second : (e : s.which ≡ 2) → Room (clearing demand supply k) (s.probes - s.spent) s.bracket
    room_second e = subst (λ (x : ℕ). Room x (s.probes - s.spent) s.bracket) (kept e) (second_room s e C.roomy)

    price_is : finished s ≡ true → price s ≡ price_index (clearing demand supply k) (balancing demand supply k)
    unfolding price
    price_is f =
        let e = finished_second s f in
        rw (kept e) (price_found M (around_second e) (room_second e) (sym (second_finished s e) ∙ f))

    -- of searches that are stepped verdict by verdict
    pub enclosed : Searched demand supply k s.probes s
    enclosed =
        let S = roomy_sound k s C.roomy in
        record {
          sound = sound_of k s S;
          counted = refl;
          first_around = around_first;
          first_kept = kept;
          second_around = λ e. lowest_around M (around_second e) (room_second e);
          second_none = λ e none. none_around M (around_second e) (room_second e) none ∙ ap (λ (x : ℕ). x + 1) (sym (kept e));
          answer = price_is;
          few = probes_few k s S;
          enough = probes_enough k s S;
          above_lo = λ going. middle_above s.bracket (probing k s S going).apart;
          below_hi = λ going. middle_below s.bracket (probing k s S going).apart;
        }

  -- and of those that are told by the list of their verdicts
  promised_heard : (vs : List ℕ) (s : Search) → Promised demand supply k s → Heard (promise demand supply) s vs → Promised demand supply k (follow s vs)
  unfolding Heard follow
  promised_heard [] s C h = C
  promised_heard (v ∷ vs) s C (going, e, h) = promised_heard vs (next s v) (promised_next demand supply k M s C going v e) h

  pub searched : 1 ≤ k → (vs : List ℕ) → Heard (promise demand supply) (first_search k) vs
      → Searched demand supply k (length vs) (follow (first_search k) vs)
  unfolding first_search
  searched some vs h =
      subst (λ (m : ℕ). Searched demand supply k m (follow (first_search k) vs)) (follow_probes vs (first_search k) ∙ zero-add (length vs))
      (enclosed _ (promised_heard vs (first_search k) (promised_start demand supply k some) h))
