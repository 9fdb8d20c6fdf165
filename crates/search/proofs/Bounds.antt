-- Where the two searches stand: what soundness says in facts, the room that they have, and that a verdict keeps it. Assumes nothing.
use mathlib.Core.Path.{◌≡◌, refl, sym, ap, ◌∙◌}
use mathlib.Core.Bool.{Bool, true, false, cond, not, ◌&&◌, ◌||◌}
use mathlib.Core.List.{List, [], ◌∷◌}
use Prim.Native.Nat.{ℕ, ◌+◌, ◌-◌, ◌*◌, ◌≤◌, ◌<◌}
use native.Mathlib.Nat.{add-zero}
use native.Mathlib.Numerals.{lt_of_le_of_ne}
use native.Mathlib.Omega.{arith}
use lib.Dec.{ltb, eqb}
use lib.ListN.{length}
use borrow.Author.Tests.{ltb-true, ltb-false, leb-true, eqb-true, not-true, lt-ltb, le-ltb, le-leb, eq-eqb, ne_eqb}
use Rattle.ranges.proofs.Loops.{and-true}
use Rattle.search.specs.declared.bracket.Bracket.{Bracket}
use Rattle.search.specs.declared.searches.Search.{Search}
use Rattle.search.specs.Bracket.{start, middle, over, step}
use Rattle.search.specs.Limit.{limit, most_probes}
use Rattle.search.specs.Searches.{side, first_search, second_search, moves_lo, moved, turned, next, finished, bounded, first_sound, second_sound, sound}
use Rattle.search.specs.Search.{follow}
use Rattle.search.proofs.Logarithm.{limit_law, limit_least}
use Rattle.search.proofs.Narrowing.{over_true, over_false, open_at_start, middle_above, middle_below, Room, room_start, room_spent, room_step}

-- ---- the bounds of one search

pub record Bounded (k m : ℕ) (b : Bracket) : Type 0 where
  pub apart : b.lo < b.hi
  pub inside : b.hi ≤ k + 1
  pub few : m ≤ limit k
  -- after as many probes as the limit it is over
  pub ended : m ≡ limit k → b.hi ≤ b.lo + 1

-- "equal to P with hi - lo above 1"
spent_out : (m p lo hi : ℕ) → not (eqb m p && ltb 1 (hi - lo)) ≡ true → m ≡ p → hi ≤ lo + 1
spent_out m p lo hi e same =
    let late : not (ltb 1 (hi - lo)) ≡ true = rw (eq-eqb m p same) at e in
    omega (arith, ltb-false 1 (hi - lo) (not-true _ late))

spent_out_of : (m p lo hi : ℕ) → (m ≡ p → hi ≤ lo + 1) → not (eqb m p && ltb 1 (hi - lo)) ≡ true
spent_out_of m p lo hi h = split (eqb m p) refl
  where
    split : (t : Bool) → eqb m p ≡ t → not (t && ltb 1 (hi - lo)) ≡ true
    split false e = refl
    split true e = rw (le-ltb 1 (hi - lo) (omega (arith, h (eqb-true m p e))))

module _ (k m : ℕ) (b : Bracket) where
  pub bounded_facts : bounded k m b ≡ true → Bounded k m b
  unfolding bounded
  bounded_facts e =
      let x = and-true _ _ e in
      let y = and-true _ _ x.0 in
      let z = and-true _ _ y.0 in
      record { apart = ltb-true _ _ z.0; inside = leb-true _ _ z.1; few = leb-true _ _ y.1; ended = spent_out _ _ _ _ x.1 }

  pub bounded_of : Bounded k m b → bounded k m b ≡ true
  unfolding bounded
  bounded_of h =
      rw (
        lt-ltb b.lo b.hi h.apart,
        le-leb b.hi (k + 1) h.inside,
        le-leb m (limit k) h.few,
        spent_out_of m (limit k) b.lo b.hi h.ended,
      )

  -- a search with the room that it needs is bounded, and before its first probe a bounded one has it
  room_bounded : Room k m b → Bounded k m b
  room_bounded R =
      record { apart = R.apart; inside = R.inside; few = R.few; ended = λ e. omega (arith, over_true b (room_spent R e)) }

  bounded_room : m ≡ 0 → Bounded k m b → Room k m b
  bounded_room none B = record { apart = B.apart; inside = B.inside; narrow = rw none (omega (arith, B.inside)); few = B.few }

-- ---- both searches, where each is bounded so

module _ (B : (k m : ℕ) → Bracket → Type 0) (k : ℕ) (s : Search) where
  pub record First : Type 0 where
    pub on : s.which ≡ 1
    pub none : s.first ≡ 0
    pub not_spent : s.spent ≡ 0
    pub going : over s.bracket ≡ false
    pub bounds : B k s.probes s.bracket

  pub record Second : Type 0 where
    pub on : s.which ≡ 2
    pub within : s.first ≤ k
    pub spent_few : s.spent ≤ limit k
    pub counted : s.spent ≤ s.probes
    pub bounds : B s.first (s.probes - s.spent) s.bracket

  pub data InBounds : Type 0 where
    in_first : First → InBounds
    in_second : Second → InBounds

-- a sound search, in facts; and one that has the room that it needs, as every run's has and an arbitrary sound one need not
abbrev pub Sound : (k : ℕ) → Search → Type 0
Sound k s = InBounds Bounded k s

abbrev pub Roomy : (k : ℕ) → Search → Type 0
Roomy k s = InBounds Room k s

module _ (k : ℕ) (s : Search) where
  first_facts : first_sound k s ≡ true → First Bounded k s
  unfolding first_sound
  first_facts e =
      let w = and-true _ _ e in
      let x = and-true _ _ w.0 in
      let y = and-true _ _ x.0 in
      let z = and-true _ _ y.0 in
      record {
        on = eqb-true _ _ z.0;
        none = eqb-true _ _ x.1;
        not_spent = eqb-true _ _ w.1;
        going = not-true _ y.1;
        bounds = bounded_facts k s.probes s.bracket z.1;
      }

  second_facts : second_sound k s ≡ true → Second Bounded k s
  unfolding second_sound
  second_facts e =
      let w = and-true _ _ e in
      let x = and-true _ _ w.0 in
      let y = and-true _ _ x.0 in
      let z = and-true _ _ y.0 in
      record {
        on = eqb-true _ _ z.0;
        within = leb-true _ _ z.1;
        spent_few = leb-true _ _ y.1;
        counted = leb-true _ _ x.1;
        bounds = bounded_facts s.first (s.probes - s.spent) s.bracket w.1;
      }

  first_of : First Bounded k s → first_sound k s ≡ true
  unfolding first_sound
  first_of h =
      rw (
        eq-eqb s.which 1 h.on,
        bounded_of k s.probes s.bracket h.bounds,
        h.going,
        eq-eqb s.first 0 h.none,
        eq-eqb s.spent 0 h.not_spent,
      )

  second_of : Second Bounded k s → second_sound k s ≡ true
  unfolding second_sound
  second_of h =
      rw (
        eq-eqb s.which 2 h.on,
        le-leb s.first k h.within,
        le-leb s.spent (limit k) h.spent_few,
        le-leb s.spent s.probes h.counted,
        bounded_of s.first (s.probes - s.spent) s.bracket h.bounds,
      )

  pub sound_facts : sound k s ≡ true → Sound k s
  unfolding sound
  sound_facts e = split (first_sound k s) refl
    where
      split : (t : Bool) → first_sound k s ≡ t → Sound k s
      split true f = in_first (first_facts f)
      split false f = in_second (second_facts (rw f at e))

  pub sound_of : Sound k s → sound k s ≡ true
  unfolding sound
  sound_of (in_first h) = rw (first_of h)
  sound_of (in_second h) = either (first_sound k s) (second_sound k s) (second_of h)
    where
      either : (a b : Bool) → b ≡ true → a || b ≡ true
      either true b e = refl
      either false b e = e

  pub roomy_sound : Roomy k s → Sound k s
  roomy_sound (in_first h) =
      in_first (record { on = h.on; none = h.none; not_spent = h.not_spent; going = h.going; bounds = room_bounded _ _ _ h.bounds })
  roomy_sound (in_second h) =
      in_second (record { on = h.on; within = h.within; spent_few = h.spent_few; counted = h.counted; bounds = room_bounded _ _ _ h.bounds })

  -- before the first verdict a sound search has the room that it needs
  pub sound_roomy : s.probes ≡ 0 → Sound k s → Roomy k s
  sound_roomy e (in_first h) =
      in_first (record { on = h.on; none = h.none; not_spent = h.not_spent; going = h.going; bounds = bounded_room _ _ _ e h.bounds })
  sound_roomy e (in_second h) =
      in_second
      (record {
        on = h.on;
        within = h.within;
        spent_few = h.spent_few;
        counted = h.counted;
        bounds = bounded_room _ _ _ (omega arith) h.bounds;
      })

-- ---- until both are over

pub limit_rises : (i k : ℕ) → i ≤ k → limit i ≤ limit k
limit_rises i k le = limit_least i (limit k) (omega (arith, limit_law k))

module _ (s : Search) where
  pub second_finished : s.which ≡ 2 → finished s ≡ over s.bracket
  unfolding finished
  second_finished e = rw (eq-eqb s.which 2 e)

  pub finished_second : finished s ≡ true → s.which ≡ 2
  unfolding finished
  finished_second f = eqb-true _ _ (and-true _ _ f).0

-- with the answer 0 the second is over at once
pub over_at_once : (m : ℕ) → finished (second_search 0 m) ≡ true
unfolding finished second_search start over
over_at_once m = refl

-- an index of the list is probed, and a sheet is left for it
pub record Probing (k : ℕ) (s : Search) : Type 0 where
  pub going : over s.bracket ≡ false
  pub apart : s.bracket.lo + 1 < s.bracket.hi
  pub index_least : 1 ≤ middle s.bracket
  pub index_most : middle s.bracket ≤ k
  pub sheet_left : s.probes < most_probes k

pub probing : (k : ℕ) (s : Search) → Sound k s → finished s ≡ false → Probing k s
unfolding most_probes
probing k s (in_first h) on =
    let gap : s.bracket.lo + 1 < s.bracket.hi = over_false s.bracket h.bounds.apart h.going in
    let few : s.probes < limit k = lt_of_le_of_ne h.bounds.few (λ e. omega (arith, h.bounds.ended e)) in
    record {
      going = h.going;
      apart = gap;
      index_least = omega (arith, middle_above s.bracket gap);
      index_most = omega (arith, h.bounds.inside, middle_below s.bracket gap);
      sheet_left = omega arith;
    }
probing k s (in_second h) on =
    let going : over s.bracket ≡ false = sym (second_finished s h.on) ∙ on in
    let gap : s.bracket.lo + 1 < s.bracket.hi = over_false s.bracket h.bounds.apart going in
    let few : s.probes - s.spent < limit s.first = lt_of_le_of_ne h.bounds.few (λ e. omega (arith, h.bounds.ended e)) in
    record {
      going = going;
      apart = gap;
      index_least = omega (arith, middle_above s.bracket gap);
      index_most = omega (arith, h.within, h.bounds.inside, middle_below s.bracket gap);
      sheet_left = omega (arith, h.spent_few, limit_rises s.first k h.within);
    }

-- "at most" 2P probes, and as many are enough
module _ (k : ℕ) (s : Search) (S : Sound k s) where
  pub probes_few : s.probes ≤ most_probes k
  unfolding most_probes
  probes_few = split S
    where
      split : Sound k s → s.probes ≤ 2 * limit k
      split (in_first h) = omega (arith, h.bounds.few)
      split (in_second h) = omega (arith, h.bounds.few, h.spent_few, limit_rises s.first k h.within)

  pub probes_enough : s.probes ≡ most_probes k → finished s ≡ true
  probes_enough e = split (finished s) refl
    where
      split : (t : Bool) → finished s ≡ t → finished s ≡ true
      split true f = f
      split false f = absurd (omega (arith, (probing k s S f).sheet_left))

-- ---- a verdict

module _ (s : Search) (v : ℕ) where
  abbrev pub after_step : Bracket
  after_step = step s.bracket (moves_lo s.which v)

  pub next_second : s.which ≡ 2 → next s v ≡ moved s v
  unfolding turned moved
  next_second e = rw (ne_eqb s.which 1 (λ f. omega arith))

  pub next_goes_on : over after_step ≡ false → next s v ≡ moved s v
  unfolding turned moved
  next_goes_on o = rw o (split (eqb s.which 1))
    where
      split : (t : Bool) → cond (t && false) (second_search after_step.lo (s.probes + 1)) (moved s v) ≡ moved s v
      split true = refl
      split false = refl

  pub next_turns : s.which ≡ 1 → over after_step ≡ true → next s v ≡ second_search after_step.lo (s.probes + 1)
  unfolding turned moved
  next_turns e o = rw (eq-eqb s.which 1 e, o)

  -- "Probes done grows by one"
  pub next_probes : (next s v).probes ≡ s.probes + 1
  unfolding turned moved second_search
  next_probes = split (eqb s.which 1 && over after_step)
    where
      split : (t : Bool) → (cond t (second_search after_step.lo (s.probes + 1)) (moved s v)).probes ≡ s.probes + 1
      split true = refl
      split false = refl

-- which search is on after a verdict, and what the first took
module _ (s : Search) (v : ℕ) where
  pub turned_which : s.which ≡ 1 → over (after_step s v) ≡ true → (next s v).which ≡ 2
  unfolding second_search
  turned_which e o = ap (λ (x : Search). x.which) (next_turns s v e o)

  pub turned_spent : s.which ≡ 1 → over (after_step s v) ≡ true → (next s v).spent ≡ s.probes + 1
  unfolding second_search
  turned_spent e o = ap (λ (x : Search). x.spent) (next_turns s v e o)

  pub kept_which : over (after_step s v) ≡ false → (next s v).which ≡ s.which
  unfolding moved
  kept_which o = ap (λ (x : Search). x.which) (next_goes_on s v o)

  pub second_which : s.which ≡ 2 → (next s v).which ≡ 2
  unfolding moved
  second_which e = ap (λ (x : Search). x.which) (next_second s v e) ∙ e

  pub second_spent : s.which ≡ 2 → (next s v).spent ≡ s.spent
  unfolding moved
  second_spent e = ap (λ (x : Search). x.spent) (next_second s v e)

-- so as many are done as verdicts are heard
pub follow_probes : (vs : List ℕ) (s : Search) → (follow s vs).probes ≡ s.probes + length vs
unfolding follow
follow_probes [] s = sym (add-zero _)
follow_probes (v ∷ vs) s = follow_probes vs (next s v) ∙ omega (arith, next_probes s v)

-- a verdict of 1 moves lo in the first search, and hi in the second
pub moves_told : (which : ℕ) (t : Bool) → moves_lo which (cond t 1 0) ≡ side which t (not t)
unfolding moves_lo
moves_told which true = refl
moves_told which false = refl

-- ---- the room that the searches need

pub roomy_start : (k : ℕ) → 1 ≤ k → Roomy k (first_search k)
unfolding first_search
roomy_start k some = in_first (record { on = refl; none = refl; not_spent = refl; going = open_at_start k some; bounds = room_start k })

pub roomy_second : (k i m : ℕ) → i ≤ k → m ≤ limit k → Roomy k (second_search i m)
unfolding second_search
roomy_second k i m within few =
    let none : m - m ≡ 0 = omega arith in
    in_second
    (record { on = refl; within = within; spent_few = few; counted = omega arith; bounds = rw none (room_start i) })

module _ (k : ℕ) (s : Search) (v : ℕ) where
  first_moved : First Room k s → over (after_step s v) ≡ false → Roomy k (moved s v)
  unfolding moved
  first_moved h o =
      in_first
      (record { on = h.on; none = h.none; not_spent = h.not_spent; going = o; bounds = room_step h.bounds h.going (moves_lo s.which v) })

  second_moved : Second Room k s → over s.bracket ≡ false → Roomy k (moved s v)
  unfolding moved
  second_moved h going =
      let more : s.probes + 1 - s.spent ≡ s.probes - s.spent + 1 = omega (arith, h.counted) in
      in_second
      (record {
        on = h.on;
        within = h.within;
        spent_few = h.spent_few;
        counted = omega (arith, h.counted);
        bounds = rw more (room_step h.bounds going (moves_lo s.which v));
      })

  pub roomy_next : Roomy k s → finished s ≡ false → Roomy k (next s v)
  roomy_next (in_first h) on = split (over (after_step s v)) refl
    where
      R : Room k (s.probes + 1) (after_step s v)
      R = room_step h.bounds h.going (moves_lo s.which v)

      split : (t : Bool) → over (after_step s v) ≡ t → Roomy k (next s v)
      split true o = rw (next_turns s v h.on o) (roomy_second k (after_step s v).lo (s.probes + 1) (omega (arith, R.apart, R.inside)) R.few)
      split false o = rw (next_goes_on s v o) (first_moved h o)
  roomy_next (in_second h) on = rw (next_second s v h.on) (second_moved h (sym (second_finished s h.on) ∙ on))
