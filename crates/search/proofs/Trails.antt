-- The searches as a list: they are heard to their end, no others are, and i and j alone tell them. Assumes nothing.
use mathlib.Core.Path.{◌≡◌, refl, ◌∙◌, sym, ap}
use mathlib.Core.Bool.{Bool, true, false, true≢false}
use mathlib.Core.List.{map, List, [], ◌∷◌}
use Prim.Native.Nat.{ℕ, zero, suc, ◌+◌, ◌≤◌}
use native.Mathlib.Nat.{add-zero, zero-add}
use native.Mathlib.Omega.{arith}
use lib.ListN.{length}
use borrow.Author.Tests.{eq-eqb, ne_eqb}
use Rattle.search.specs.declared.searches.Search.{Search}
use Rattle.search.specs.Bracket.{middle, over}
use Rattle.search.specs.Limit.{most_probes}
use Rattle.search.specs.Clearing.{clearing, balancing, price_index, Monotone}
use Rattle.search.specs.Searches.{first_search, next, finished, price}
use Rattle.search.specs.Search.{promise, follow, Heard, Decision, decision_at, trail, made_in}
use Rattle.search.proofs.Balance.{same_promises}
use Rattle.search.proofs.Bounds.{Roomy, roomy_start, roomy_next, roomy_sound, probing, probes_few, probes_enough, finished_second, after_step, next_probes, turned_which, turned_spent, kept_which, second_which, second_spent, follow_probes}
use Rattle.search.proofs.Promised.{searched}

-- the verdicts of a trail
abbrev pub trail_verdicts : List Decision → List ℕ
trail_verdicts t = map (λ d. d.verdict) t

module _ (given : (which i : ℕ) → ℕ) where
  -- where the first verdict leads
  abbrev after : Search → Search
  after s = next s (given s.which (middle s.bracket))

  -- the first probe of a trail, if it has one
  pub trail_over : (q : ℕ) (s : Search) → finished s ≡ true → trail given q s ≡ []
  unfolding trail
  trail_over zero s e = refl
  trail_over (suc q) s e = rw (e, trail)

  pub trail_going : (q : ℕ) (s : Search) → finished s ≡ false → trail given (suc q) s ≡ decision_at s (given s.which (middle s.bracket)) ∷ trail given q (after s)
  unfolding trail
  trail_going q s e = rw (e, trail)

  -- a verdict of a trail is the one given at its index
  pub trail_given : (q : ℕ) (s : Search) → trail_verdicts (trail given q s) ≡ map (λ d. given d.which d.index) (trail given q s)
  unfolding trail
  trail_given zero s = refl
  trail_given (suc q) s = split (finished s) refl (trail_given q (after s))
    where
      split : (o : Bool) → finished s ≡ o → trail_verdicts (trail given q (after s)) ≡ map (λ d. given d.which d.index) (trail given q (after s))
          → trail_verdicts (trail given (suc q) s) ≡ map (λ d. given d.which d.index) (trail given (suc q) s)
      split true o e = rw (trail_over (suc q) s o) refl
      split false o e = rw (trail_going q s o) (ap (λ (l : List ℕ). given s.which (middle s.bracket) ∷ l) e)

  -- a trail is what is heard, cut short or not
  pub trail_heard : (q : ℕ) (s : Search) → Heard given s (trail_verdicts (trail given q s))
  unfolding Heard trail
  trail_heard zero s = tt
  trail_heard (suc q) s = split (finished s) refl (trail_heard q (after s))
    where
      split : (t : Bool) → finished s ≡ t → Heard given (after s) (trail_verdicts (trail given q (after s))) → Heard given s (trail_verdicts (trail given (suc q) s))
      split true o h = rw (trail_over (suc q) s o) tt
      split false o h = rw (trail_going q s o) (o, refl, h)

  -- what is heard until both are over, or until q verdicts, is the trail
  pub heard_trail : (q : ℕ) (s : Search) (vs : List ℕ) → Heard given s vs → length vs ≤ q → (finished (follow s vs) ≡ false → length vs ≡ q)
      → trail_verdicts (trail given q s) ≡ vs
  unfolding Heard follow trail
  heard_trail zero s [] h le cut = refl
  heard_trail zero s (v ∷ vs) h le cut = absurd (omega arith)
  heard_trail (suc q) s [] h le cut = split (finished s) refl
    where
      split : (t : Bool) → finished s ≡ t → trail_verdicts (trail given (suc q) s) ≡ []
      split true o = rw (trail_over (suc q) s o)
      split false o = absurd (omega (arith, cut o))
  heard_trail (suc q) s (v ∷ vs) (going, e, h) le cut =
      rw (trail_going q s going, ← e) (ap (λ (l : List ℕ). v ∷ l) (heard_trail q (next s v) vs h (omega arith) (λ o. omega (arith, cut o))))

  module _ (k : ℕ) where
    -- 2P probes are enough, whatever verdicts are given
    pub ends : (q : ℕ) (s : Search) → Roomy k s → q + s.probes ≡ most_probes k → finished (follow s (trail_verdicts (trail given q s))) ≡ true
    unfolding follow trail
    ends zero s R e = probes_enough k s (roomy_sound k s R) (omega arith)
    ends (suc q) s R e = split (finished s) refl (λ R'. ends q (after s) R' (omega (arith, next_probes s (given s.which (middle s.bracket)))))
      where
        split : (t : Bool) → finished s ≡ t → (Roomy k (after s) → finished (follow (after s) (trail_verdicts (trail given q (after s)))) ≡ true)
            → finished (follow s (trail_verdicts (trail given (suc q) s))) ≡ true
        split true o later = rw (trail_over (suc q) s o) o
        split false o later = rw (trail_going q s o) (later (roomy_next k s (given s.which (middle s.bracket)) R o))

    heard_roomy : (vs : List ℕ) (s : Search) → Roomy k s → Heard given s vs → Roomy k (follow s vs)
    unfolding Heard follow
    heard_roomy [] s R h = R
    heard_roomy (v ∷ vs) s R (going, e, h) = heard_roomy vs (next s v) (roomy_next k s v R going) h

    pub trail_ends : 1 ≤ k → finished (follow (first_search k) (trail_verdicts (trail given (most_probes k) (first_search k)))) ≡ true
    unfolding first_search
    trail_ends some = ends (most_probes k) (first_search k) (roomy_start k some) (add-zero _)

    -- what is heard until both are over is the whole trail
    pub heard_whole : 1 ≤ k → (vs : List ℕ) → Heard given (first_search k) vs → finished (follow (first_search k) vs) ≡ true
        → trail_verdicts (trail given (most_probes k) (first_search k)) ≡ vs
    unfolding first_search
    heard_whole some vs h o =
        let R = heard_roomy vs (first_search k) (roomy_start k some) h in
        heard_trail (most_probes k) (first_search k) vs h (omega (arith, follow_probes vs (first_search k), probes_few k _ (roomy_sound k _ R)))
        (λ going. absurd (true≢false (sym o ∙ going)))

-- ---- the first search's probes

-- the record of them is their number
module _ (given : (which i : ℕ) → ℕ) (k : ℕ) where
  -- from here to the end, in either search
  record Spent (q : ℕ) (s e : Search) : Type 0 where
    first : s.which ≡ 1 → e.spent ≡ s.probes + made_in 1 (trail given q s)
    second : s.which ≡ 2 → (e.spent ≡ s.spent) × (made_in 1 (trail given q s) ≡ 0)

  abbrev end : (q : ℕ) → Search → Search
  end q s = follow s (trail_verdicts (trail given q s))

  -- one probe more
  module _ (q : ℕ) (s : Search) (going : finished s ≡ false) (later : Spent q (after given s) (end q (after given s))) where
    abbrev v : ℕ
    v = given s.which (middle s.bracket)

    one_first : s.which ≡ 1 → made_in 1 (trail given (suc q) s) ≡ suc (made_in 1 (trail given q (after given s)))
    unfolding made_in
    one_first e = rw (trail_going given q s going, eq-eqb s.which 1 e)

    none_first : s.which ≡ 2 → made_in 1 (trail given (suc q) s) ≡ made_in 1 (trail given q (after given s))
    unfolding made_in
    none_first e = rw (trail_going given q s going, ne_eqb s.which 1 (λ f. omega arith))

    ends_there : end (suc q) s ≡ end q (after given s)
    unfolding follow
    ends_there = rw (trail_going given q s going)

    after_first : s.which ≡ 1 → (end q (after given s)).spent ≡ s.probes + 1 + made_in 1 (trail given q (after given s))
    after_first e = split (over (after_step s v)) refl
      where
        split : (t : Bool) → over (after_step s v) ≡ t → (end q (after given s)).spent ≡ s.probes + 1 + made_in 1 (trail given q (after given s))
        split true o =
            let h = later.second (turned_which s v e o) in
            omega (arith, h.0, h.1, turned_spent s v e o)
        split false o = later.first (kept_which s v o ∙ e) ∙ omega (arith, next_probes s v)

    spent_more : Spent (suc q) s (end (suc q) s)
    spent_more =
        record {
          first = λ e. rw ends_there (omega (arith, after_first e, one_first e));
          second = λ e.
              let h = later.second (second_which s v e) in
              (rw ends_there (h.0 ∙ second_spent s v e), none_first e ∙ h.1);
        }

  spent_over : (q : ℕ) (s : Search) → finished s ≡ true → Spent q s (end q s)
  unfolding made_in follow
  spent_over q s o =
      let none : trail given q s ≡ [] = trail_over given q s o in
      record {
        first = λ e. absurd (omega (arith, finished_second s o));
        second = λ e. (ap (λ (t : List Decision). (follow s (trail_verdicts t)).spent) none, ap (made_in 1) none);
      }

  spent_at_end : (q : ℕ) (s : Search) → finished (end q s) ≡ true → Spent q s (end q s)
  unfolding trail follow
  spent_at_end zero s o = spent_over zero s o
  spent_at_end (suc q) s o = split (finished s) refl (spent_at_end q (after given s))
    where
      split : (t : Bool) → finished s ≡ t → (finished (end q (after given s)) ≡ true → Spent q (after given s) (end q (after given s)))
          → Spent (suc q) s (end (suc q) s)
      split true f later = spent_over (suc q) s f
      split false f later = spent_more q s f (later (sym (ap finished (ends_there' f)) ∙ o))
        where
          ends_there' : finished s ≡ false → end (suc q) s ≡ end q (after given s)
          ends_there' f = rw (trail_going given q s f)

  pub spent_on_first : 1 ≤ k → (end (most_probes k) (first_search k)).spent ≡ made_in 1 (trail given (most_probes k) (first_search k))
  unfolding first_search
  spent_on_first some =
      (spent_at_end (most_probes k) (first_search k) (trail_ends given k some)).first refl ∙ zero-add _

-- the searches end at the price
pub trail_price : {demand supply : ℕ → ℕ} {k : ℕ} → 1 ≤ k → Monotone demand supply k
    → price (follow (first_search k) (trail_verdicts (trail (promise demand supply) (most_probes k) (first_search k))))
    ≡ price_index (clearing demand supply k) (balancing demand supply k)
trail_price {demand} {supply} {k} some M =
    (searched M some (trail_verdicts (trail (promise demand supply) (most_probes k) (first_search k)))
    (trail_heard (promise demand supply) (most_probes k) (first_search k))
    ).answer (trail_ends (promise demand supply) k some)

-- ---- two auctions

-- verdicts that agree on the list give the same trail
agreeing : (given given' : (which i : ℕ) → ℕ) (k : ℕ) → ((which i : ℕ) → 1 ≤ i → i ≤ k → given which i ≡ given' which i) → (q : ℕ) (s : Search)
    → Roomy k s → trail given q s ≡ trail given' q s
unfolding trail
agreeing given given' k same zero s R = refl
agreeing given given' k same (suc q) s R = split (finished s) refl (agreeing given given' k same q (after given s))
  where
    split : (t : Bool) → finished s ≡ t → (Roomy k (after given s) → trail given q (after given s) ≡ trail given' q (after given s))
        → trail given (suc q) s ≡ trail given' (suc q) s
    split true o later = trail_over given (suc q) s o ∙ sym (trail_over given' (suc q) s o)
    split false o later =
        let P = probing k s (roomy_sound k s R) o in
        let e = same s.which (middle s.bracket) P.index_least P.index_most in
        trail_going given q s o
        ∙ ap (λ (l : List Decision). decision_at s (given s.which (middle s.bracket)) ∷ l) (later (roomy_next k s (given s.which (middle s.bracket)) R o))
        ∙ ap (λ (v : ℕ). decision_at s v ∷ trail given' q (next s v)) e
        ∙ sym (trail_going given' q s o)

module _ {demand supply demand' supply' : ℕ → ℕ} {k : ℕ} (some : 1 ≤ k) (M : Monotone demand supply k) (M' : Monotone demand' supply' k)
    (highest_same : clearing demand supply k ≡ clearing demand' supply' k) (lowest_same : balancing demand supply k ≡ balancing demand' supply' k) where
  -- the same i and j: the same probes with the same verdicts, also where both are cut short after q
  pub trail_by_answers : (q : ℕ) → trail (promise demand supply) q (first_search k) ≡ trail (promise demand' supply') q (first_search k)
  trail_by_answers q =
      agreeing (promise demand supply) (promise demand' supply') k (same_promises M M' highest_same lowest_same) q (first_search k) (roomy_start k some)
