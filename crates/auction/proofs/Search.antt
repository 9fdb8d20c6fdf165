-- The probes that the searches make, as rounds one after another: they end where both are over, at the price. Assumes nothing.
use mathlib.Core.Path.{◌≡◌, refl, sym, ap, ap₂, subst, ◌∙◌}
use mathlib.Core.Bool.{Bool, true, false}
use mathlib.Core.List.{List, [], ◌∷◌, ◌++◌, map, map-map, nil≢cons, tail-eq_of_cons-eq}
use Prim.Native.Nat.{ℕ, zero, suc, ◌+◌, ◌-◌, ◌*◌, ◌/◌, ◌≤◌, ◌<◌}
use native.Mathlib.Nat.{zero-add, add-zero}
use native.Mathlib.Numerals.{add-one}
use native.Mathlib.Decide.{dec_lt}
use native.Mathlib.Omega.{arith}
use lib.ListN.{length, take, drop, length-append, length-map}
use borrow.Author.Tests.{le-leb}
use lib.Seq.{take-nil, take-append-le, take-append-add}
use Rattle.ways.specs.Way.{Way, way_of, last_round}
use Rattle.auction.proofs.Kept.{last_round_range, div_none, div_more}
use Rattle.ranges.specs.Lists.{from}
use Rattle.ranges.proofs.Loops.{length_from}
use Rattle.search.specs.declared.searches.Search.{Search}
use Rattle.search.specs.Bracket.{middle}
use Rattle.search.specs.Limit.{most_probes}
use Rattle.search.specs.Searches.{first_search, next, finished, price}
use Rattle.search.specs.Search.{promise, follow, Decision, decision_at, trail, made_in, Searched}
use Rattle.search.proofs.Bounds.{Sound, roomy_sound, probes_enough, next_probes, follow_probes, second_finished, finished_second}
use Rattle.search.proofs.Narrowing.{over_true}
use Rattle.search.proofs.Promised.{Promised, promised_start, promised_next, enclosed}
use Rattle.sharing.specs.Scheme.{threshold}
use Rattle.comparison.specs.Probe.{SheetCoins, Each, Probe, secret, last_polynomial}
use Rattle.comparison.proofs.Dealt.{ProbeShared}
use Rattle.search.proofs.Trails.{trail_over, trail_going, spent_on_first}
use Rattle.auction.specs.Auction.{Auction, IsAuction, demand, supply, clearing_answer, balanced_answer, price_answer, probed}
use Rattle.auction.specs.Coins.{Coins, InRange}
use Rattle.auction.specs.Received.{collect, round_after}
use Rattle.auction.proofs.Closed.{polynomials, probe_of, Made, decided, made, Stage, decided_stage, probes, decision}
use Rattle.auction.proofs.Totals.{totals_monotone}
use Rattle.auction.proofs.Round.{Ready, shared, verdict_is}
use Rattle.auction.proofs.Calls.{collect_append}
use Rattle.auction.proofs.Chain.{Turn, Chain, done, chain_append, decision_of}
use Rattle.auction.proofs.Placed.{decided_going}
use Rattle.auction.proofs.Probed.{turn_of, probe_chain, probe_decides, part_decides}

-- the rounds of a probe, and of probes
abbrev pub turns_in : Way → Made → List Turn
turns_in v d = map (turn_of v d.here d.probe) (from 0 (last_round v))

turns_in_length : (v : Way) (d : Made) → length (turns_in v d) ≡ last_round v
turns_in_length v d = length-map (from 0 (last_round v)) (turn_of v d.here d.probe) ∙ length_from 0 (last_round v)

unfoldable pub turns_of : Way → List Made → List Turn
turns_of v [] = []
turns_of v (d ∷ ds) = turns_in v d ++ turns_of v ds

pub turns_length : (v : Way) (ds : List Made) → length (turns_of v ds) ≡ last_round v * length ds
unfolding turns_of
turns_length v [] = omega arith
turns_length v (d ∷ ds) = length-append (turns_in v d) (turns_of v ds) ∙ omega (arith, turns_in_length v d, turns_length v ds)

-- in the first m rounds as many verdicts are heard as probes end
pub turns_decide : (v : Way) (ds : List Made) (m : ℕ) → collect decision_of (take m (turns_of v ds)) ≡ take (m / last_round v) (map (decision v) ds)
unfolding turns_of collect
turns_decide v [] m = ap (collect decision_of) (take-nil m) ∙ sym (take-nil (m / last_round v))
turns_decide v (d ∷ ds) m =
    elim (dec_lt m (last_round v)) [
      | yes lt ↦
          let none : m / last_round v ≡ 0 = div_none v m lt in
          ap (collect decision_of) (take-append-le m (turns_in v d) (turns_of v ds) (omega (arith, turns_in_length v d)))
          ∙ part_decides v d.here d.probe m lt ∙ ap (λ (k : ℕ). take k (map (decision v) (d ∷ ds))) (sym none)
      | no ge ↦
          let later : ℕ = m - last_round v in
          let at : m ≡ length (turns_in v d) + later = omega (arith, turns_in_length v d) in
          let count : suc (later / last_round v) ≡ m / last_round v = div_more v m (omega arith) in
          ap (λ (k : ℕ). collect decision_of (take k (turns_in v d ++ turns_of v ds))) at
          ∙ ap (collect decision_of) (take-append-add (turns_in v d) (turns_of v ds) later)
          ∙ collect_append decision_of (turns_in v d) (take later (turns_of v ds))
          ∙ ap₂ ◌++◌ (probe_decides v d.here d.probe) (turns_decide v ds later)
          ∙ ap (λ (k : ℕ). take k (map (decision v) (d ∷ ds))) count
    ]

-- where probes lead
abbrev pub after_probes : Way → Search → List Made → Search
after_probes v here ds = follow here (map (decided v) ds)

-- a part of a list
drop_next : {A : Type 0} (m : ℕ) (xs : List A) (s : A) (ss : List A) → drop m xs ≡ s ∷ ss → drop (suc m) xs ≡ ss
drop_next zero [] s ss e = absurd (nil≢cons e)
drop_next zero (x ∷ xs) s ss e = tail-eq_of_cons-eq e
drop_next (suc m) [] s ss e = absurd (nil≢cons e)
drop_next (suc m) (x ∷ xs) s ss e = drop_next m xs s ss e

module _ (a : Auction) (fs : List (List ℕ)) where
  pub made_over : (here : Search) (ss : List SheetCoins) → finished here ≡ true → made a fs here ss ≡ []
  unfolding made
  made_over here [] e = refl
  made_over here (s ∷ ss) e = rw (e, made)

  pub made_going : (here : Search) (s : SheetCoins) (ss : List SheetCoins) → finished here ≡ false
      → made a fs here (s ∷ ss)
      ≡ record { here = here; probe = probe_of a fs here s } ∷ made a fs (next here (secret (last_polynomial (way_of a.last) (probe_of a fs here s)))) ss
  unfolding made
  made_going here s ss e = rw (e, made)

-- ---- the rounds are counted from 0 on

-- the round that a turn is, and that these turns are the rounds from k on
abbrev pub round_is : ℕ → Turn → ℕ
round_is last r = round_after last r.stage.search.probes r.stage.round

abbrev pub Counted : (last : ℕ) → ℕ → List Turn → Type 0
Counted last k [] = Unit {0}
Counted last k (r ∷ rs) = (round_is last r ≡ k) × Counted last (suc k) rs

pub counted_append : (last k l : ℕ) (rs rs' : List Turn) → k + length rs ≡ l → Counted last k rs → Counted last l rs' → Counted last k (rs ++ rs')
counted_append last k l [] rs' e h g = subst (λ (x : ℕ). Counted last x rs') (sym e ∙ add-zero k) g
counted_append last k l (r ∷ rs) rs' e h g = (h.0, counted_append last (suc k) l rs rs' (omega arith) h.1 g)

-- a round of a probe, among those counted
in_probe : (last m round : ℕ) → round ≤ 33 → round_after last m round ≡ last * m + (round - 1)
in_probe last m round h = rw (le-leb round 33 h)

counted_probe : (v : Way) (here : Search) (q : Probe) (i m : ℕ) → i + m ≤ last_round v
    → Counted (last_round v) (last_round v * here.probes + i) (map (turn_of v here q) (from i m))
unfolding from
counted_probe v here q i zero h = tt
counted_probe v here q zero (suc m) h =
    let next : last_round v * here.probes + 1 ≡ suc (last_round v * here.probes + 0) = omega arith in
    (in_probe (last_round v) here.probes 1 (omega arith) ∙ omega arith, subst (λ (k : ℕ). Counted (last_round v) k (map (turn_of v here q) (from 1 m))) next (counted_probe v here q 1 m (omega arith)))
counted_probe v here q (suc i) (suc m) h =
    let next : last_round v * here.probes + suc (suc i) ≡ suc (last_round v * here.probes + suc i) = omega arith in (
      in_probe (last_round v) here.probes (i + 2) (omega (arith, (last_round_range v).1)) ∙ omega arith,
      subst (λ (k : ℕ). Counted (last_round v) k (map (turn_of v here q) (from (suc (suc i)) m))) next (counted_probe v here q (suc (suc i)) m (omega arith)),
    )

none_counted : (v : Way) (k : ℕ) → Counted (last_round v) k (turns_of v [])
unfolding turns_of
none_counted v k = tt

one_counted : (v : Way) (d : Made) (ds : List Made) (after : Search) → after.probes ≡ d.here.probes + 1
    → Counted (last_round v) (last_round v * after.probes) (turns_of v ds) → Counted (last_round v) (last_round v * d.here.probes) (turns_of v (d ∷ ds))
unfolding turns_of
one_counted v d ds after e h =
    counted_append (last_round v) (last_round v * d.here.probes) (last_round v * after.probes) (turns_in v d) (turns_of v ds)
    (next_count (last_round v) d.here.probes after.probes (length (turns_in v d)) e (turns_in_length v d))
    (subst (λ (k : ℕ). Counted (last_round v) k (turns_in v d)) (add-zero _) (counted_probe v d.here d.probe 0 (last_round v) (omega arith)))
    h
  where
    next_count : (l m n k : ℕ) → n ≡ m + 1 → k ≡ l → l * m + k ≡ l * n
    next_count l m n k f g = ap (λ (z : ℕ). l * m + z) g ∙ sym (ap (λ (z : ℕ). l * z) f ∙ omega arith)

module _ (a : Auction) (fs : List (List ℕ)) where
  abbrev w : Way
  w = way_of a.last

  pub made_counted : (here : Search) (ss : List SheetCoins) → Counted (last_round w) (last_round w * here.probes) (turns_of w (made a fs here ss))
  unfolding made
  made_counted here [] = none_counted w _
  made_counted here (s ∷ ss) = split (finished here) refl (made_counted (next here verdict) ss)
    where
      verdict : ℕ
      verdict = secret (last_polynomial (way_of a.last) (probe_of a fs here s))

      split : (o : Bool) → finished here ≡ o → Counted (last_round w) (last_round w * (next here verdict).probes) (turns_of w (made a fs (next here verdict) ss))
          → Counted (last_round w) (last_round w * here.probes) (turns_of w (made a fs here (s ∷ ss)))
      split true o later = rw (made_over a fs here (s ∷ ss) o) (none_counted w _)
      split false o later = rw (made_going a fs here s ss o) (one_counted w _ _ (next here verdict) (next_probes here verdict) later)

-- what the probes ds with these sheets are, from here on
pub record Leads (a : Auction) (c : Coins) (here : Search) (ss : List SheetCoins) (ds : List Made) : Type 0 where
  pub chain : Chain a c (decided_stage here) (turns_of (way_of a.last) ds) (decided_stage (after_probes (way_of a.last) here ds))
  pub promised : Promised (demand a) (supply a) a.k (after_probes (way_of a.last) here ds)
  pub ended : finished (after_probes (way_of a.last) here ds) ≡ true
  pub trail_is : map (decision (way_of a.last)) ds ≡ trail (promise (demand a) (supply a)) (length ss) here
  pub shared : Each (λ d. ProbeShared (way_of a.last) (threshold a.n) d.probe) ds

module _ (a : Auction) (c : Coins) (A : IsAuction a) (C : InRange a c) where
  abbrev given : (which i : ℕ) → ℕ
  given = promise (demand a) (supply a)

  abbrev Here : Search → Type 0
  Here here = Promised (demand a) (supply a) a.k here

  -- no probe
  none_left : (here : Search) (ss : List SheetCoins) → Here here → finished here ≡ true → Leads a c here ss []
  unfolding turns_of follow
  none_left here ss K o =
      record { chain = done; promised = K; ended = o; trail_is = sym (trail_over given (length ss) here o); shared = tt }

  module _ (here : Search) (s : SheetCoins) (ss : List SheetCoins) (R : Ready a c here s ss) where
    abbrev q : Probe
    q = probe_of a (polynomials a c) here s

    abbrev v : ℕ
    v = secret (last_polynomial (way_of a.last) q)

    promise_kept : v ≡ given here.which (middle here.bracket)
    promise_kept = verdict_is a c A C here s ss R

    -- one probe, and those after it
    one_more : (ds : List Made) → Leads a c (next here v) ss ds → Leads a c here (s ∷ ss) (record { here = here; probe = q } ∷ ds)
    unfolding turns_of follow
    one_more ds L =
        record {
          chain =
              chain_append (subst (λ (σ : Stage). Chain a c σ (turns_in (way_of a.last) (record { here = here; probe = q })) (decided_stage (next here v))) (sym (decided_going here R.going)) (probe_chain a c A C here s ss R)) L.chain;
          promised = L.promised;
          ended = L.ended;
          trail_is =
              ap (λ (l : List Decision). decision_at here v ∷ l) L.trail_is
              ∙ ap (λ (x : ℕ). decision_at here x ∷ trail given (length ss) (next here x)) promise_kept
              ∙ sym (trail_going given (length ss) here R.going);
          shared = (shared a c A C here s ss R, L.shared);
        }

    further : Here here → Here (next here v)
    further K = promised_next (demand a) (supply a) a.k (totals_monotone A) here K R.going v promise_kept

  leads : (ss : List SheetCoins) (here : Search) → Here here → drop here.probes c.sheets ≡ ss → here.probes + length ss ≡ most_probes a.k
      → Leads a c here ss (made a (polynomials a c) here ss)
  unfolding made
  leads [] here K e l = none_left here [] K (probes_enough a.k here (roomy_sound a.k here K.roomy) (omega arith))
  leads (s ∷ ss) here K e l = split (finished here) refl (leads ss (next here verdict))
    where
      verdict : ℕ
      verdict = secret (last_polynomial (way_of a.last) (probe_of a (polynomials a c) here s))

      count : (next here verdict).probes ≡ here.probes + 1
      count = next_probes here verdict

      split : (o : Bool) → finished here ≡ o
          → (Here (next here verdict) → drop (next here verdict).probes c.sheets ≡ ss → (next here verdict).probes + length ss ≡ most_probes a.k
          → Leads a c (next here verdict) ss (made a (polynomials a c) (next here verdict) ss))
          → Leads a c here (s ∷ ss) (made a (polynomials a c) here (s ∷ ss))
      split true o later = rw (made_over a (polynomials a c) here (s ∷ ss) o) (none_left here (s ∷ ss) K o)
      split false o later =
          let R : Ready a c here s ss = record { sound = roomy_sound a.k here K.roomy; going = o; left = e } in
          let sheets : drop (next here verdict).probes c.sheets ≡ ss =
          ap (λ (m : ℕ). drop m c.sheets) (count ∙ add-one here.probes) ∙ drop_next here.probes c.sheets s ss e in
          rw (made_going a (polynomials a c) here s ss o)
          (one_more here s ss R (made a (polynomials a c) (next here verdict) ss) (later (further here s ss R K) sheets (omega (arith, count, l))))

  -- both searches whole
  pub whole : Leads a c (first_search a.k) c.sheets (probes a c)
  unfolding first_search
  whole =
      leads c.sheets (first_search a.k) (promised_start (demand a) (supply a) a.k A.k_least) refl (zero-add _ ∙ C.sheets_many)

  pub probes_trail : map (decision (way_of a.last)) (probes a c) ≡ probed a
  probes_trail = whole.trail_is ∙ ap (λ (x : ℕ). trail given x (first_search a.k)) C.sheets_many

  pub probes_many : length (probes a c) ≡ length (probed a)
  probes_many = sym (length-map (probes a c) (decision (way_of a.last))) ∙ ap length probes_trail

  abbrev end : Search
  end = after_probes (way_of a.last) (first_search a.k) (probes a c)

  searched : Searched (demand a) (supply a) a.k end.probes end
  searched = enclosed (totals_monotone A) end whole.promised

  pub probes_counted : end.probes ≡ length (probes a c)
  unfolding first_search
  probes_counted =
      follow_probes (map (decided (way_of a.last)) (probes a c)) (first_search a.k) ∙ zero-add _ ∙ length-map (probes a c) (decided (way_of a.last))

  pub probes_few : length (probes a c) ≤ most_probes a.k
  probes_few = omega (arith, searched.few, probes_counted)

  pub end_sound : Sound a.k end
  end_sound = roomy_sound a.k end whole.promised.roomy

  pub price_found : price end ≡ price_answer a
  price_found = searched.answer whole.ended

  -- and the second is on
  on : end.which ≡ 2
  on = finished_second end whole.ended

  last : end.bracket.hi ≡ end.bracket.lo + 1
  last = over_true end.bracket (sym (second_finished end on) ∙ whole.ended)

  pub highest_found : end.first ≡ clearing_answer a
  highest_found = searched.first_kept on

  pub lowest_found : 0 < balanced_answer a → end.bracket.hi ≡ balanced_answer a
  lowest_found some =
      let h = searched.second_around on some in
      omega (arith, h.0, h.1, last)

  pub none_found : balanced_answer a ≡ 0 → end.bracket.hi ≡ clearing_answer a + 1
  none_found none = searched.second_none on none ∙ ap (λ (x : ℕ). x + 1) highest_found

  pub spent_found : end.spent ≡ made_in 1 (probed a)
  spent_found =
      ap (λ (vs : List ℕ). (follow (first_search a.k) vs).spent) (sym (map-map (λ d. d.verdict) (decision (way_of a.last)) (probes a c)) ∙ ap (map (λ d. d.verdict)) probes_trail)
      ∙ spent_on_first given a.k A.k_least
