-- A sound record, in facts. Assumes nothing.
use mathlib.Core.Path.{◌≡◌, refl, sym, ◌∙◌}
use mathlib.Core.Bool.{Bool, true, false, cond, ◌&&◌, ◌||◌, true≢false}
use Prim.Native.Nat.{ℕ, ◌+◌, ◌^◌, ◌≤◌, ◌<◌}
use native.Mathlib.Omega.{arith}
use lib.Dec.{leb, eqb}
use borrow.Author.Tests.{ltb-true, leb-true, eqb-true, eqb-false, lt-ltb, le-leb, eq-eqb}
use Rattle.ranges.proofs.Loops.{and-true}
use Rattle.ranges.proofs.Ranges.{OnList, on_list, on_list_of}
use Rattle.search.specs.Limit.{limit, most_probes}
use Rattle.search.proofs.Logarithm.{limit_least}
use Rattle.search.specs.declared.searches.Search.{Search}
use Rattle.search.specs.Searches.{finished, clears}
use Rattle.search.proofs.Bounds as searches
use Rattle.search.proofs.Cleared.{going_clears}
use Rattle.roll.specs.Marks.{marked, marks}
use Rattle.roll.proofs.Laws.{Proper, proper_facts, proper_of, marks_most, all_marked}
use Rattle.ways.specs.Way.{is_way}
use Rattle.kept_pairs.specs.Pairs.{small}
use Rattle.record.specs.declared.Party.{Party}
use Rattle.record.specs.Record.{are_totals, round_sound, sound, ended}

-- a round that is in turn: of a probe, or of the totals at the price
pub record RoundSound (s : Search) (last round : ℕ) : Type 0 where
  pub least : 1 ≤ round
  pub probing : clears s ≡ false → round ≤ last
  pub opening : clears s ≡ true → (34 ≤ round) × (round ≤ 36)

module _ (s : Search) (last round : ℕ) where
  round_facts : round_sound s last round ≡ true → RoundSound s last round
  unfolding round_sound
  round_facts e = split (clears s) refl e
    where
      split : (t : Bool) → clears s ≡ t → cond t (leb 34 round && leb round 36) (leb 1 round && leb round last) ≡ true → RoundSound s last round
      split true c e =
          let h = and-true (leb 34 round) (leb round 36) e in
          let least = leb-true 34 round h.0 in
          record {
            least = omega arith;
            probing = λ d. absurd (true≢false (sym c ∙ d));
            opening = λ d. (least, leb-true round 36 h.1);
          }
      split false c e =
          let h = and-true (leb 1 round) (leb round last) e in
          record {
            least = leb-true 1 round h.0;
            probing = λ d. leb-true round last h.1;
            opening = λ d. absurd (true≢false (sym d ∙ c));
          }

  round_of : RoundSound s last round → round_sound s last round ≡ true
  unfolding round_sound
  round_of h = split (clears s) refl
    where
      split : (t : Bool) → clears s ≡ t → cond t (leb 34 round && leb round 36) (leb 1 round && leb round last) ≡ true
      split true c = rw (le-leb 34 round (h.opening c).0, le-leb round 36 (h.opening c).1)
      split false c = rw (le-leb 1 round h.least, le-leb round last (h.probing c))

-- totals of which supply is at most demand
pub totals_facts : (demand supply : ℕ) → are_totals demand supply ≡ true → (demand < 2 ^ 32) × (supply ≤ demand)
unfolding are_totals
totals_facts demand supply e =
    let h = and-true _ _ e in
    (ltb-true demand (2 ^ 32) (and-true _ _ h.0).0, leb-true supply demand h.1)

pub totals_of : (demand supply : ℕ) → demand < 2 ^ 32 → supply ≤ demand → are_totals demand supply ≡ true
unfolding are_totals
totals_of demand supply small le = rw (lt-ltb demand (2 ^ 32) small, lt-ltb supply (2 ^ 32) (omega arith), le-leb supply demand le)

pub record Sound (q : Party) : Type 0 where
  pub listed : OnList q.n q.own q.k
  pub search : searches.Sound q.k q.search
  pub round : RoundSound q.search q.last q.round
  pub sum : q.sum < 2 ^ 59 + 2 ^ 33
  pub carry : q.carry ≤ 255
  pub roll : Proper q.roll
  pub bids : q.bids ≡ marks q.roll
  pub totals : (q.demand < 2 ^ 32) × (q.supply ≤ q.demand)
  pub way : is_way q.last ≡ true
  pub pairs : small q.pairs ≡ true

module _ (q : Party) where
  pub sound_facts : sound q ≡ true → Sound q
  unfolding sound
  sound_facts e =
      let v = and-true _ _ e in
      let w = and-true _ _ v.0 in
      let x = and-true _ _ w.0 in
      let y = and-true _ _ x.0 in
      let z = and-true _ _ y.0 in
      let a = and-true _ _ z.0 in
      let b = and-true _ _ a.0 in
      let c = and-true _ _ b.0 in
      let d = and-true _ _ c.0 in
      record {
        listed = on_list _ _ _ d.0;
        search = searches.sound_facts q.k q.search d.1;
        round = round_facts q.search q.last q.round c.1;
        sum = ltb-true _ _ b.1;
        carry = leb-true _ _ a.1;
        roll = proper_facts _ z.1;
        bids = eqb-true _ _ y.1;
        totals = totals_facts q.demand q.supply x.1;
        way = w.1;
        pairs = v.1;
      }

  pub sound_of : Sound q → sound q ≡ true
  unfolding sound
  sound_of h =
      rw (
        on_list_of q.n q.own q.k h.listed,
        searches.sound_of q.k q.search h.search,
        round_of q.search q.last q.round h.round,
        lt-ltb q.sum (2 ^ 59 + 2 ^ 33) h.sum,
        le-leb q.carry 255 h.carry,
        proper_of q.roll h.roll,
        eq-eqb q.bids (marks q.roll) h.bids,
        totals_of q.demand q.supply h.totals.0 h.totals.1,
        h.way,
        h.pairs,
      )

-- the last round of a probe
pub last_most : (last : ℕ) → is_way last ≡ true → last ≤ 33
unfolding is_way
last_most last e = split (eqb last 33) refl e
  where
    split : (t : Bool) → eqb last 33 ≡ t → (t || eqb last 7) ≡ true → last ≤ 33
    split true a e = omega (arith, eqb-true last 33 a)
    split false a e = omega (arith, eqb-true last 7 e)

pub few_rounds : (q : Party) → Sound q → q.round ≤ 36
few_rounds q h = split (clears q.search) refl
  where
    split : (t : Bool) → clears q.search ≡ t → q.round ≤ 36
    split true c = (h.round.opening c).1
    split false c = omega (arith, h.round.probing c, last_most q.last h.way)

-- ---- until the session is over

module _ (q : Party) (h : Sound q) (on : ended q ≡ false) where
  -- a probe is on up to round 33
  pub probe_on : q.round ≤ 33 → finished q.search ≡ false
  unfolding ended
  probe_on l = split (clears q.search) refl on
    where
      split : (t : Bool) → clears q.search ≡ t → cond t (eqb q.round 36) (finished q.search) ≡ false → finished q.search ≡ false
      split true c e = absurd (omega (arith, h.round.opening c))
      split false c e = e

  -- and later a total is opened
  pub total_on : 33 < q.round → (clears q.search ≡ true) × (34 ≤ q.round) × (q.round ≤ 35)
  unfolding ended
  total_on l = split (clears q.search) refl on
    where
      split : (t : Bool) → clears q.search ≡ t → cond t (eqb q.round 36) (finished q.search) ≡ false
          → (clears q.search ≡ true) × (34 ≤ q.round) × (q.round ≤ 35)
      split true c e =
          let other = eqb-false q.round 36 e in
          (c, l, omega (arith, (h.round.opening c).1, other))
      split false c e = absurd (omega (arith, h.round.probing c, last_most q.last h.way))

-- where the searches go on, so does the session
pub going_on : (q : Party) → finished q.search ≡ false → ended q ≡ false
unfolding ended
going_on q f = rw (going_clears q.search f, f)

-- "At most 1,000 bids are held"
pub few_bids : (q : Party) → Sound q → q.bids ≤ 1000
few_bids q h = omega (arith, h.bids, marks_most q.roll h.roll)

-- with 1,000 held every bidder is in
pub house_full : (q : Party) → Sound q → q.bids ≡ 1000 → (b : ℕ) → 1 ≤ b → b ≤ 1000 → marked q.roll b ≡ true
house_full q h e = all_marked q.roll h.roll (sym h.bids ∙ e)

-- at most 11 probes of a search, and 22 of both
pub limit_most : (k : ℕ) → k ≤ 1024 → limit k ≤ 11
limit_most k h = limit_least k 11 (omega arith)

pub sheets_most : (k : ℕ) → k ≤ 1024 → most_probes k ≤ 22
unfolding most_probes
sheets_most k h = omega (arith, limit_most k h)
