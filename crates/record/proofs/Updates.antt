-- What each update leaves of a record, and when the record stays sound. What is above goes by these laws. Assumes nothing.
use mathlib.Core.Path.{◌≡◌, refl, sym, ◌∙◌}
use mathlib.Core.Bool.{Bool, true, false, cond, ◌||◌, true≢false}
use Prim.Native.Nat.{ℕ, ◌+◌, ◌^◌, ◌≤◌, ◌<◌}
use native.Mathlib.Omega.{arith}
use lib.Dec.{eqb}
use borrow.Author.Tests.{eqb-true}
use Rattle.ranges.specs.Lists.{every}
use Rattle.ranges.specs.Sizes.{party}
use Rattle.ways.specs.Way.{is_way}
use Rattle.kept_pairs.specs.declared.Pairs.{Pairs}
use Rattle.kept_pairs.specs.Pairs.{none, small}
use Rattle.search.specs.declared.searches.Search.{Search}
use Rattle.search.specs.Searches.{first_search, finished, clears}
use Rattle.search.proofs.Bounds as searches
use Rattle.search.proofs.Cleared.{going_clears, first_going}
use Rattle.record.specs.declared.Party.{Party}
use Rattle.record.specs.Record.{are_totals, sound, blank}
use Rattle.record.specs.Updates.{fresh, entered, in_round, decided, totalled}
use Rattle.roll.specs.Marks.{marked}
use Rattle.roll.proofs.Laws.{Free, marked_self, marked_other, marks_mark, mark_swap, proper_mark, proper_empty, marks_empty}
use Rattle.ranges.proofs.Ranges.{OnList}
use Rattle.record.proofs.Soundness.{RoundSound, Sound, totals_facts}

-- whose session it is: no update changes that
pub record Same (q next : Party) : Type 0 where
  pub n : next.n ≡ q.n
  pub own : next.own ≡ q.own
  pub k : next.k ≡ q.k

-- the searches have the room that they need. Every run keeps this; an arbitrary sound record need not
abbrev pub Roomy : Party → Type 0
Roomy q = searches.Roomy q.k q.search

-- no kept pair is above 255, and a probe has a round
none_small : small none ≡ true
unfolding small none every
none_small = refl

last_least : (last : ℕ) → is_way last ≡ true → 1 ≤ last
unfolding is_way
last_least last e = split (eqb last 33) refl e
  where
    split : (t : Bool) → eqb last 33 ≡ t → (t || eqb last 7) ≡ true → 1 ≤ last
    split true a e = omega (arith, eqb-true last 33 a)
    split false a e = omega (arith, eqb-true last 7 e)

-- ---- the record that a session starts with

module _ (n own k last : ℕ) where
  pub fresh_sound : OnList n own k → is_way last ≡ true → Sound (fresh n own k last)
  unfolding fresh
  fresh_sound h w =
      record {
        listed = h;
        search = searches.roomy_sound k (first_search k) (searches.roomy_start k h.prices_least);
        round = record { least = omega arith; probing = λ c. last_least last w; opening = λ c. absurd (true≢false (sym c ∙ going_clears (first_search k) (first_going k))) };
        sum = omega arith;
        carry = omega arith;
        roll = proper_empty;
        bids = sym marks_empty;
        totals = (omega arith, omega arith);
        way = w;
        pairs = none_small;
      }

-- before the first verdict the searches have the room that they need
pub roomy_first : (q : Party) → Sound q → q.search.probes ≡ 0 → Roomy q
roomy_first q s none = searches.sound_roomy q.k q.search none s.search

-- and where no session is opened
pub blank_unsound : sound blank ≡ false
unfolding sound party
blank_unsound = refl

-- ---- one bid more: its bidder is in, and the search stands where it did

module _ (q : Party) (bidder : ℕ) where
  pub entered_same : Same q (entered q bidder)
  unfolding entered
  entered_same = record { n = refl; own = refl; k = refl }

  pub entered_bids : (entered q bidder).bids ≡ q.bids + 1
  unfolding entered
  entered_bids = refl

  pub entered_search : (entered q bidder).search ≡ q.search
  unfolding entered
  entered_search = refl

  pub entered_round : (entered q bidder).round ≡ q.round
  unfolding entered
  entered_round = refl

  pub roomy_entered : Roomy q → Roomy (entered q bidder)
  unfolding entered
  roomy_entered h = h

  module _ (s : Sound q) (free : Free q.roll bidder) where
    pub bidder_marked : marked (entered q bidder).roll bidder ≡ true
    unfolding entered
    bidder_marked = marked_self q.roll s.roll bidder free

    -- and no other mark changed
    pub others_kept : (c : ℕ) → (c ≡ bidder → ⊥) → marked (entered q bidder).roll c ≡ marked q.roll c
    unfolding entered
    others_kept = marked_other q.roll s.roll bidder free

    pub entered_sound : Sound (entered q bidder)
    unfolding entered
    entered_sound =
        record {
          listed = s.listed;
          search = s.search;
          round = s.round;
          sum = s.sum;
          carry = s.carry;
          roll = proper_mark q.roll s.roll bidder free;
          bids = omega (arith, s.bids, marks_mark q.roll s.roll bidder free);
          totals = s.totals;
          way = s.way;
          pairs = s.pairs;
        }

-- two bids more, in either order
pub entered_swap : (q : Party) (b c : ℕ) → Sound q → b ≤ 1000 → entered (entered q b) c ≡ entered (entered q c) b
unfolding entered
entered_swap q b c s most = rw (mark_swap q.roll s.roll b c most)

-- ---- a round more: the roll stays

module _ (q : Party) (round sum carry : ℕ) (pairs : Pairs) where
  pub in_round_same : Same q (in_round q round sum carry pairs)
  unfolding in_round
  in_round_same = record { n = refl; own = refl; k = refl }

  pub in_round_roll : (in_round q round sum carry pairs).roll ≡ q.roll
  unfolding in_round
  in_round_roll = refl

  pub in_round_sound : Sound q → finished q.search ≡ false → 1 ≤ round → round ≤ q.last → sum < 2 ^ 59 + 2 ^ 33 → carry ≤ 255 → small pairs ≡ true
      → Sound (in_round q round sum carry pairs)
  unfolding in_round
  in_round_sound s going least most summed carried kept =
      record {
        listed = s.listed;
        search = s.search;
        round = record { least = least; probing = λ c. most; opening = λ c. absurd (true≢false (sym c ∙ going_clears q.search going)) };
        sum = summed;
        carry = carried;
        roll = s.roll;
        bids = s.bids;
        totals = s.totals;
        way = s.way;
        pairs = kept;
      }

  pub roomy_in_round : Roomy q → Roomy (in_round q round sum carry pairs)
  unfolding in_round
  roomy_in_round h = h

-- ---- a verdict: the searches stand elsewhere

module _ (q : Party) (t : Search) where
  pub decided_same : Same q (decided q t)
  unfolding decided
  decided_same = record { n = refl; own = refl; k = refl }

  pub decided_roll : (decided q t).roll ≡ q.roll
  unfolding decided
  decided_roll = refl

  decided_turn : is_way q.last ≡ true → (c : Bool) → clears t ≡ c → RoundSound t q.last (cond c 34 1)
  decided_turn w true e =
      record { least = omega arith; probing = λ f. absurd (true≢false (sym e ∙ f)); opening = λ f. (omega arith, omega arith) }
  decided_turn w false e =
      record { least = omega arith; probing = λ f. last_least q.last w; opening = λ f. absurd (true≢false (sym f ∙ e)) }

  pub decided_sound : Sound q → searches.Sound q.k t → Sound (decided q t)
  unfolding decided
  decided_sound s searched =
      record {
        listed = s.listed;
        search = searched;
        round = decided_turn s.way (clears t) refl;
        sum = omega arith;
        carry = omega arith;
        roll = s.roll;
        bids = s.bids;
        totals = s.totals;
        way = s.way;
        pairs = none_small;
      }

  pub roomy_decided : searches.Roomy q.k t → Roomy (decided q t)
  unfolding decided
  roomy_decided h = h

-- ---- a total: the searches and the roll stay

module _ (q : Party) (total : ℕ) where
  pub totalled_same : Same q (totalled q total)
  unfolding totalled
  totalled_same = record { n = refl; own = refl; k = refl }

  pub totalled_roll : (totalled q total).roll ≡ q.roll
  unfolding totalled
  totalled_roll = refl

  pub totalled_sound : Sound q → clears q.search ≡ true → q.round ≤ 35 → are_totals (totalled q total).demand (totalled q total).supply ≡ true
      → Sound (totalled q total)
  unfolding totalled
  totalled_sound s cleared most fits =
      record {
        listed = s.listed;
        search = s.search;
        round =
            record {
              least = omega arith;
              probing = λ c. absurd (true≢false (sym cleared ∙ c));
              opening = λ c. (omega (arith, (s.round.opening c).0), omega arith);
            };
        sum = s.sum;
        carry = s.carry;
        roll = s.roll;
        bids = s.bids;
        totals = totals_facts _ _ fits;
        way = s.way;
        pairs = s.pairs;
      }

  pub roomy_totalled : Roomy q → Roomy (totalled q total)
  unfolding totalled
  roomy_totalled h = h
