-- The rounds of a probe: the first, the levels and the last, each for all parties at once. Assumes nothing.
use Rattle.std.specs.Prelude.{Some}
use mathlib.Core.Path.{◌≡◌, refl, sym, ap, ap₂, subst, ◌∙◌}
use mathlib.Core.Bool.{Bool, true, false, cond, not, ◌&&◌}
use mathlib.Core.List.{List, [], ◌∷◌, map}
use Prim.Native.Nat.{ℕ, zero, suc, ◌+◌, ◌-◌, ◌*◌, ◌/◌, ◌%◌, ◌^◌, ◌≤◌, ◌<◌}
use native.Mathlib.Omega.{arith}
use lib.Dec.{leb, ltb, eqb}
use lib.ListN.{length, drop, get_or, length-map, get_or-map}
use lib.Seq.{ext_get_or}
use borrow.Author.Tests.{lt-ltb, eq-eqb, ne_eqb, lt-leb, le-leb, le-ltb}
use Rattle.fields.specs.Field.{Field}
use Rattle.fields.specs.Amount.{p, amounts}
use Rattle.fields.specs.Byte.{bytes}
use Rattle.sharing.specs.Polynomial.{value}
use Rattle.sharing.specs.Scheme.{threshold, points}
use Rattle.ranges.specs.Lists.{from, every}
use Rattle.ranges.proofs.Loops.{and_false}
use Rattle.weights.specs.Rows.{Scheme, byte_scheme}
use Rattle.openings.proofs.Laws.{Fits, amount_fits, byte_fits}
use Rattle.present_openings.specs.Present.{opened_by}
use Rattle.present_openings.proofs.Laws.{opens_by}
use Rattle.verdict.specs.Verdict.{verdict}
use Rattle.search.specs.declared.searches.Search.{Search}
use Rattle.search.specs.Bracket.{middle}
use Rattle.search.specs.Searches.{side, next, finished}
use Rattle.search.proofs.Sides.{side_map}
use Rattle.search.proofs.Bounds as searches
use Rattle.ways.specs.Way.{Way, chain, tree, way_of, levels_of, triples_of, width}
use Rattle.comparison.specs.Local.{on_shares}
use Rattle.comparison.specs.Rounds.{both, masked, first_carry, left, right, next_carry, last}
use Rattle.comparison.specs.Pairs.{Sides}
use Rattle.comparison.specs.Probe.{SheetCoins, SheetInRange, sheet_polynomials, sheet_shares, Probe, secret, opened, side_word, sum_polynomial, opened_sum, last_polynomial, probe_messages}
use Rattle.comparison.proofs.Values.{Shared, masked_value}
use Rattle.comparison.proofs.Lists.{each_at}
use Rattle.comparison.proofs.Dealt.{ProbeShared, SheetShared, sum_shared}
use Rattle.comparison.proofs.Only.{SidesShared}
use Rattle.comparison.proofs.Levels.{shares_kept}
use Rattle.comparison.proofs.Promise.{Compares, probe_shared, sum_least, sum_most, promised, last_polynomial_shared}
use Rattle.kept_pairs.specs.Pairs.{none, small}
use Rattle.level.specs.Level.{no_pair}
use Rattle.level_round.specs.Columns.{column, column_heard, heard_sides, level_opened, level_sides}
use Rattle.level_round.proofs.Laws.{sides_length, sides_at}
use Rattle.round.specs.declared.Heard.{Heard}
use Rattle.round.specs.declared.Heard.TheVariants.{Sum, Factors, Verdict, Unopened}
use Rattle.message.specs.Message.{demand_share, supply_share, in_level, message}
use Rattle.round.specs.Round.{heard, unopened}
use Rattle.record.specs.declared.Party.{Party}
use Rattle.record.specs.Updates.{in_round, decided}
use Rattle.stepping.specs.After.{after, after_level}
use Rattle.message.proofs.Messages.{first_single, product_single, last_single, level_message, single_message}
use Rattle.round.proofs.Opened.{sum_heard, factors_heard, verdict_heard}
use Rattle.listening.specs.Listen.{opening}
use Rattle.heard_round.specs.Next.{heard_next}
use Rattle.listening.proofs.Laws.{level_opening}
use Rattle.heard_round.proofs.Left.{level_next}
use Rattle.auction.specs.Auction.{Auction, IsAuction, left_side, right_side}
use Rattle.auction.specs.Coins.{Coins, InRange}
use Rattle.auction.specs.Attendance.{Enough}
use Rattle.auction.proofs.Closed.{at_party, polynomials, demand_at, supply_at, probe_at, probe_of, carry_at, pairs_at, no_words, none_small, Stage, fresh_stage, inner_stage, decided_stage, record_at}
use Rattle.auction.proofs.Calls.{map_points, map_through}
use Rattle.auction.proofs.Sheets.{mask_word, bit_word, alpha_word, beta_word, gamma_word, byte_below}
use Rattle.auction.proofs.Kept.{level_at, level_said, last_said, level_shared, level_long, level_width, last_is, last_words}
use Rattle.auction.proofs.Chained as chained
use Rattle.auction.proofs.Chained.{product_at}
use Rattle.auction.proofs.Treed as treed
use Rattle.auction.proofs.Comparing.{compares}
use Rattle.auction.proofs.Step.{Hearable, Step, wide, word_of, column_said, step_of, single_step}
use Rattle.auction.proofs.Placed.{probe_turn, InProbe, coins_ranged, probed_demand, probed_supply, probe_placed}

-- ---- what is shared opens

module _ {S : Scheme} {F : Field} (fits : Fits S F) where
  pub shared_opens : (n : ℕ) (cs present : List ℕ) → 3 ≤ n → n ≤ 9 → Shared F.size (threshold n) cs → Enough n present
      → opened_by S n present (map (value F.ops cs) (points n)) ≡ Some (secret cs)
  shared_opens n [] present h3 h9 h E = absurd (omega arith)
  shared_opens n (s ∷ cs) present h3 h9 h E = opens_by fits n s cs present h3 h9 h.1.0 h.1.1 (omega arith) E.long E.many

-- ---- the same words, the same message

masked_same : {m m' d d' s s' : ℕ} → m ≡ m' → d ≡ d' → s ≡ s' → masked (on_shares amounts) m d s ≡ masked (on_shares amounts) m' d' s'
masked_same e f g = cc

next_same : (T i D E : ℕ) {a a' b b' g g' : ℕ} → a ≡ a' → b ≡ b' → g ≡ g'
    → next_carry (on_shares bytes) T i D E a b g ≡ next_carry (on_shares bytes) T i D E a' b' g'
next_same T i D E e f h = cc

pub low_part : (d e : ℕ) → d < 256 → both d e % 256 ≡ d
low_part d e h = omega arith

pub high_part : (d e : ℕ) → d < 256 → both d e / 256 ≡ e
high_part d e h = omega arith

verdict_most : (d s : ℕ) → verdict d s ≤ 1
unfolding verdict
verdict_most d s = split (leb s d)
  where
    split : (t : Bool) → cond t 1 0 ≤ 1
    split true = omega arith
    split false = omega arith

-- ---- what is not kept

nothing_is : (q : Probe) (i j : ℕ) → carry_at tree q i j ≡ 0
unfolding carry_at
nothing_is q i j = refl

nothing_kept : (q : Probe) (i j : ℕ) → carry_at tree q i j ≤ 255
nothing_kept q i j = omega (arith, nothing_is q i j)

no_pairs : (q : Probe) (i j : ℕ) → small (record { words = pairs_at chain q i j }) ≡ true
unfolding pairs_at
no_pairs q i j = none_small

none_at_first : (v : Way) (q : Probe) (j : ℕ) → pairs_at v q 0 j ≡ no_words
unfolding pairs_at
none_at_first chain q j = refl
none_at_first tree q j = refl

none_later : (q : Probe) (i k j : ℕ) → pairs_at chain q i j ≡ pairs_at chain q k j
unfolding pairs_at
none_later q i k j = refl

every_none : (f : ℕ → Bool) (a : ℕ) → every f (from a 0) ≡ true
unfolding every from
every_none f a = refl

every_one : (f : ℕ → Bool) (a m : ℕ) → f a ≡ true → every f (from (suc a) m) ≡ true → every f (from a (suc m)) ≡ true
unfolding every from
every_one f a m h k = ap₂ ◌&&◌ h k

every_below : (f : ℕ → Bool) (n : ℕ) → ((i : ℕ) → i < n → f i ≡ true) → every f (from 0 n) ≡ true
every_below f n h = go 0 n (λ i l k. h i (omega arith))
  where
    go : (a m : ℕ) → ((i : ℕ) → a ≤ i → i < a + m → f i ≡ true) → every f (from a m) ≡ true
    go a zero g = every_none f a
    go a (suc m) g = every_one f a m (g a (omega arith) (omega arith)) (go (suc a) m (λ i x y. g i (omega arith) (omega arith)))

-- ---- whether a round is a level

pub early : (q : Party) → q.round ≡ 1 → in_level q ≡ false
early q e = and_false (eqb q.last 7) (leb 2 q.round && leb q.round 6) (ap (λ (r : ℕ). leb 2 r && leb r 6) e)

pub late : (q : Party) → 6 < q.round → in_level q ≡ false
late q h = and_false (eqb q.last 7) (leb 2 q.round && leb q.round 6) (and_false (leb 2 q.round) (leb q.round 6) (lt-leb q.round 6 h))

in_chain : (q : Party) → q.last ≡ 33 → in_level q ≡ false
in_chain q e = rw (ne_eqb q.last 7 (λ f. omega arith))

in_tree : (q : Party) → q.last ≡ 7 → 2 ≤ q.round → q.round ≤ 6 → in_level q ≡ true
in_tree q e l h = rw (eq-eqb q.last 7 e, le-leb 2 q.round l, le-leb q.round 6 h)

-- ---- the stages of a probe

-- before round i + 1
abbrev pub stage_of : Way → Search → Probe → ℕ → Stage
stage_of v here q zero = fresh_stage here
stage_of v here q (suc i) = inner_stage v here q i

-- party j's words in round i + 1
abbrev pub words_at : Way → Probe → ℕ → ℕ → List ℕ
words_at v q i j = get_or (probe_messages v q j) i []

-- and what all words open to; a level as a whole opens or does not
unfoldable pub level_heard : Way → Probe → ℕ → Heard
level_heard chain q i = Factors (secret (product_at q i).left) (secret (product_at q i).right)
level_heard tree q i = Factors 0 0

unfoldable pub opening_at : Way → Probe → ℕ → Heard
opening_at v q zero = Sum (opened_sum q)
opening_at v q (suc i) = cond (ltb i (levels_of v)) (level_heard v q i) (Verdict (secret (last_polynomial v q)))

pub opening_level : (v : Way) (q : Probe) (i : ℕ) → i < levels_of v → opening_at v q (suc i) ≡ level_heard v q i
unfolding opening_at
opening_level v q i l = rw (lt-ltb i (levels_of v) l)

pub opening_last : (v : Way) (q : Probe) → opening_at v q (suc (levels_of v)) ≡ Verdict (secret (last_polynomial v q))
unfolding opening_at
opening_last v q = rw (le-ltb (levels_of v) (levels_of v) (omega arith))

-- a probe is to be made with the sheet s
pub record Ready (a : Auction) (c : Coins) (here : Search) (s : SheetCoins) (ss : List SheetCoins) : Type 0 where
  pub sound : searches.Sound a.k here
  pub going : finished here ≡ false
  pub left : drop here.probes c.sheets ≡ s ∷ ss

module _ (a : Auction) (c : Coins) (A : IsAuction a) (C : InRange a c) (here : Search) (s : SheetCoins)
    (ss : List SheetCoins) (R : Ready a c here s ss) where
  abbrev t : ℕ
  t = threshold a.n

  abbrev q : Probe
  q = probe_of a (polynomials a c) here s

  abbrev fs : List (List ℕ)
  fs = polynomials a c

  abbrev T : ℕ
  T = opened_sum q

  abbrev way : Way
  way = way_of a.last

  many_rounds : 7 ≤ a.last
  unfolding levels_of
  many_rounds = split way refl
    where
      split : (v : Way) → way ≡ v → 7 ≤ a.last
      split chain e = omega (arith, last_is a.last A.way chain e)
      split tree e = omega (arith, last_is a.last A.way tree e)

  fresh_placed : InProbe a c (fresh_stage here) s ss
  fresh_placed =
      record {
        sane =
            record {
              search = R.sound;
              round = probe_turn here a.last 1 R.going (omega arith) (omega (arith, many_rounds));
              sum = omega arith;
              carry = λ j j1 jn. omega arith;
              pairs = λ j j1 jn. none_small;
              totals = (omega arith, omega arith);
            };
        going = R.going;
        left = R.left;
      }

  ranged : SheetInRange way t s
  ranged = coins_ranged a c A C (fresh_stage here) s ss fresh_placed

  -- the search that is on, the probed index and the two sides there
  abbrev which : ℕ
  which = here.which

  abbrev index : ℕ
  index = middle here.bracket

  abbrev d : ℕ
  d = left_side a which index

  abbrev e : ℕ
  e = right_side a which index

  pub comparing : Compares way t d e s q
  comparing =
      let F = searches.probing a.k here R.sound R.going in
      compares a c A C index F.index_least F.index_most which s ranged

  pub shared : ProbeShared way t q
  shared = probe_shared way t d e s q comparing

  least_sum : 2 ^ 58 + 2 ≤ T
  least_sum = sum_least way t d e s q comparing

  most_sum : T ≤ 2 ^ 59 + 2 ^ 33 - 1
  most_sum = sum_most way t d e s q comparing

  pub verdict_is : secret (last_polynomial way q) ≡ verdict d e
  verdict_is = promised way t d e s q comparing

  -- ---- by the way

  module _ (v : Way) (is : way ≡ v) where
    shared_as : ProbeShared v t q
    shared_as = subst (λ (w : Way). ProbeShared w t q) is shared

    sheet_as : SheetShared v t (sheet_polynomials s)
    unfolding probe_at
    sheet_as = shared_as.sheet

    last_as : a.last ≡ levels_of v + 2
    last_as = last_is a.last A.way v is

    sum_as : Shared p t (sum_polynomial q)
    sum_as = sum_shared v t q shared_as

    last_shared : Shared 256 t (last_polynomial v q)
    last_shared = subst (λ (w : Way). Shared 256 t (last_polynomial w q)) is (last_polynomial_shared way t d e s q comparing)

    verdict_as : secret (last_polynomial v q) ≡ verdict d e
    verdict_as = subst (λ (w : Way). secret (last_polynomial w q) ≡ verdict d e) is verdict_is

  carry_small : (v : Way) → way ≡ v → (i : ℕ) → i ≤ levels_of v → (j : ℕ) → 1 ≤ j → j ≤ a.n → carry_at v q i j ≤ 255
  unfolding levels_of
  carry_small chain is i l j j1 jn = omega (arith, chained.carry_byte t q (shared_as chain is) j (omega (arith, A.n_most)) i l)
  carry_small tree is i l j j1 jn = tree_zero
    where
      tree_zero : carry_at tree q i j ≤ 255
      tree_zero = nothing_kept q i j

  pairs_small : (v : Way) → way ≡ v → (i j : ℕ) → 1 ≤ j → j ≤ a.n → small (record { words = pairs_at v q i j }) ≡ true
  pairs_small chain is i j j1 jn = no_pairs q i j
  pairs_small tree is i j j1 jn = treed.pairs_small t q (shared_as tree is) j (omega (arith, A.n_most)) i

  inner_placed : (v : Way) → way ≡ v → (i : ℕ) → i ≤ levels_of v → InProbe a c (inner_stage v here q i) s ss
  inner_placed v is i l =
      record {
        sane =
            record {
              search = R.sound;
              round = probe_turn here a.last (i + 2) R.going (omega arith) (omega (arith, last_as v is));
              sum = omega (arith, most_sum);
              carry = carry_small v is i l;
              pairs = pairs_small v is i;
              totals = (omega arith, omega arith);
            };
        going = R.going;
        left = R.left;
      }

  -- ---- round 1

  first_says : (v : Way) → way ≡ v → (j : ℕ) → 1 ≤ j → j ≤ a.n
      → message (record_at a c (fresh_stage here) j) (at_party j (polynomials a c)) (sheet_shares j (sheet_polynomials s)) ≡ words_at v q 0 j
  unfolding record_at probe_at sum_polynomial probe_messages
  first_says v is j j1 jn =
      single_message (record_at a c (fresh_stage here) j) (at_party j fs) (sheet_shares j (sheet_polynomials s)) (early (record_at a c (fresh_stage here) j) refl)
      ∙ ap (λ (x : ℕ). x ∷ [])
      (first_single (record_at a c (fresh_stage here) j) (at_party j (polynomials a c)) (sheet_shares j (sheet_polynomials s)) refl
      ∙ masked_same (mask_word v t j (sheet_polynomials s) (sheet_as v is)) (sided _ _ demand supply) (sided _ _ supply demand)
      ∙ sym
      (masked_value t j (sheet_polynomials s).mask (side which (demand_at a fs index) (supply_at a fs index))
      (side which (supply_at a fs index) (demand_at a fs index)) (sheet_as v is).mask comparing.demand_shared comparing.supply_shared
      (omega (arith, A.n_most))))
    where
      demand : demand_share (record_at a c (fresh_stage here) j) (at_party j fs) ≡ value amounts (demand_at a fs index) j
      demand = probed_demand a c A C (fresh_stage here) s ss fresh_placed j

      supply : supply_share (record_at a c (fresh_stage here) j) (at_party j fs) ≡ value amounts (supply_at a fs index) j
      supply = probed_supply a c A C (fresh_stage here) s ss fresh_placed j

      sided : {x y : ℕ} (f g : List ℕ) → x ≡ value amounts f j → y ≡ value amounts g j → side which x y ≡ value amounts (side which f g) j
      sided f g p r = ap₂ (side which) p r ∙ side_map (λ h. value amounts h j) which f g

  first_opens : (v : Way) → way ≡ v → (present : List ℕ) → Enough a.n present → heard a.n (cond (eqb 1 a.last) 33 1) present (map (word_of (words_at v q 0) 0) (points a.n)) ≡ Sum T
  unfolding probe_messages
  first_opens v is present E =
      ap (λ (b : Bool). heard a.n (cond b 33 1) present (map (word_of (words_at v q 0) 0) (points a.n))) (ne_eqb 1 a.last (λ f. omega (arith, many_rounds)))
      ∙ sum_heard a.n present (map (word_of (words_at v q 0) 0) (points a.n)) T
      (shared_opens amount_fits a.n (sum_polynomial q) present A.n_least A.n_most (sum_as v is) E)

  first_carry_is : (v : Way) → way ≡ v → (j : ℕ) → 1 ≤ j → j ≤ a.n
      → cond (eqb a.last 7) 0 (first_carry (on_shares bytes) T (get_or (sheet_shares j (sheet_polynomials s)) 1 0)) ≡ carry_at v q 0 j
  unfolding levels_of probe_at
  first_carry_is chain is j j1 jn =
      ap (λ (b : Bool). cond b 0 (first_carry (on_shares bytes) T (get_or (sheet_shares j (sheet_polynomials s)) 1 0))) (ne_eqb a.last 7 (λ f. omega (arith, last_as chain is)))
      ∙ ap (first_carry (on_shares bytes) T) (bit_word chain t j (sheet_polynomials s) (sheet_as chain is) 0 (omega arith))
      ∙ sym (chained.carry_first t q (shared_as chain is) j (omega (arith, A.n_most)))
  first_carry_is tree is j j1 jn =
      ap (λ (b : Bool). cond b 0 (first_carry (on_shares bytes) T (get_or (sheet_shares j (sheet_polynomials s)) 1 0))) (eq-eqb a.last 7 (last_as tree is))
      ∙ sym (nothing_is q 0 j)

  first_turns : (v : Way) → way ≡ v → (j : ℕ) → 1 ≤ j → j ≤ a.n
      → after (record_at a c (fresh_stage here) j) (sheet_shares j (sheet_polynomials s)) (Sum T) ≡ record_at a c (inner_stage v here q 0) j
  unfolding record_at after in_round
  first_turns v is j j1 jn = rw (first_carry_is v is j j1 jn, none_at_first v q j)

  early_at : (j : ℕ) → in_level (record_at a c (fresh_stage here) j) ≡ false
  unfolding record_at
  early_at j = early (record_at a c (fresh_stage here) j) refl

  pub first_step : (v : Way) → way ≡ v → Step a c (fresh_stage here) (inner_stage v here q 0) (words_at v q 0) (opening_at v q 0)
  unfolding opening_at
  first_step v is =
      single_step a c A C (fresh_stage here) _ (probe_placed a c A C (fresh_stage here) s ss fresh_placed) early_at (inner_stage v here q 0) (words_at v q 0) (Sum T)
      (first_says v is) (first_opens v is) (least_sum, most_sum) (first_turns v is)

  -- ---- what a product opens to

  -- a part of the words, which is what the parties have of cs
  part_opens : (w : ℕ → ℕ) (part : ℕ → ℕ) (cs : List ℕ) → ((j : ℕ) → 1 ≤ j → j ≤ a.n → part (w j) ≡ value bytes cs j) → Shared 256 t cs
      → (present : List ℕ) → Enough a.n present
      → opened_by byte_scheme a.n present (map part (map w (points a.n))) ≡ Some (secret cs)
  part_opens w part cs is h present E =
      ap (opened_by byte_scheme a.n present) (map_through part w (value bytes cs) a.n is)
      ∙ shared_opens byte_fits a.n cs present A.n_least A.n_most h E

  sides_open : (w : ℕ → ℕ) (r : Sides (List ℕ)) → SidesShared t r → ((j : ℕ) → 1 ≤ j → j ≤ a.n → w j ≡ side_word j r) → (round : ℕ) → 2 ≤ round → round ≤ 32
      → (present : List ℕ) → Enough a.n present
      → heard a.n round present (map w (points a.n)) ≡ Factors (secret r.left) (secret r.right)
  sides_open w r h is round l m present E =
      factors_heard a.n present (map w (points a.n)) round (secret r.left) (secret r.right) l m
      (part_opens w (λ w. w % 256) r.left low_is h.left present E)
      (part_opens w (λ w. w / 256) r.right high_is h.right present E)
    where
      left_below : (j : ℕ) → 1 ≤ j → j ≤ a.n → value bytes r.left j < 256
      left_below j j1 jn = byte_below j (omega (arith, A.n_most)) r.left h.left.1

      low_is : (j : ℕ) → 1 ≤ j → j ≤ a.n → w j % 256 ≡ value bytes r.left j
      low_is j j1 jn = ap (λ (x : ℕ). x % 256) (is j j1 jn) ∙ low_part (value bytes r.left j) (value bytes r.right j) (left_below j j1 jn)

      high_is : (j : ℕ) → 1 ≤ j → j ≤ a.n → w j / 256 ≡ value bytes r.right j
      high_is j j1 jn = ap (λ (x : ℕ). x / 256) (is j j1 jn) ∙ high_part (value bytes r.left j) (value bytes r.right j) (left_below j j1 jn)

  abbrev none_said : Sides (List ℕ)
  none_said = record { left = []; right = [] }

  -- product m of level i
  word_is : (v : Way) → way ≡ v → (i : ℕ) → i < levels_of v → (m : ℕ) → m < length (level_at v q i) → (j : ℕ)
      → word_of (words_at v q (suc i)) m j ≡ side_word j (get_or (level_at v q i) m none_said)
  unfolding value
  word_is v is i l m h j =
      ap (λ (ws : List ℕ). get_or ws m 0) (level_said v t q (shared_as v is) j i l)
      ∙ get_or-map (side_word j) (level_at v q i) m none_said

  product_opens : (v : Way) → (is : way ≡ v) → (i : ℕ) → i < levels_of v → i < 31 → (m : ℕ) → m < length (level_at v q i)
      → (present : List ℕ) → Enough a.n present
      → heard a.n (i + 2) present (map (word_of (words_at v q (suc i)) m) (points a.n))
      ≡ Factors (secret (get_or (level_at v q i) m none_said).left) (secret (get_or (level_at v q i) m none_said).right)
  product_opens v is i l l' m h present E =
      sides_open (word_of (words_at v q (suc i)) m) (get_or (level_at v q i) m none_said)
      (each_at (SidesShared t) (level_at v q i) m none_said (level_shared v t q (shared_as v is) i l) h)
      (λ j j1 jn. word_is v is i l m h j) (i + 2) (omega arith) (omega arith) present E

  -- ---- rounds 2 to 32

  module _ (is : way ≡ chain) (i : ℕ) (l : i < 31) where
    abbrev now : Stage
    now = inner_stage chain here q i

    thirty_three : a.last ≡ 33
    unfolding levels_of
    thirty_three = last_as chain is

    chain_not : (j : ℕ) → in_level (record_at a c now j) ≡ false
    unfolding record_at
    chain_not j = in_chain (record_at a c now j) thirty_three

    module _ (j : ℕ) (j1 : 1 ≤ j) (jn : j ≤ a.n) where
      abbrev W : List ℕ
      W = sheet_shares j (sheet_polynomials s)

      abbrev small_j : j < 10
      small_j = omega (arith, A.n_most)

      abbrev r : Sides (List ℕ)
      r = product_at q i

      few : i < triples_of chain
      unfolding triples_of
      few = l

      bit_here : get_or W (i + 2) 0 ≡ value bytes (get_or (sheet_polynomials s).bits (suc i) []) j
      bit_here =
          let e : i + 2 ≡ suc (suc i) = omega arith in
          ap (λ (k : ℕ). get_or W k 0) e ∙ bit_word chain t j (sheet_polynomials s) (sheet_as chain is) (suc i) (omega arith)

      product_says : message (record_at a c now j) (at_party j (polynomials a c)) W ≡ words_at chain q (suc i) j
      unfolding record_at probe_at levels_of
      product_says =
          single_message (record_at a c now j) (at_party j fs) W (in_chain (record_at a c now j) thirty_three)
          ∙ ap (λ (x : ℕ). x ∷ [])
          (product_single (record_at a c now j) (at_party j (polynomials a c)) W (omega arith) (omega arith) (λ f. omega (arith, thirty_three)) (λ f. omega (arith, thirty_three))
          ∙ ap₂ both
          (ap₂ (left (on_shares bytes) T (i + 2)) bit_here (alpha_word chain t j (sheet_polynomials s) (sheet_as chain is) i few))
          (ap (right (on_shares bytes) T (i + 2) (carry_at chain q i j)) (beta_word chain t j (sheet_polynomials s) (sheet_as chain is) i few)))
          ∙ sym (chained.product_words t q (shared_as chain is) j small_j i l)
          ∙ sym (level_said chain t q (shared_as chain is) j i l)

      product_carry_is : carry_at chain q (suc i) j
          ≡ next_carry (on_shares bytes) T (i + 2) (secret r.left) (secret r.right) (get_or W (34 + 3 * (i + 2 - 2) + 0) 0)
          (get_or W (34 + 3 * (i + 2 - 2) + 1) 0) (get_or W (34 + 3 * (i + 2 - 2) + 2) 0)
      unfolding probe_at
      product_carry_is =
          chained.carry_next t q (shared_as chain is) j small_j i l
          ∙ next_same T (i + 2) (secret r.left) (secret r.right) (sym (alpha_word chain t j (sheet_polynomials s) (sheet_as chain is) i few))
          (sym (beta_word chain t j (sheet_polynomials s) (sheet_as chain is) i few)) (sym (gamma_word chain t j (sheet_polynomials s) (sheet_as chain is) i few))

      product_turns : after (record_at a c now j) W (Factors (secret r.left) (secret r.right)) ≡ record_at a c (inner_stage chain here q (suc i)) j
      unfolding record_at after in_round
      product_turns =
          let e : suc i + 2 ≡ i + 2 + 1 = omega arith in
          rw (product_carry_is, e, none_later q (suc i) i j)

    chain_opens : (present : List ℕ) → Enough a.n present
        → heard a.n (cond (eqb (i + 2) a.last) 33 (i + 2)) present (map (word_of (words_at chain q (suc i)) 0) (points a.n))
        ≡ Factors (secret (product_at q i).left) (secret (product_at q i).right)
    unfolding levels_of
    chain_opens present E =
        ap (λ (b : Bool). heard a.n (cond b 33 (i + 2)) present (map (word_of (words_at chain q (suc i)) 0) (points a.n))) (ne_eqb (i + 2) a.last (λ f. omega (arith, thirty_three)))
        ∙ product_opens chain is i l l 0 (omega (arith, ap length (chained.one_product t q (shared_as chain is) i l))) present E

    chain_step : Step a c now (inner_stage chain here q (suc i)) (words_at chain q (suc i)) (opening_at chain q (suc i))
    unfolding levels_of level_heard
    chain_step =
        rw (opening_level chain q i l)
        (single_step a c A C now _ (probe_placed a c A C now s ss (inner_placed chain is i (omega arith))) chain_not (inner_stage chain here q (suc i)) (words_at chain q (suc i))
        (Factors (secret (product_at q i).left) (secret (product_at q i).right)) product_says chain_opens tt product_turns)

  -- ---- levels

  module _ (is : way ≡ tree) (i : ℕ) (l : i < 5) where
    abbrev level : Stage
    level = inner_stage tree here q i

    seven : a.last ≡ 7
    unfolding levels_of
    seven = last_as tree is

    tree_in : (j : ℕ) → in_level (record_at a c level j) ≡ true
    unfolding record_at
    tree_in j = in_tree (record_at a c level j) seven (omega arith) (omega arith)

    many_products : length (level_at tree q i) ≡ width tree (i + 2)
    unfolding levels_of
    many_products = level_long tree t q (shared_as tree is) i l ∙ level_width tree i l

    wide_is : wide a level ≡ width tree (i + 2)
    wide_is = ap (λ (v : Way). width v (i + 2)) is

    abbrev opened_at : ℕ → Sides ℕ
    opened_at m = opened (get_or (level_at tree q i) m none_said)

    module _ (messages present : List ℕ) (H : Hearable a.n (wide a level) (words_at tree q (suc i)) messages present) where
      column_opens : (m : ℕ) → m < width tree (i + 2) → column_heard a.n (i + 2) present messages m ≡ Factors (opened_at m).left (opened_at m).right
      unfolding column_heard levels_of
      column_opens m h =
          ap (λ (k : ℕ). heard a.n (i + 2) present (column a.n k m messages)) (sym wide_is)
          ∙ column_said a.n (wide a level) (words_at tree q (suc i)) messages present H (i + 2) m (omega (arith, wide_is))
          ∙ product_opens tree is i l (omega arith) m (omega (arith, many_products)) present H.enough

      all_open : level_opened a.n (i + 2) present messages ≡ true
      unfolding level_opened
      all_open = every_below (λ m. not (unopened (column_heard a.n (i + 2) present messages m))) (width tree (i + 2)) (λ m h. ap (λ (o : Heard). not (unopened o)) (column_opens m h))

      sides_are : level_sides a.n (i + 2) present messages ≡ map opened (level_at tree q i)
      unfolding column_heard
      sides_are =
          ext_get_or (record { left = 0; right = 0 }) (level_sides a.n (i + 2) present messages) (map opened (level_at tree q i))
          (sides_length a.n (i + 2) present messages ∙ sym (length-map (level_at tree q i) opened ∙ many_products))
          (λ m h.
          let k : m < width tree (i + 2) = omega (arith, sides_length a.n (i + 2) present messages) in
          sides_at a.n (i + 2) present messages m k ∙ ap heard_sides (column_opens m k)
          ∙ sym (get_or-map opened (level_at tree q i) m none_said))

      module _ (j : ℕ) (j1 : 1 ≤ j) (jn : j ≤ a.n) where
        tree_opens : opening (record_at a c level j) present messages ≡ Factors 0 0
        unfolding record_at
        tree_opens =
            level_opening (record_at a c level j) messages present (tree_in j)
            ∙ ap (λ (b : Bool). cond b (Factors 0 0) Unopened) all_open

        tree_turns : heard_next (record_at a c level j) (sheet_shares j (sheet_polynomials s)) messages present ≡ record_at a c (inner_stage tree here q (suc i)) j
        unfolding record_at after_level in_round probe_at
        tree_turns =
            let e : suc i + 2 ≡ i + 2 + 1 = omega arith in
            level_next (record_at a c level j) (sheet_shares j (sheet_polynomials s)) messages present (tree_in j)
            ∙ rw (sides_are, treed.tree_next t q (shared_as tree is) j (omega (arith, A.n_most)) i l, e, nothing_is q i j, nothing_is q (suc i) j)

    tree_says : (j : ℕ) → 1 ≤ j → j ≤ a.n → message (record_at a c level j) (at_party j fs) (sheet_shares j (sheet_polynomials s)) ≡ words_at tree q (suc i) j
    unfolding record_at probe_at levels_of
    tree_says j j1 jn =
        level_message (record_at a c level j) (at_party j fs) (sheet_shares j (sheet_polynomials s)) (tree_in j)
        ∙ treed.tree_words t q (shared_as tree is) j (omega (arith, A.n_most)) i l
        ∙ sym (level_said tree t q (shared_as tree is) j i l)

    tree_step : Step a c level (inner_stage tree here q (suc i)) (words_at tree q (suc i)) (opening_at tree q (suc i))
    unfolding levels_of level_heard
    tree_step =
        rw (opening_level tree q i l)
        (step_of a c A C level _ (probe_placed a c A C level s ss (inner_placed tree is i (omega arith))) (inner_stage tree here q (suc i)) (words_at tree q (suc i))
        (Factors 0 0) tree_says tree_opens tt tree_turns)

  pub product_step : (v : Way) → way ≡ v → (i : ℕ) → i < levels_of v
      → Step a c (inner_stage v here q i) (inner_stage v here q (suc i)) (words_at v q (suc i)) (opening_at v q (suc i))
  unfolding levels_of
  product_step chain is i l = chain_step is i l
  product_step tree is i l = tree_step is i l

  -- ---- the last round

  carry_last : (v : Way) → way ≡ v → (j : ℕ) → 1 ≤ j → j ≤ a.n
      → cond (eqb a.last 7) (get_or (pairs_at v q (levels_of v) j) 1 0) (carry_at v q (levels_of v) j) ≡ (get_or (shares_kept v q j (levels_of v)) 0 no_pair).bottom
  unfolding levels_of carry_at
  carry_last chain is j j1 jn =
      ap (λ (b : Bool). cond b (get_or (pairs_at chain q 31 j) 1 0) (carry_at chain q 31 j)) (ne_eqb a.last 7 (λ f. omega (arith, last_as chain is)))
  carry_last tree is j j1 jn =
      ap (λ (b : Bool). cond b (get_or (pairs_at tree q 5 j) 1 0) (carry_at tree q 5 j)) (eq-eqb a.last 7 (last_as tree is))
      ∙ treed.last_bottom t q (shared_as tree is) j (omega (arith, A.n_most))

  module _ (v : Way) (is : way ≡ v) where
    abbrev at_last : Stage
    at_last = inner_stage v here q (levels_of v)

    last_not : (j : ℕ) → in_level (record_at a c at_last j) ≡ false
    unfolding record_at
    last_not j = late (record_at a c at_last j) (omega (arith, many_rounds, last_as v is))

    module _ (j : ℕ) (j1 : 1 ≤ j) (jn : j ≤ a.n) where
      last_says : message (record_at a c at_last j) (at_party j (polynomials a c)) (sheet_shares j (sheet_polynomials s)) ≡ words_at v q (suc (levels_of v)) j
      unfolding record_at probe_at
      last_says =
          single_message (record_at a c at_last j) (at_party j fs) (sheet_shares j (sheet_polynomials s)) (last_not j)
          ∙ ap (λ (x : ℕ). x ∷ [])
          (last_single (record_at a c at_last j) (at_party j (polynomials a c)) (sheet_shares j (sheet_polynomials s)) (λ f. omega arith) (sym (last_as v is))
          ∙ ap₂ (last (on_shares bytes) T) (bit_word v t j (sheet_polynomials s) (sheet_as v is) 32 (omega arith)) (carry_last v is j j1 jn))
          ∙ sym (last_words v t q (shared_as v is) j (omega (arith, A.n_most)))

      last_turns : after (record_at a c at_last j) (sheet_shares j (sheet_polynomials s)) (Verdict (secret (last_polynomial v q)))
          ≡ record_at a c (decided_stage (next here (secret (last_polynomial v q)))) j
      unfolding record_at after decided none no_words
      last_turns = refl

    last_opens : (present : List ℕ) → Enough a.n present
        → heard a.n (cond (eqb (levels_of v + 2) a.last) 33 (levels_of v + 2)) present (map (word_of (words_at v q (suc (levels_of v))) 0) (points a.n)) ≡ Verdict (secret (last_polynomial v q))
    last_opens present E =
        let ws : List ℕ = map (word_of (words_at v q (suc (levels_of v))) 0) (points a.n) in
        ap (λ (b : Bool). heard a.n (cond b 33 (levels_of v + 2)) present ws) (eq-eqb (levels_of v + 2) a.last (sym (last_as v is)))
        ∙ verdict_heard a.n present ws (secret (last_polynomial v q))
        (ap (opened_by byte_scheme a.n present)
        (map_points (word_of (words_at v q (suc (levels_of v))) 0) (value bytes (last_polynomial v q)) a.n (λ j j1 jn. ap (λ (z : List ℕ). get_or z 0 0) (last_said v t q (shared_as v is) j)))
        ∙ shared_opens byte_fits a.n (last_polynomial v q) present A.n_least A.n_most (last_shared v is) E)

    pub last_step : Step a c at_last (decided_stage (next here (secret (last_polynomial v q)))) (words_at v q (suc (levels_of v))) (opening_at v q (suc (levels_of v)))
    last_step =
        rw (opening_last v q)
        (single_step a c A C at_last _ (probe_placed a c A C at_last s ss (inner_placed v is (levels_of v) (omega arith))) last_not
        (decided_stage (next here (secret (last_polynomial v q)))) (words_at v q (suc (levels_of v))) (Verdict (secret (last_polynomial v q))) last_says last_opens
        (rw (verdict_as v is) (verdict_most d e)) last_turns)
