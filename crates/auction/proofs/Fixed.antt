-- The words of those who are present fix the words of all n parties: t + 1 points fix a polynomial of degree at most t. Assumes nothing.
use mathlib.Core.Path.{◌≡◌, refl, sym, ap, ap₂, ◌∙◌}
use mathlib.Core.Logic.{◌⊎◌, inl, inr}
use mathlib.Core.Bool.{Bool, true, false}
use mathlib.Core.List.Memᴰ
use mathlib.Core.List.{List, [], ◌∷◌, ◌++◌, map, flatten}
use Prim.Native.Nat.{ℕ, zero, suc, ◌+◌, ◌-◌, ◌*◌, ◌/◌, ◌%◌, ◌≤◌, ◌<◌}
use native.Mathlib.Nat.{zero-add, suc_inj}
use native.Mathlib.Decide.{dec_lt}
use native.Mathlib.Omega.{arith}
use lib.Dec.{eqb}
use lib.ListN.{length, get_or, get_or-append}
use lib.Seq.{get_or-append-add}
use Rattle.ranges.specs.Lists.{from}
use Rattle.ranges.proofs.Loops.{length_from, map_from, same_from}
use Rattle.fields.specs.Byte.{bytes}
use Rattle.fields.proofs.Fields.{amount_field, byte_field}
use Rattle.sharing.specs.Polynomial.{value}
use Rattle.sharing.specs.Scheme.{threshold, points}
use Rattle.sharing.proofs.Points.{Different}
use Rattle.presence.specs.Presence.{marked, choose, of_present, is_present}
use Rattle.presence.proofs.Laws.{how_many_points}
use Rattle.present_openings.proofs.Points.{zero_choose}
use Rattle.comparison.specs.Rounds.{both}
use mathlib.Core.List.{head-eq_of_cons-eq, tail-eq_of_cons-eq}
use Rattle.ways.specs.Way.{Way, levels_of, last_round}
use Rattle.comparison.specs.Pairs.{Sides}
use Rattle.comparison.proofs.Only.{SidesShared}
use Rattle.comparison.proofs.Values.{Shared, last_shared}
use Rattle.comparison.proofs.Levels.{last_pair_value}
use Rattle.comparison.specs.Probe.{Each, Probe, side_word, opened_sum, last_pair, probe_messages, sum_polynomial, last_polynomial}
use Rattle.comparison.proofs.Dealt.{ProbeShared, sum_shared, bit_at}
use Rattle.comparison.proofs.Agreement.{In, in_below, fixed}
use Rattle.auction.specs.Attendance.{Marks, Enough}
use Rattle.auction.proofs.Closed.{Made, spoken, all_spoken}
use Rattle.auction.proofs.Calls.{map_points}
use Rattle.auction.proofs.Sheets.{byte_below}
use Rattle.auction.proofs.Kept.{level_at, level_said, level_shared, last_said, last_round_is}
use Rattle.auction.proofs.Round.{words_at, low_part, high_part}
use Rattle.auction.proofs.SameSheets.{spoken_long}

-- ---- the points of those who are present

-- one of m parties from a on, whose mark is 1
record Chosen (present : List ℕ) (a m j : ℕ) : Type 0 where
  least : a ≤ j
  most : j < a + m
  here : eqb 1 (get_or present (j - a) 0) ≡ true

in_present : (present : List ℕ) (a m j : ℕ) → In j (choose (marked present) (from a m)) → Chosen present a m j
unfolding from
in_present [] a m j i = absurd (Memᴰ.not-nil i)
in_present (p ∷ ps) a zero j i = absurd (Memᴰ.not-nil i)
in_present (p ∷ ps) a (suc m) j i = go (eqb 1 p) refl (in_present ps (suc a) m j) i
  where
    later : Chosen ps (suc a) m j → Chosen (p ∷ ps) a (suc m) j
    later c =
        let d : suc (j - suc a) ≡ j - a = omega (arith, c.least) in
        record {
          least = omega (arith, c.least);
          most = omega (arith, c.most);
          here = ap (λ (k : ℕ). eqb 1 (get_or (p ∷ ps) k 0)) (sym d) ∙ c.here;
        }

    first : j ≡ a → eqb 1 p ≡ true → Chosen (p ∷ ps) a (suc m) j
    first e h =
        let d : 0 ≡ j - a = omega arith in
        record { least = omega arith; most = omega arith; here = ap (λ (k : ℕ). eqb 1 (get_or (p ∷ ps) k 0)) (sym d) ∙ h }

    go : (b : Bool) → eqb 1 p ≡ b → (In j (choose (marked ps) (from (suc a) m)) → Chosen ps (suc a) m j)
        → In j (choose (b ∷ marked ps) (a ∷ from (suc a) m)) → Chosen (p ∷ ps) a (suc m) j
    go true h rest k = split (Memᴰ.cases_cons k)
      where
        split : (j ≡ a) ⊎ In j (choose (marked ps) (from (suc a) m)) → Chosen (p ∷ ps) a (suc m) j
        split (inl e) = first e h
        split (inr k) = later (rest k)
    go false h rest k = later (rest k)

-- ---- one round

both_low : (d e d' e' : ℕ) → d < 256 → d' < 256 → both d e ≡ both d' e' → d ≡ d'
both_low d e d' e' h h' s = sym (low_part d e h) ∙ ap (λ (x : ℕ). x % 256) s ∙ low_part d' e' h'

both_high : (d e d' e' : ℕ) → d < 256 → d' < 256 → both d e ≡ both d' e' → e ≡ e'
both_high d e d' e' h h' s = sym (high_part d e h) ∙ ap (λ (x : ℕ). x / 256) s ∙ high_part d' e' h'

-- the words of two probes, the same at more than t points
-- the last word's polynomial has degree at most t
last_of : (v : Way) (t : ℕ) (q : Probe) → ProbeShared v t q → Shared 256 t (last_polynomial v q)
unfolding last_polynomial
last_of v t q h =
    last_shared (opened_sum q) 33 t (get_or q.sheet.bits 32 []) (last_pair v q).bottom (bit_at v t q h 32 (omega arith))
    (last_pair_value v t q h 1 (omega arith)).bottom.shared

module _ (v : Way) (t : ℕ) (q q' : Probe) (h : ProbeShared v t q) (h' : ProbeShared v t q') (xs : List ℕ) (D : Different xs) (more : t < length xs) where
  abbrev small : (x : ℕ) → In x xs → x < 10
  small = in_below xs D

  -- somebody is among them
  some_in : (x : ℕ) × In x xs
  some_in = one xs (omega arith)
    where
      one : (ys : List ℕ) → 1 ≤ length ys → (x : ℕ) × In x ys
      one [] l = absurd (omega arith)
      one (y ∷ ys) l = (y, Memᴰ.head refl)

  first_fixed : ((x : ℕ) → In x xs → words_at v q' 0 x ≡ words_at v q 0 x) → (j : ℕ) → words_at v q' 0 j ≡ words_at v q 0 j
  unfolding probe_messages
  first_fixed e j =
      ap (λ (f : List ℕ). value amount_field.ops f j ∷ [])
      (fixed amount_field t xs (sum_polynomial q') (sum_polynomial q) D more (sum_shared v t q' h') (sum_shared v t q h) (λ x m. head-eq_of_cons-eq (e x m)))

  side_fixed : (r r' : Sides (List ℕ)) → SidesShared t r → SidesShared t r' → ((x : ℕ) → In x xs → side_word x r' ≡ side_word x r) → r' ≡ r
  side_fixed r r' S S' said =
      let left : r'.left ≡ r.left =
      fixed byte_field t xs r'.left r.left D more S'.left S.left
      (λ x m. both_low _ _ _ _ (byte_below x (small x m) r'.left S'.left.1) (byte_below x (small x m) r.left S.left.1) (said x m)) in
      let right : r'.right ≡ r.right =
      fixed byte_field t xs r'.right r.right D more S'.right S.right
      (λ x m. both_high _ _ _ _ (byte_below x (small x m) r'.left S'.left.1) (byte_below x (small x m) r.left S.left.1) (said x m)) in
      λ k. record { left = left k; right = right k }

  level_fixed : (ls ls' : List (Sides (List ℕ))) → Each (SidesShared t) ls → Each (SidesShared t) ls'
      → ((x : ℕ) → In x xs → map (side_word x) ls' ≡ map (side_word x) ls) → ls' ≡ ls
  level_fixed [] [] S S' w = refl
  level_fixed [] (l' ∷ ls') S S' w = absurd (omega (arith, ap length (w some_in.0 some_in.1)))
  level_fixed (l ∷ ls) [] S S' w = absurd (omega (arith, ap length (w some_in.0 some_in.1)))
  level_fixed (l ∷ ls) (l' ∷ ls') S S' w =
      ap₂ (λ (z : Sides (List ℕ)) (zs : List (Sides (List ℕ))). z ∷ zs)
      (side_fixed l l' S.0 S'.0 (λ x m. head-eq_of_cons-eq (w x m)))
      (level_fixed ls ls' S.1 S'.1 (λ x m. tail-eq_of_cons-eq (w x m)))

  product_fixed : (i : ℕ) → i < levels_of v → ((x : ℕ) → In x xs → words_at v q' (suc i) x ≡ words_at v q (suc i) x) → (j : ℕ) → words_at v q' (suc i) j ≡ words_at v q (suc i) j
  product_fixed i l e j =
      level_said v t q' h' j i l
      ∙ ap (map (side_word j))
      (level_fixed (level_at v q i) (level_at v q' i) (level_shared v t q h i l) (level_shared v t q' h' i l)
      (λ x m. sym (level_said v t q' h' x i l) ∙ e x m ∙ level_said v t q h x i l))
      ∙ sym (level_said v t q h j i l)

  last_fixed : ((x : ℕ) → In x xs → words_at v q' (suc (levels_of v)) x ≡ words_at v q (suc (levels_of v)) x) → (j : ℕ) → words_at v q' (suc (levels_of v)) j ≡ words_at v q (suc (levels_of v)) j
  last_fixed e j =
      last_said v t q' h' j
      ∙ ap (λ (f : List ℕ). value bytes f j ∷ [])
      (fixed byte_field t xs (last_polynomial v q') (last_polynomial v q) D more (last_of v t q' h') (last_of v t q h)
      (λ x m. head-eq_of_cons-eq (sym (last_said v t q' h' x) ∙ e x m ∙ last_said v t q h x)))
      ∙ sym (last_said v t q h j)

  round_fixed : (i : ℕ) → i < last_round v → ((x : ℕ) → In x xs → words_at v q' i x ≡ words_at v q i x) → (j : ℕ) → words_at v q' i j ≡ words_at v q i j
  round_fixed zero l e j = first_fixed e j
  round_fixed (suc i) l e j =
      elim (dec_lt i (levels_of v)) [
        | yes lt ↦ product_fixed i lt e j
        | no ge ↦ last (omega (arith, last_round_is v))
      ]
    where
      last : i ≡ levels_of v → words_at v q' (suc i) j ≡ words_at v q (suc i) j
      last at =
          let k : suc i ≡ suc (levels_of v) = ap suc at in
          ap (λ (m : ℕ). words_at v q' m j) k
          ∙ last_fixed (λ x m. ap (λ (m : ℕ). words_at v q' m x) (sym k) ∙ e x m ∙ ap (λ (m : ℕ). words_at v q m x) k) j
          ∙ ap (λ (m : ℕ). words_at v q m j) (sym k)

-- ---- all rounds of all probes

module _ (v : Way) (n : ℕ) (least : 3 ≤ n) (most : n ≤ 9) (marks : Marks) where
  abbrev t : ℕ
  t = threshold n

  -- the words of round i of those who are present, of two probes
  abbrev PresentSame : (round : ℕ) (w w' : ℕ → List ℕ) → Type 0
  PresentSame round w w' = (j : ℕ) → 1 ≤ j → j ≤ n → is_present (marks round) j ≡ true → w' j ≡ w j

  words_fixed : (q q' : Probe) → ProbeShared v t q → ProbeShared v t q' → (i round : ℕ) → i < last_round v → Enough n (marks round)
      → PresentSame round (words_at v q i) (words_at v q' i) → (j : ℕ) → words_at v q' i j ≡ words_at v q i j
  words_fixed q q' h h' i round l E e j =
      let who : List ℕ = of_present (marks round) (points n) in
      let one : (x : ℕ) → In x who → Chosen (marks round) 1 n x = λ x m. in_present (marks round) 1 n x m in
      round_fixed v t q q' h h' who (zero_choose n (marks round) most).2
      (omega (arith, E.many, how_many_points (marks round) (points n) (length_from 1 n ∙ sym E.long)))
      i l (λ x m. e x (one x m).least (omega (arith, (one x m).most)) (one x m).here) j

  spoken_fixed : (q q' : Probe) → ProbeShared v t q → ProbeShared v t q' → (round : ℕ)
      → ((i : ℕ) → i < last_round v → Enough n (marks (round + i)))
      → ((i : ℕ) → i < last_round v → PresentSame (round + i) (words_at v q i) (words_at v q' i)) → spoken v n q' ≡ spoken v n q
  unfolding spoken
  spoken_fixed q q' h h' round E e =
      same_from (λ i. map (words_at v q' i) (points n)) (λ i. map (words_at v q i) (points n)) 0 (last_round v)
      (λ i l k. map_points (words_at v q' i) (words_at v q i) n (λ j j1 jn. words_fixed q q' h h' i (round + i) (omega arith) (E i (omega arith)) (e i (omega arith)) j))

  -- a word of a probe's round
  spoken_at : (q : Probe) (i j : ℕ) → i < last_round v → 1 ≤ j → j ≤ n → get_or (get_or (spoken v n q) i []) (j - 1) [] ≡ words_at v q i j
  unfolding spoken
  spoken_at q i j l j1 jn =
      let at : 1 + (j - 1) ≡ j = omega arith in
      ap (λ (ws : List (List ℕ)). get_or ws (j - 1) []) (map_from (λ i. map (words_at v q i) (points n)) [] 0 (last_round v) i l ∙ ap (λ (k : ℕ). map (words_at v q k) (points n)) (zero-add i))
      ∙ map_from (words_at v q i) [] 1 n (j - 1) (omega arith) ∙ ap (words_at v q i) at

  pub all_fixed : (ds ds' : List Made) (round : ℕ) → length ds' ≡ length ds → Each (λ d. ProbeShared v t d.probe) ds → Each (λ d. ProbeShared v t d.probe) ds'
      → ((i : ℕ) → i < last_round v * length ds → Enough n (marks (round + i)))
      → ((i : ℕ) → i < last_round v * length ds
      → PresentSame (round + i) (λ j. get_or (get_or (all_spoken v n ds) i []) (j - 1) []) (λ j. get_or (get_or (all_spoken v n ds') i []) (j - 1) []))
      → all_spoken v n ds' ≡ all_spoken v n ds
  unfolding flatten
  all_fixed [] [] round l H H' E e = refl
  all_fixed [] (d' ∷ ds') round l H H' E e = absurd (omega arith)
  all_fixed (d ∷ ds) [] round l H H' E e = absurd (omega arith)
  all_fixed (d ∷ ds) (d' ∷ ds') round l H H' E e =
      ap₂ ◌++◌
      (spoken_fixed d.probe d'.probe H.0 H'.0 round (λ i k. E i (omega arith))
      (λ i k j j1 jn p. sym (first_word d' ds' i j k j1 jn) ∙ e i (omega arith) j j1 jn p ∙ first_word d ds i j k j1 jn))
      (all_fixed ds ds' (round + last_round v) (suc_inj l) H.1 H'.1
      (λ i k. rw (later i) (E (last_round v + i) (omega arith)))
      (λ i k j j1 jn p. sym (later_word d' ds' i j) ∙ e (last_round v + i) (omega arith) j j1 jn (ap (λ (m : ℕ). is_present (marks m) j) (sym (later i)) ∙ p) ∙ later_word d ds i j))
    where
      later : (i : ℕ) → round + last_round v + i ≡ round + (last_round v + i)
      later i = omega arith

      first_word : (d : Made) (ds : List Made) (i j : ℕ) → i < last_round v → 1 ≤ j → j ≤ n
          → get_or (get_or (spoken v n d.probe ++ all_spoken v n ds) i []) (j - 1) [] ≡ words_at v d.probe i j
      first_word d ds i j k j1 jn =
          ap (λ (ws : List (List ℕ)). get_or ws (j - 1) []) (get_or-append (spoken v n d.probe) (all_spoken v n ds) [] i (omega (arith, spoken_long v n d.probe)))
          ∙ spoken_at d.probe i j k j1 jn

      later_word : (d : Made) (ds : List Made) (i j : ℕ)
          → get_or (get_or (spoken v n d.probe ++ all_spoken v n ds) (last_round v + i) []) (j - 1) [] ≡ get_or (get_or (all_spoken v n ds) i []) (j - 1) []
      later_word d ds i j =
          ap (λ (ws : List (List ℕ)). get_or ws (j - 1) [])
          (ap (λ (k : ℕ). get_or (spoken v n d.probe ++ all_spoken v n ds) (k + i) []) (sym (spoken_long v n d.probe))
          ∙ get_or-append-add (spoken v n d.probe) (all_spoken v n ds) i [])
