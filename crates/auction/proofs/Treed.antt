-- Of seven rounds: the pairs that a party keeps, as its record and its sheet have them. Assumes nothing.
use mathlib.Core.Path.{◌≡◌, refl, sym, ap, ap₂, ◌∙◌}
use mathlib.Core.Bool.{Bool, true, ◌&&◌}
use lib.Seq.{get_or-take, length-take-le}
use Rattle.ranges.proofs.Loops.{and-true}
use Rattle.kept_pairs.specs.Pairs.{small}
use Rattle.ways.specs.Way.{leaves, uses}
use Rattle.level.specs.Level.{no_pair}
use mathlib.Core.List.{List, [], ◌∷◌, ◌++◌, map}
use Prim.Native.Nat.{ℕ, zero, suc, ◌+◌, ◌-◌, ◌*◌, ◌≤◌, ◌<◌}
use native.Mathlib.Nat.{le_of_suc-le-suc}
use native.Mathlib.Omega.{arith}
use lib.ListN.{length, take, drop, get_or, replicate, length-map, length-append, length-replicate}
use lib.Seq.{take_at, take-take, drop-append-add}
use lib.Dec.{ltb}
use borrow.Author.Tests.{lt-ltb, eq-eqb, ne_eqb}
use Rattle.fields.specs.Byte.{bytes}
use Rattle.sharing.specs.Polynomial.{value}
use Rattle.ranges.specs.Lists.{every}
use Rattle.ways.specs.Way.{tree, levels_of, width}
use Rattle.comparison.specs.Local.{on_shares}
use Rattle.comparison.specs.Rounds.{both}
use Rattle.comparison.specs.Pairs.{Pair, Triple, first_pairs, sides, said_of, products, merged, remaining}
use Rattle.comparison.specs.Probe.{Each, Probe, opened, opened_sum, levels, triple_words, sheet_shares, side_word}
use Rattle.comparison.proofs.Dealt.{ProbeShared}
use Rattle.comparison.proofs.Levels.{triple_at, shares_triples, shares_kept, kept_bytes}
use Rattle.comparison.proofs.Counts.{left_of}
use Rattle.level.specs.Level.{pair_words, pairs_read, triples_read, level_pairs, level_triples, level_words, level_kept}
use Rattle.auction.proofs.Closed.{no_words, kept_words, pairs_at}
use Rattle.auction.proofs.Kept.{level_at, triples_kept, kept_next, level_words_are, kept_long, triples_dropped, tree_left, tree_used, tree_wide}

pairs_back : (ps : List (Pair ℕ)) → pairs_read (pair_words ps) ≡ ps
unfolding pairs_read pair_words
pairs_back [] = refl
pairs_back (p ∷ ps) = ap (λ (z : List (Pair ℕ)). p ∷ z) (pairs_back ps)

pair_words_length : (ps : List (Pair ℕ)) → length (pair_words ps) ≡ 2 * length ps
unfolding pair_words
pair_words_length [] = refl
pair_words_length (p ∷ ps) = omega (arith, pair_words_length ps)

triples_back : (j : ℕ) (ts : List (Triple (List ℕ))) → triples_read (triple_words j ts) ≡ map (triple_at j) ts
unfolding triples_read triple_words
triples_back j [] = refl
triples_back j (t ∷ ts) = ap (λ (z : List (Triple ℕ)). triple_at j t ∷ z) (triples_back j ts)

triple_words_drop : (j m : ℕ) (ts : List (Triple (List ℕ))) → drop (3 * m) (triple_words j ts) ≡ triple_words j (drop m ts)
unfolding triple_words
triple_words_drop j zero ts = refl
triple_words_drop j (suc m) [] = none (3 * suc m)
  where
    none : (k : ℕ) → drop {A = ℕ} k [] ≡ []
    none zero = refl
    none (suc k) = refl
triple_words_drop j (suc m) (t ∷ ts) =
    let e : 3 * suc m ≡ suc (suc (suc (3 * m))) = omega arith in
    ap (λ (k : ℕ). drop k (triple_words j (t ∷ ts))) e ∙ triple_words_drop j m ts

map_drop : {A B : Type 0} (f : A → B) (k : ℕ) (xs : List A) → map f (drop k xs) ≡ drop k (map f xs)
map_drop f zero xs = refl
map_drop f (suc k) [] = refl
map_drop f (suc k) (x ∷ xs) = map_drop f k xs

map_take : {A B : Type 0} (f : A → B) (k : ℕ) (xs : List A) → map f (take k xs) ≡ take k (map f xs)
map_take f zero xs = refl
map_take f (suc k) [] = refl
map_take {A} {B} f (suc k) (x ∷ xs) = ap (λ (z : List B). f x ∷ z) (map_take f k xs)

take_append : {A : Type 0} (k : ℕ) (xs ys : List A) → k ≤ length xs → take k (xs ++ ys) ≡ take k xs
take_append zero xs ys h = refl
take_append (suc k) [] ys h = absurd (omega arith)
take_append {A} (suc k) (x ∷ xs) ys h = ap (λ (z : List A). x ∷ z) (take_append k xs ys (le_of_suc-le-suc h))

-- bytes, 32 of them
zeros_bytes : (n : ℕ) → every (λ w. ltb w 256) (replicate n 0) ≡ true
unfolding every
zeros_bytes zero = refl
zeros_bytes (suc n) = zeros_bytes n

every_take : (f : ℕ → Bool) (k : ℕ) (xs : List ℕ) → every f xs ≡ true → every f (take k xs) ≡ true
unfolding every
every_take f zero xs h = refl
every_take f (suc k) [] h = refl
every_take f (suc k) (x ∷ xs) h = let r = and-true (f x) (every f xs) h in ap₂ ◌&&◌ r.0 (every_take f k xs r.1)

pair_second : (p : Pair ℕ) (ps : List (Pair ℕ)) → get_or (pair_words (p ∷ ps) ++ replicate 32 0) 1 0 ≡ p.bottom
unfolding pair_words
pair_second p ps = refl

module _ (t : ℕ) (q : Probe) (S : ProbeShared tree t q) (j : ℕ) (hj : j < 10) where
  abbrev W : List ℕ
  W = sheet_shares j q.sheet

  bits_long : length (map (λ b. value bytes b j) q.sheet.bits) ≡ 33
  bits_long = length-map q.sheet.bits (λ b. value bytes b j) ∙ S.sheet.bits_long

  -- the triples of the sheet
  pub tree_triples : (k : ℕ) → k < 5 → level_triples (k + 2) W ≡ triples_kept tree q j k
  unfolding level_triples sheet_shares levels_of
  tree_triples k h =
      let m : ℕ = 64 - 2 * width tree (k + 2) in
      let e : 34 + 3 * m ≡ suc (length (map (λ b. value bytes b j) q.sheet.bits) + 3 * m) = omega (arith, bits_long) in
      ap (λ (n : ℕ). triples_read (drop n W)) e
      ∙ ap triples_read (drop-append-add (map (λ b. value bytes b j) q.sheet.bits) (triple_words j q.sheet.triples) (3 * m) ∙ triple_words_drop j m q.sheet.triples)
      ∙ triples_back j (drop m q.sheet.triples) ∙ map_drop (triple_at j) m q.sheet.triples
      ∙ ap (λ (n : ℕ). drop n (shares_triples tree q j)) (sym (tree_used k h))
      ∙ sym (triples_dropped tree t q S j hj k (omega arith))

  -- kept words are read back
  pub kept_back : (k : ℕ) → 1 ≤ k → k < 5 → pairs_read (take (2 * width tree (k + 2)) (kept_words (shares_kept tree q j k))) ≡ shares_kept tree q j k
  unfolding kept_words levels_of
  kept_back k k1 h =
      let ps : List (Pair ℕ) = shares_kept tree q j k in
      let m : ℕ = 2 * width tree (k + 2) in
      let l : length (pair_words ps) ≡ m = pair_words_length ps ∙ ap (λ (n : ℕ). 2 * n) (kept_long tree t q S j hj k (omega arith) ∙ tree_left k h) in
      let f = (tree_wide k h).2 k1 in
      ap pairs_read (take-take m 32 (pair_words ps ++ replicate 32 0) (omega arith) ∙ take_at (pair_words ps) (replicate 32 0) m l) ∙ pairs_back ps

  -- the pairs that a level starts from
  pub tree_pairs : (k : ℕ) → k < 5 → level_pairs (k + 2) (opened_sum q) (pairs_at tree q k j) W ≡ shares_kept tree q j k
  unfolding level_pairs pairs_at remaining levels sheet_shares
  tree_pairs zero h =
      ap (first_pairs (on_shares bytes) (opened_sum q))
      (take_append 32 (map (λ b. value bytes b j) q.sheet.bits) (triple_words j q.sheet.triples) (omega (arith, bits_long))
      ∙ sym (map_take (λ b. value bytes b j) 32 q.sheet.bits))
  tree_pairs (suc k) h = rw (ne_eqb (suc k + 2) 2 (λ e. omega arith)) (kept_back (suc k) (omega arith) h)

  -- the words of level k, as the record and the sheet make them
  pub tree_words : (k : ℕ) → k < 5 → level_words (k + 2) (opened_sum q) (pairs_at tree q k j) W ≡ map (side_word j) (level_at tree q k)
  unfolding level_words levels_of
  tree_words k h =
      ap₂ (λ (ps : List (Pair ℕ)) (us : List (Triple ℕ)). map (λ r. both r.left r.right) (said_of (on_shares bytes) (sides (on_shares bytes) tree ps) us)) (tree_pairs k h) (tree_triples k h)
      ∙ sym (level_words_are tree t q S j hj k h)

  -- and the pairs after it
  pub tree_next : (k : ℕ) → k < 5
      → level_kept (k + 2) (opened_sum q) (pairs_at tree q k j) W (map opened (level_at tree q k)) ≡ pairs_at tree q (suc k) j
  unfolding level_kept pairs_at kept_words levels_of
  tree_next k h =
      ap (λ (ps : List (Pair ℕ)). take 32 (pair_words ps ++ replicate 32 0))
      (ap₂ (λ (ps : List (Pair ℕ)) (us : List (Triple ℕ)). merged (on_shares bytes) tree ps (products (on_shares bytes) (map opened (level_at tree q k)) us)) (tree_pairs k h) (tree_triples k h)
      ∙ sym (kept_next tree q j k h))

  -- ---- what the record has

  all_words : (ps : List (Pair ℕ)) → Each (λ a. (a.top < 256) × (a.bottom < 256)) ps → every (λ w. ltb w 256) (pair_words ps ++ replicate 32 0) ≡ true
  unfolding pair_words every
  all_words [] h = zeros_bytes 32
  all_words (p ∷ ps) h = ap₂ ◌&&◌ (lt-ltb p.top 256 h.0.0) (ap₂ ◌&&◌ (lt-ltb p.bottom 256 h.0.1) (all_words ps h.1))

  pub pairs_small : (k : ℕ) → small (record { words = pairs_at tree q k j }) ≡ true
  unfolding small pairs_at kept_words no_words every
  pairs_small zero = refl
  pairs_small (suc k) =
      let ps : List (Pair ℕ) = shares_kept tree q j (suc k) in
      ap₂ ◌&&◌
      (eq-eqb (length (take 32 (pair_words ps ++ replicate 32 0))) 32
      (length-take-le 32 (pair_words ps ++ replicate 32 0) (omega (arith, length-append (pair_words ps) (replicate 32 0), length-replicate {A = ℕ} 32 0))))
      (every_take (λ w. ltb w 256) 32 (pair_words ps ++ replicate 32 0) (all_words ps (kept_bytes tree t q S j hj (suc k))))

  -- the last pair's bottom
  pub last_bottom : get_or (pairs_at tree q 5 j) 1 0 ≡ (get_or (shares_kept tree q j 5) 0 no_pair).bottom
  unfolding pairs_at kept_words levels_of left_of leaves uses
  last_bottom = first_of (shares_kept tree q j 5) (kept_long tree t q S j hj 5 (omega arith))
    where
      first_of : (ps : List (Pair ℕ)) → length ps ≡ 1 → get_or (take 32 (pair_words ps ++ replicate 32 0)) 1 0 ≡ (get_or ps 0 no_pair).bottom
      first_of [] h = absurd (omega arith)
      first_of (p ∷ ps) h = at_one p ps
        where
          at_one : (p : Pair ℕ) (ps : List (Pair ℕ)) → get_or (take 32 (pair_words (p ∷ ps) ++ replicate 32 0)) 1 0 ≡ p.bottom
          at_one p ps = get_or-take 32 (pair_words (p ∷ ps) ++ replicate 32 0) 1 0 (omega arith) ∙ two p ps
            where
              two : (p : Pair ℕ) (ps : List (Pair ℕ)) → get_or (pair_words (p ∷ ps) ++ replicate 32 0) 1 0 ≡ p.bottom
              two p ps = pair_second p ps
