-- A level, place by place. Assumes nothing.
use mathlib.Core.Path.{◌≡◌, refl, sym, ap, ap₂, ◌∙◌}
use mathlib.Core.Bool.{Bool, true, false, cond, ◌&&◌}
use mathlib.Core.List.{List, [], ◌∷◌, ◌++◌, map}
use Prim.Native.Nat.{ℕ, zero, suc, ◌+◌, ◌-◌, ◌*◌, ◌/◌, ◌%◌, ◌^◌, ◌≤◌, ◌<◌}
use native.Mathlib.Omega.{arith}
use native.Mathlib.Decide.{ℕ_discrete, dec_le}
use lib.Dec.{eqb, ltb, lit<}
use lib.ListN.{length, take, drop, get_or, replicate, length-map, length-take, length-drop, length-append, length-replicate, get_or-append}
use lib.Seq.{get_or-take, get_or-drop, get_or-append-add}
use borrow.Author.Tests.{ltb-true, lt-ltb, eqb-true, eqb-false, eq-eqb, ne_eqb}
use Rattle.fields.specs.Bits.{bit}
use Rattle.fields.specs.Byte.{bytes}
use Rattle.fields.proofs.Fields.{byte_field}
use Rattle.comparison.proofs.Values.{bit_byte}
use Rattle.comparison.proofs.Levels.{public_share}
use Rattle.ranges.specs.Lists.{every}
use Rattle.ranges.proofs.Loops.{every_at}
use Rattle.ways.specs.Way.{tree, width, uses, leaves}
use Rattle.comparison.specs.Local.{Local, on_shares}
use Rattle.comparison.specs.Rounds.{both, differing, first_carry}
use Rattle.comparison.specs.Pairs.{Pair, Triple, Sides, public, later_pairs, first_pairs, top_sides, bottom_sides, sides, masked_sides, said_of, multiplied, products, merged}
use Rattle.comparison.proofs.Counts.{first_pairs_length, sides_length, said_of_length, products_length, merged_length}
use Rattle.level.specs.Level.{no_pair, no_triple, pair_words, level_kept, next_word, pairs_read, triples_read, level_pairs, level_triples, side_word, level_words, Ready}

-- ---- how many words are said

-- half of them: 16, 8, 4, 2, 1
abbrev pub half : ℕ → ℕ
half round = 64 / 2 ^ round

pub record Wide (round : ℕ) : Type 0 where
  pub twice : width tree round ≡ 2 * half round
  pub some : 1 ≤ half round
  pub most : half round ≤ 16
  pub later : (round ≡ 2 → ⊥) → half round ≤ 8

pub wide : (round : ℕ) → 2 ≤ round → round ≤ 6 → Wide round
unfolding width
wide zero h l = absurd (omega arith)
wide (suc zero) h l = absurd (omega arith)
wide (suc (suc zero)) h l = record { twice = refl; some = lit< tt; most = lit< tt; later = λ n. absurd (n refl) }
wide (suc (suc (suc zero))) h l = record { twice = refl; some = lit< tt; most = lit< tt; later = λ n. lit< tt }
wide (suc (suc (suc (suc zero)))) h l = record { twice = refl; some = lit< tt; most = lit< tt; later = λ n. lit< tt }
wide (suc (suc (suc (suc (suc zero))))) h l = record { twice = refl; some = lit< tt; most = lit< tt; later = λ n. lit< tt }
wide (suc (suc (suc (suc (suc (suc zero)))))) h l = record { twice = refl; some = lit< tt; most = lit< tt; later = λ n. lit< tt }
wide (suc (suc (suc (suc (suc (suc (suc k))))))) h l = absurd (omega arith)

-- ---- lists by their places

abbrev pub no_sides : Sides ℕ
no_sides = record { left = 0; right = 0 }

abbrev pub pair_from : List ℕ → ℕ → Pair ℕ
pair_from ws i = record { top = get_or ws (2 * i) 0; bottom = get_or ws (2 * i + 1) 0 }

abbrev pub triple_from : List ℕ → ℕ → Triple ℕ
triple_from ws j = record { alpha = get_or ws (3 * j) 0; beta = get_or ws (3 * j + 1) 0; gamma = get_or ws (3 * j + 2) 0 }

pub read_at : (ws : List ℕ) (i : ℕ) → 2 * i + 1 < length ws → get_or (pairs_read ws) i no_pair ≡ pair_from ws i
unfolding pairs_read
read_at [] i h = absurd (omega arith)
read_at (x ∷ []) i h = absurd (omega arith)
read_at (x ∷ y ∷ ws) zero h = refl
read_at (x ∷ y ∷ ws) (suc i) h =
    let e : suc (suc (2 * i)) ≡ 2 * suc i = omega arith in
    let f : suc (suc (2 * i + 1)) ≡ 2 * suc i + 1 = omega arith in
    read_at ws i (omega arith)
    ∙ ap₂ (λ (a b : ℕ). record { top = get_or (x ∷ y ∷ ws) a 0; bottom = get_or (x ∷ y ∷ ws) b 0 }) e f

pub read_length : (ws : List ℕ) → length (pairs_read ws) ≡ length ws / 2
unfolding pairs_read
read_length [] = refl
read_length (x ∷ []) = refl
read_length (x ∷ y ∷ ws) = omega (arith, read_length ws)

pub triples_at : (ws : List ℕ) (j : ℕ) → 3 * j + 2 < length ws → get_or (triples_read ws) j no_triple ≡ triple_from ws j
unfolding triples_read
triples_at [] j h = absurd (omega arith)
triples_at (a ∷ []) j h = absurd (omega arith)
triples_at (a ∷ b ∷ []) j h = absurd (omega arith)
triples_at (a ∷ b ∷ g ∷ ws) zero h = refl
triples_at (a ∷ b ∷ g ∷ ws) (suc j) h =
    let e : suc (suc (suc (3 * j))) ≡ 3 * suc j = omega arith in
    let f : suc (suc (suc (3 * j + 1))) ≡ 3 * suc j + 1 = omega arith in
    let g' : suc (suc (suc (3 * j + 2))) ≡ 3 * suc j + 2 = omega arith in
    triples_at ws j (omega arith)
    ∙ (λ k. record { alpha = get_or (a ∷ b ∷ g ∷ ws) (e k) 0; beta = get_or (a ∷ b ∷ g ∷ ws) (f k) 0; gamma = get_or (a ∷ b ∷ g ∷ ws) (g' k) 0 })

pub triples_length : (ws : List ℕ) → length (triples_read ws) ≡ length ws / 3
unfolding triples_read
triples_length [] = refl
triples_length (a ∷ []) = refl
triples_length (a ∷ b ∷ []) = refl
triples_length (a ∷ b ∷ g ∷ ws) = omega (arith, triples_length ws)

module _ {X : Type 0} (L : Local X) (d : Sides X) (e : Pair X) where
  -- of pairs 2 m and 2 m + 1 the top product and the bottom one
  pub sides_at : (ps : List (Pair X)) (m : ℕ) → 2 * m + 1 < length ps
      → (get_or (sides L tree ps) (2 * m) d ≡ top_sides L (get_or ps (2 * m) e) (get_or ps (2 * m + 1) e))
      × (get_or (sides L tree ps) (2 * m + 1) d ≡ bottom_sides L (get_or ps (2 * m) e) (get_or ps (2 * m + 1) e))
  unfolding sides
  sides_at [] m h = absurd (omega arith)
  sides_at (a ∷ []) m h = absurd (omega arith)
  sides_at (a ∷ b ∷ ps) zero h = (refl, refl)
  sides_at (a ∷ b ∷ ps) (suc m) h =
      let s : List (Sides X) = top_sides L a b ∷ bottom_sides L a b ∷ sides L tree ps in
      let f : 2 * suc m ≡ suc (suc (2 * m)) = omega arith in
      let g : 2 * suc m + 1 ≡ suc (suc (2 * m + 1)) = omega arith in
      let r = sides_at ps m (omega arith) in (
        ap (λ (k : ℕ). get_or s k d) f ∙ r.0 ∙ (λ k. top_sides L (get_or (a ∷ b ∷ ps) (sym f k) e) (get_or (a ∷ b ∷ ps) (sym g k) e)),
        ap (λ (k : ℕ). get_or s k d) g ∙ r.1 ∙ (λ k. bottom_sides L (get_or (a ∷ b ∷ ps) (sym f k) e) (get_or (a ∷ b ∷ ps) (sym g k) e)),
      )

  pub said_at : (ss : List (Sides X)) (ts : List (Triple X)) (j : ℕ) (t : Triple X) → j < length ss → j < length ts
      → get_or (said_of L ss ts) j d ≡ masked_sides L (get_or ss j d) (get_or ts j t)
  unfolding said_of
  said_at [] ts j t h k = absurd (omega arith)
  said_at (s ∷ ss) [] j t h k = absurd (omega arith)
  said_at (s ∷ ss) (t' ∷ ts) zero t h k = refl
  said_at (s ∷ ss) (t' ∷ ts) (suc j) t h k = said_at ss ts j t (omega arith) (omega arith)

module _ (L : Local ℕ) (T : ℕ) where
  later_at : (i : ℕ) (bs : List ℕ) (k : ℕ) → k < length bs
      → get_or (later_pairs L T i bs) k no_pair
      ≡ record { top = differing L T (i + k) (get_or bs k 0); bottom = public L (bit (i + k) T) (get_or bs k 0) }
  unfolding later_pairs
  later_at i [] k h = absurd (omega arith)
  later_at i (b ∷ bs) zero h =
      let e : i ≡ i + 0 = omega arith in
      λ k. record { top = differing L T (e k) b; bottom = public L (bit (e k) T) b }
  later_at i (b ∷ bs) (suc k) h =
      let e : suc i + k ≡ i + suc k = omega arith in
      later_at (suc i) bs k (omega arith)
      ∙ (λ j. record { top = differing L T (e j) (get_or bs k 0); bottom = public L (bit (e j) T) (get_or bs k 0) })

  pub first_at : (bs : List ℕ) → 0 < length bs
      → get_or (first_pairs L T bs) 0 no_pair ≡ record { top = public L 0 (get_or bs 0 0); bottom = first_carry L T (get_or bs 0 0) }
  unfolding first_pairs
  first_at [] h = absurd (omega arith)
  first_at (b ∷ bs) h = refl

  pub after_first : (bs : List ℕ) (i : ℕ) → (i ≡ 0 → ⊥) → i < length bs
      → get_or (first_pairs L T bs) i no_pair
      ≡ record { top = differing L T (i + 1) (get_or bs i 0); bottom = public L (bit (i + 1) T) (get_or bs i 0) }
  unfolding first_pairs
  after_first [] i n h = absurd (omega arith)
  after_first (b ∷ bs) zero n h = absurd (n refl)
  after_first (b ∷ bs) (suc k) n h =
      let e : 2 + k ≡ suc k + 1 = omega arith in
      later_at 2 bs k (omega arith)
      ∙ (λ j. record { top = differing L T (e j) (get_or bs k 0); bottom = public L (bit (e j) T) (get_or bs k 0) })

map_at : {A : Type 0} (f : A → ℕ) (d : A) (xs : List A) (i : ℕ) → i < length xs → get_or (map f xs) i 0 ≡ f (get_or xs i d)
map_at f d [] i h = absurd (omega arith)
map_at f d (x ∷ xs) zero h = refl
map_at f d (x ∷ xs) (suc i) h = map_at f d xs i (omega arith)

-- ---- the pairs of a level

module _ (round sum : ℕ) (kept sheet : List ℕ) (r : Ready round kept sheet) where
  abbrev W : Wide round
  W = wide round r.least r.most

  abbrev ps : List (Pair ℕ)
  ps = level_pairs round sum kept sheet

  -- a kept word, and a word of the sheet but the mask's
  pub kept_byte : (i : ℕ) → i < 32 → get_or kept i 0 < 256
  kept_byte i h = ltb-true _ _ (every_at (λ w. ltb w 256) kept i r.kept_bytes (omega (arith, r.kept_long)))

  pub sheet_byte : (i : ℕ) → 1 ≤ i → i < 220 → get_or sheet i 0 < 256
  sheet_byte i h l =
      let e : get_or (drop 1 sheet) (i - 1) 0 ≡ get_or sheet i 0 = get_or-drop 1 sheet (i - 1) 0 ∙ ap (λ (k : ℕ). get_or sheet k 0) (omega arith) in
      rw e at (ltb-true (get_or (drop 1 sheet) (i - 1) 0) 256 (every_at (λ w. ltb w 256) (drop 1 sheet) (i - 1) r.sheet_bytes (simp length-drop (omega (arith, r.sheet_long)))))

  module _ (other : round ≡ 2 → ⊥) where
    kept_pairs : ps ≡ pairs_read (take (2 * width tree round) kept)
    unfolding level_pairs
    kept_pairs = rw (ne_eqb round 2 other)

    enough : length (take (2 * width tree round) kept) ≡ 2 * width tree round
    enough = simp length-take (omega (arith, W.twice, W.later other, r.kept_long))

    pub later_pair : (i : ℕ) → i < width tree round → get_or ps i no_pair ≡ pair_from kept i
    later_pair i h =
        ap (λ (z : List (Pair ℕ)). get_or z i no_pair) kept_pairs
        ∙ read_at (take (2 * width tree round) kept) i (omega (arith, enough))
        ∙ ap₂ (λ (a b : ℕ). record { top = a; bottom = b })
        (get_or-take (2 * width tree round) kept (2 * i) 0 (omega arith)) (get_or-take (2 * width tree round) kept (2 * i + 1) 0 (omega arith))

    later_many : length ps ≡ width tree round
    later_many = ap length kept_pairs ∙ read_length (take (2 * width tree round) kept) ∙ omega (arith, enough)

  module _ (second : round ≡ 2) where
    abbrev bits : List ℕ
    bits = take 32 (drop 1 sheet)

    bits_long : length bits ≡ 32
    bits_long = simp (length-take, length-drop) (omega (arith, r.sheet_long))

    begun : ps ≡ first_pairs (on_shares bytes) sum bits
    unfolding level_pairs
    begun = rw (eq-eqb round 2 second)

    bit_at : (i : ℕ) → i < 32 → get_or bits i 0 ≡ get_or sheet (i + 1) 0
    bit_at i h = get_or-take 32 (drop 1 sheet) i 0 h ∙ get_or-drop 1 sheet i 0 ∙ ap (λ (k : ℕ). get_or sheet k 0) (omega arith)

    two_wide : width tree round ≡ 32
    unfolding width
    two_wide = ap (width tree) second

    pub first_pair : get_or ps 0 no_pair
        ≡ record { top = public (on_shares bytes) 0 (get_or sheet 1 0); bottom = first_carry (on_shares bytes) sum (get_or sheet 1 0) }
    first_pair =
        ap (λ (z : List (Pair ℕ)). get_or z 0 no_pair) begun ∙ first_at (on_shares bytes) sum bits (omega (arith, bits_long))
        ∙ ap (λ (b : ℕ). record { top = public (on_shares bytes) 0 b; bottom = first_carry (on_shares bytes) sum b }) (bit_at 0 (omega arith))

    pub next_pair : (i : ℕ) → (i ≡ 0 → ⊥) → i < width tree round → get_or ps i no_pair
        ≡ record { top = differing (on_shares bytes) sum (i + 1) (get_or sheet (i + 1) 0); bottom = public (on_shares bytes) (bit (i + 1) sum) (get_or sheet (i + 1) 0) }
    next_pair i n h =
        ap (λ (z : List (Pair ℕ)). get_or z i no_pair) begun ∙ after_first (on_shares bytes) sum bits i n (omega (arith, bits_long, two_wide))
        ∙ ap (λ (b : ℕ). record { top = differing (on_shares bytes) sum (i + 1) b; bottom = public (on_shares bytes) (bit (i + 1) sum) b })
        (bit_at i (omega (arith, two_wide)))

    first_many : length ps ≡ width tree round
    first_many = ap length begun ∙ first_pairs_length (on_shares bytes) sum bits ∙ bits_long ∙ sym two_wide

  pub pairs_many : length ps ≡ width tree round
  pairs_many = split (eqb round 2) refl
    where
      split : (b : Bool) → eqb round 2 ≡ b → length ps ≡ width tree round
      split true e = first_many (eqb-true round 2 e)
      split false e = later_many (eqb-false round 2 e)

  -- ---- its triples and its words

  abbrev ts : List (Triple ℕ)
  ts = level_triples round sheet

  abbrev pub from_place : ℕ
  from_place = 34 + 3 * (64 - 2 * width tree round)

  triples_long : length (drop from_place sheet) ≡ 220 - from_place
  triples_long = simp length-drop (omega (arith, r.sheet_long))

  pub triple_at : (j : ℕ) → j < width tree round → get_or ts j no_triple
      ≡ record { alpha = get_or sheet (34 + 3 * (64 - 2 * width tree round + j)) 0; beta = get_or sheet (34 + 3 * (64 - 2 * width tree round + j) + 1) 0; gamma = get_or sheet (34 + 3 * (64 - 2 * width tree round + j) + 2) 0 }
  unfolding level_triples
  triple_at j h =
      let place : (p : ℕ) → get_or (drop from_place sheet) (3 * j + p) 0 ≡ get_or sheet (34 + 3 * (64 - 2 * width tree round + j) + p) 0 =
      λ p. get_or-drop from_place sheet (3 * j + p) 0 ∙ ap (λ (k : ℕ). get_or sheet k 0) (omega arith) in
      let zero_place : get_or (drop from_place sheet) (3 * j) 0 ≡ get_or sheet (34 + 3 * (64 - 2 * width tree round + j)) 0 =
      get_or-drop from_place sheet (3 * j) 0 ∙ ap (λ (k : ℕ). get_or sheet k 0) (omega arith) in
      triples_at (drop from_place sheet) j (omega (arith, triples_long, W.twice, W.some, W.most))
      ∙ (λ k. record { alpha = zero_place k; beta = place 1 k; gamma = place 2 k })

  pub triples_many : width tree round ≤ length ts
  unfolding level_triples
  triples_many = omega (arith, triples_length (drop from_place sheet), triples_long, W.twice, W.some, W.most)

  abbrev ss : List (Sides ℕ)
  ss = sides (on_shares bytes) tree ps

  sides_many : length ss ≡ width tree round
  unfolding uses
  sides_many = sides_length (on_shares bytes) tree ps ∙ ap (λ (k : ℕ). k / 2 * 2) pairs_many ∙ omega (arith, W.twice)

  pub words_many : length (level_words round sum kept sheet) ≡ width tree round
  unfolding level_words
  words_many =
      length-map (said_of (on_shares bytes) ss ts) side_word ∙ said_of_length (on_shares bytes) ss ts (omega (arith, sides_many, triples_many)) ∙ sides_many

  word_sides : (j : ℕ) → j < width tree round
      → get_or (level_words round sum kept sheet) j 0 ≡ side_word (masked_sides (on_shares bytes) (get_or ss j no_sides) (get_or ts j no_triple))
  unfolding level_words
  word_sides j h =
      map_at side_word no_sides (said_of (on_shares bytes) ss ts) j
      (omega (arith, said_of_length (on_shares bytes) ss ts (omega (arith, sides_many, triples_many)), sides_many))
      ∙ ap side_word (said_at (on_shares bytes) no_sides no_pair ss ts j no_triple (omega (arith, sides_many)) (omega (arith, triples_many)))

  -- the word of a top product, and of a bottom one
  pub top_word : (m : ℕ) → 2 * m < width tree round → get_or (level_words round sum kept sheet) (2 * m) 0
      ≡ side_word (masked_sides (on_shares bytes) (top_sides (on_shares bytes) (get_or ps (2 * m) no_pair) (get_or ps (2 * m + 1) no_pair)) (get_or ts (2 * m) no_triple))
  top_word m h =
      word_sides (2 * m) h
      ∙ ap (λ (s : Sides ℕ). side_word (masked_sides (on_shares bytes) s (get_or ts (2 * m) no_triple)))
      (sides_at (on_shares bytes) no_sides no_pair ps m (omega (arith, pairs_many, W.twice))).0

  pub bottom_word : (m : ℕ) → 2 * m + 1 < width tree round → get_or (level_words round sum kept sheet) (2 * m + 1) 0
      ≡ side_word (masked_sides (on_shares bytes) (bottom_sides (on_shares bytes) (get_or ps (2 * m) no_pair) (get_or ps (2 * m + 1) no_pair)) (get_or ts (2 * m + 1) no_triple))
  bottom_word m h =
      word_sides (2 * m + 1) h
      ∙ ap (λ (s : Sides ℕ). side_word (masked_sides (on_shares bytes) s (get_or ts (2 * m + 1) no_triple)))
      (sides_at (on_shares bytes) no_sides no_pair ps m (omega (arith, pairs_many))).1

  -- the same by the place of the word, in the terms of the code
  abbrev pub at : ℕ → ℕ
  at j = 34 + 3 * (64 - 2 * width tree round + j)

  pub even_word : (j : ℕ) → j % 2 ≡ 0 → j < width tree round → get_or (level_words round sum kept sheet) j 0
      ≡ both (bytes.add (get_or ps (j / 2 * 2) no_pair).top (get_or sheet (at j) 0)) (bytes.add (get_or ps (j / 2 * 2 + 1) no_pair).top (get_or sheet (at j + 1) 0))
  even_word j e h =
      let i : 2 * (j / 2) ≡ j = omega arith in
      let f : 2 * (j / 2) ≡ j / 2 * 2 = omega arith in
      let g : 2 * (j / 2) + 1 ≡ j / 2 * 2 + 1 = omega arith in
      let t = ap (λ (k : ℕ). get_or ts k no_triple) i ∙ triple_at j h in
      ap (λ (k : ℕ). get_or (level_words round sum kept sheet) k 0) (sym i) ∙ top_word (j / 2) (omega arith)
      ∙ (λ k. both (bytes.add (get_or ps (f k) no_pair).top (t k).alpha) (bytes.add (get_or ps (g k) no_pair).top (t k).beta))

  pub odd_word : (j : ℕ) → (j % 2 ≡ 0 → ⊥) → j < width tree round → get_or (level_words round sum kept sheet) j 0
      ≡ both (bytes.add (get_or ps (j / 2 * 2 + 1) no_pair).top (get_or sheet (at j) 0))
      (bytes.add (bytes.add (get_or ps (j / 2 * 2) no_pair).bottom (get_or ps (j / 2 * 2 + 1) no_pair).bottom) (get_or sheet (at j + 1) 0))
  odd_word j e h =
      let i : 2 * (j / 2) + 1 ≡ j = omega (arith, e) in
      let f : 2 * (j / 2) ≡ j / 2 * 2 = omega arith in
      let g : 2 * (j / 2) + 1 ≡ j / 2 * 2 + 1 = omega arith in
      let t = ap (λ (k : ℕ). get_or ts k no_triple) i ∙ triple_at j h in
      ap (λ (k : ℕ). get_or (level_words round sum kept sheet) k 0) (sym i) ∙ bottom_word (j / 2) (omega arith)
      ∙ (λ k. both (bytes.add (get_or ps (g k) no_pair).top (t k).alpha)
      (bytes.add (bytes.add (get_or ps (f k) no_pair).bottom (get_or ps (g k) no_pair).bottom) (t k).beta))

-- ---- the words that are kept

module _ (L : Local ℕ) where
  products_at : (os : List (Sides ℕ)) (ts : List (Triple ℕ)) (j : ℕ) → j < length os → j < length ts
      → get_or (products L os ts) j 0 ≡ multiplied L (get_or os j no_sides) (get_or ts j no_triple)
  unfolding products
  products_at [] ts j h k = absurd (omega arith)
  products_at (o ∷ os) [] j h k = absurd (omega arith)
  products_at (o ∷ os) (t ∷ ts) zero h k = refl
  products_at (o ∷ os) (t ∷ ts) (suc j) h k = products_at os ts j (omega arith) (omega arith)

  merged_at : (ps : List (Pair ℕ)) (ms : List ℕ) (m : ℕ) → 2 * m + 1 < length ps → 2 * m + 1 < length ms
      → get_or (merged L tree ps ms) m no_pair
      ≡ record { top = get_or ms (2 * m) 0; bottom = L.plus (get_or ms (2 * m + 1) 0) (get_or ps (2 * m + 1) no_pair).bottom }
  unfolding merged
  merged_at [] ms m h k = absurd (omega arith)
  merged_at (a ∷ []) ms m h k = absurd (omega arith)
  merged_at (a ∷ b ∷ ps) [] m h k = absurd (omega arith)
  merged_at (a ∷ b ∷ ps) (x ∷ []) m h k = absurd (omega arith)
  merged_at (a ∷ b ∷ ps) (x ∷ y ∷ ms) zero h k = refl
  merged_at (a ∷ b ∷ ps) (x ∷ y ∷ ms) (suc m) h k =
      let f : suc (suc (2 * m)) ≡ 2 * suc m = omega arith in
      let g : suc (suc (2 * m + 1)) ≡ 2 * suc m + 1 = omega arith in
      merged_at ps ms m (omega arith) (omega arith)
      ∙ (λ i.
      record {
        top = get_or (x ∷ y ∷ ms) (f i) 0;
        bottom = L.plus (get_or (x ∷ y ∷ ms) (g i) 0) (get_or (a ∷ b ∷ ps) (g i) no_pair).bottom;
      })

flat_at : (qs : List (Pair ℕ)) (m : ℕ) → m < length qs
    → (get_or (pair_words qs) (2 * m) 0 ≡ (get_or qs m no_pair).top) × (get_or (pair_words qs) (2 * m + 1) 0 ≡ (get_or qs m no_pair).bottom)
unfolding pair_words
flat_at [] m h = absurd (omega arith)
flat_at (q ∷ qs) zero h = (refl, refl)
flat_at (q ∷ qs) (suc m) h =
    let f : 2 * suc m ≡ suc (suc (2 * m)) = omega arith in
    let g : 2 * suc m + 1 ≡ suc (suc (2 * m + 1)) = omega arith in
    let r = flat_at qs m (omega arith) in
    (ap (λ (k : ℕ). get_or (q.top ∷ q.bottom ∷ pair_words qs) k 0) f ∙ r.0, ap (λ (k : ℕ). get_or (q.top ∷ q.bottom ∷ pair_words qs) k 0) g ∙ r.1)

flat_length : (qs : List (Pair ℕ)) → length (pair_words qs) ≡ 2 * length qs
unfolding pair_words
flat_length [] = refl
flat_length (q ∷ qs) = omega (arith, flat_length qs)

every_of : (test : ℕ → Bool) (xs : List ℕ) → ((i : ℕ) → i < length xs → test (get_or xs i 0) ≡ true) → every test xs ≡ true
unfolding every
every_of test [] h = refl
every_of test (x ∷ xs) h = ap₂ ◌&&◌ (h 0 (omega arith)) (every_of test xs (λ i l. h (suc i) (omega arith)))

carry_byte : (T b : ℕ) → b < 256 → first_carry (on_shares bytes) T b < 256
unfolding first_carry differing
carry_byte T b h =
    let t = bit_byte 1 T in
    byte_field.ring.add_lt _ _ t (byte_field.ring.mul_lt _ _ t (byte_field.ring.add_lt _ _ t h))

multiplied_byte : (d e a b g : ℕ) → d < 256 → e < 256 → a < 256 → b < 256 → g < 256
    → multiplied (on_shares bytes) (record { left = d; right = e }) (record { alpha = a; beta = b; gamma = g }) < 256
unfolding multiplied
multiplied_byte d e a b g hd he ha hb hg =
    let R = byte_field.ring in
    R.add_lt _ _ (R.mul_lt d e hd he) (R.add_lt _ _ (R.add_lt _ _ hg (R.mul_lt d b hd hb)) (R.mul_lt e a he ha))

pub zeros_at : (m j : ℕ) → get_or {A = ℕ} (replicate m 0) j 0 ≡ 0
zeros_at zero j = refl
zeros_at (suc m) zero = refl
zeros_at (suc m) (suc j) = zeros_at m j

module _ (round sum : ℕ) (kept sheet : List ℕ) (r : Ready round kept sheet) (os : List (Sides ℕ)) (many : length os ≡ width tree round) where
  abbrev pairs : List (Pair ℕ)
  pairs = level_pairs round sum kept sheet

  abbrev used : List (Triple ℕ)
  used = level_triples round sheet

  abbrev made : List ℕ
  made = products (on_shares bytes) os used

  abbrev after : List (Pair ℕ)
  after = merged (on_shares bytes) tree pairs made

  U : Wide round
  U = wide round r.least r.most

  made_many : length made ≡ width tree round
  made_many = products_length (on_shares bytes) os used (omega (arith, many, triples_many round sum kept sheet r)) ∙ many

  after_many : length after ≡ half round
  unfolding leaves uses
  after_many =
      merged_length (on_shares bytes) tree pairs made (omega (arith, made_many, pairs_many round sum kept sheet r, U.twice))
      ∙ ap (λ (k : ℕ). k - k / 2) (pairs_many round sum kept sheet r) ∙ omega (arith, U.twice)

  -- as many words as were said
  pub kept_words_many : length (pair_words after) ≡ width tree round
  kept_words_many = flat_length after ∙ omega (arith, after_many, U.twice)

  kept_front : (j : ℕ) → j < width tree round → get_or (level_kept round sum kept sheet os) j 0 ≡ get_or (pair_words after) j 0
  unfolding level_kept
  kept_front j h =
      get_or-take 32 (pair_words after ++ replicate 32 0) j 0 (omega (arith, U.twice, U.most))
      ∙ get_or-append (pair_words after) (replicate 32 0) 0 j (omega (arith, kept_words_many))

  product_at : (j : ℕ) → j < width tree round → get_or made j 0 ≡ multiplied (on_shares bytes) (get_or os j no_sides) (get_or used j no_triple)
  product_at j h = products_at (on_shares bytes) os used j (omega (arith, many)) (omega (arith, triples_many round sum kept sheet r))

  -- each is the next word of its place
  pub kept_at : (j : ℕ) → j < width tree round
      → get_or (level_kept round sum kept sheet os) j 0 ≡ next_word round sum kept sheet j (get_or os j no_sides).left (get_or os j no_sides).right
  unfolding next_word
  kept_at j h =
      elim (ℕ_discrete (j % 2) 0) [
        | yes even ↦
            let i : 2 * (j / 2) ≡ j = omega arith in
            kept_front j h ∙ ap (λ (k : ℕ). get_or (pair_words after) k 0) (sym i)
            ∙ (flat_at after (j / 2) (omega (arith, after_many, U.twice))).0
            ∙ ap (λ (z : Pair ℕ). z.top) (merged_at (on_shares bytes) pairs made (j / 2) (omega (arith, pairs_many round sum kept sheet r, U.twice)) (omega (arith, made_many, U.twice)))
            ∙ ap (λ (k : ℕ). get_or made k 0) i ∙ product_at j h ∙ sym (rw (eq-eqb (j % 2) 0 even))
        | no odd ↦
            let i : 2 * (j / 2) + 1 ≡ j = omega (arith, odd) in
            kept_front j h ∙ ap (λ (k : ℕ). get_or (pair_words after) k 0) (sym i)
            ∙ (flat_at after (j / 2) (omega (arith, after_many, U.twice))).1
            ∙ ap (λ (z : Pair ℕ). z.bottom) (merged_at (on_shares bytes) pairs made (j / 2) (omega (arith, pairs_many round sum kept sheet r, U.twice)) (omega (arith, made_many, U.twice)))
            ∙ ap (λ (k : ℕ). bytes.add (get_or made k 0) (get_or pairs k no_pair).bottom) i
            ∙ ap (λ (x : ℕ). bytes.add x (get_or pairs j no_pair).bottom) (product_at j h) ∙ sym (rw (ne_eqb (j % 2) 0 odd))
      ]

  -- and there are 32, of which those past are 0
  pub kept_length : length (level_kept round sum kept sheet os) ≡ 32
  unfolding level_kept
  kept_length = simp (length-take, length-append, length-replicate) (omega arith)

  pub kept_past : (j : ℕ) → width tree round ≤ j → j < 32 → get_or (level_kept round sum kept sheet os) j 0 ≡ 0
  unfolding level_kept
  kept_past j h l =
      let pw = pair_words after in
      let e : j ≡ length pw + (j - width tree round) = omega (arith, kept_words_many) in
      get_or-take 32 (pw ++ replicate 32 0) j 0 l ∙ ap (λ (k : ℕ). get_or (pw ++ replicate 32 0) k 0) e
      ∙ get_or-append-add pw (replicate 32 0) (j - width tree round) 0 ∙ zeros_at 32 (j - width tree round)

  -- they are bytes, where the products are opened to bytes
  module _ (opened : (j : ℕ) → j < width tree round → ((get_or os j no_sides).left < 256) × ((get_or os j no_sides).right < 256)) where
    bottom_byte : (j : ℕ) → j < width tree round → (get_or pairs j no_pair).bottom < 256
    bottom_byte j h =
        elim (ℕ_discrete round 2) [
          | yes two ↦
              elim (ℕ_discrete j 0) [
                | yes none ↦
                    rw (none, first_pair round sum kept sheet r two)
                    (first_carry_byte (get_or sheet 1 0) (sheet_byte round sum kept sheet r 1 (lit< tt) (lit< tt)))
                | no some ↦
                    rw (next_pair round sum kept sheet r two j some h)
                    (rw (public_share (bit (j + 1) sum) (get_or sheet (j + 1) 0) (bit_byte (j + 1) sum) (sheet_byte round sum kept sheet r (j + 1) (omega arith) (omega (arith, U.twice, U.most))))
                    (bit_byte (j + 1) sum))
              ]
          | no other ↦
              rw (later_pair round sum kept sheet r other j h) (kept_byte round sum kept sheet r (2 * j + 1) (omega (arith, U.twice, U.later other)))
        ]
      where
        first_carry_byte : (b : ℕ) → b < 256 → first_carry (on_shares bytes) sum b < 256
        first_carry_byte b hb = carry_byte sum b hb

    word_byte : (j : ℕ) → j < width tree round → get_or (level_kept round sum kept sheet os) j 0 < 256
    unfolding next_word
    word_byte j h =
        let p = product_byte j h in
        rw (kept_at j h)
        (split (eqb (j % 2) 0) p (byte_field.ring.add_lt _ _ p (bottom_byte j h)))
      where
        product_byte : (j : ℕ) → j < width tree round
            → multiplied (on_shares bytes) (record { left = (get_or os j no_sides).left; right = (get_or os j no_sides).right }) (get_or used j no_triple) < 256
        product_byte j h =
            let t = triple_at round sum kept sheet r j h in
            let place : (k : ℕ) → k ≤ 2 → 34 + 3 * (64 - 2 * width tree round + j) + k < 220 = λ k l. omega (arith, U.twice, U.some, U.most) in
            rw t
            (multiplied_byte (get_or os j no_sides).left (get_or os j no_sides).right _ _ _ (opened j h).0 (opened j h).1
            (sheet_byte round sum kept sheet r (34 + 3 * (64 - 2 * width tree round + j)) (omega arith) (omega (arith, place 0 (omega arith))))
            (sheet_byte round sum kept sheet r (34 + 3 * (64 - 2 * width tree round + j) + 1) (omega arith) (place 1 (omega arith)))
            (sheet_byte round sum kept sheet r (34 + 3 * (64 - 2 * width tree round + j) + 2) (omega arith) (place 2 (omega arith))))

        split : (b : Bool) {x y : ℕ} → x < 256 → y < 256 → cond b x y < 256
        split true hx hy = hx
        split false hx hy = hy

    pub kept_small : every (λ w. ltb w 256) (level_kept round sum kept sheet os) ≡ true
    kept_small =
        every_of (λ w. ltb w 256) (level_kept round sum kept sheet os)
        (λ i h. lt-ltb (get_or (level_kept round sum kept sheet os) i 0) 256
        (elim (dec_le (width tree round) i) [
          | yes past ↦ rw (kept_past i past (omega (arith, kept_length))) (lit< tt)
          | no before ↦ word_byte i (omega arith)
        ]))
