-- What the number of a product says of its opening. Assumes nothing.
use Rattle.std.specs.Prelude.{None, Some}
use mathlib.Core.Path.{◌≡◌, refl, sym, ap, ap₂, ◌∙◌}
use mathlib.Core.Bool.{Bool, true, false, cond, not, ◌&&◌}
use mathlib.Core.List.{List, [], ◌∷◌, ◌++◌, map}
use Prim.Native.Nat.{ℕ, suc, ◌+◌, ◌-◌, ◌*◌, ◌/◌, ◌%◌, ◌≤◌, ◌<◌}
use native.Mathlib.Omega.{arith}
use lib.Bits.{bit_or, or_lt, or_add_and, and_le_l, and_le_r}
use lib.Dec.{ltb}
use lib.ListN.{length, take, drop, get_or, set, replicate, length-map, length-drop, drop_of_length-le, get_or-map, take-append-drop}
use lib.Seq.{take_all, drop-cons, get_or-drop, ext_get_or}
use borrow.Author.Tests.{lt-ltb, le-ltb, ltb-true, ltb-false}
use Rattle.fields.specs.Byte.{xor, bytes}
use Rattle.ranges.specs.Lists.{from, every}
use Rattle.ranges.proofs.Loops.{and-true, fill, length_from, map_from}
use Rattle.sharing.specs.Scheme.{threshold, points}
use Rattle.weights.specs.Rows.{byte_rows, byte_scheme}
use Rattle.openings.specs.Opening.{moments}
use Rattle.openings.specs.Packed.{packed}
use Rattle.openings.specs.Opening.{Opening}
use Rattle.openings.proofs.Laws.{byte_fits}
use Rattle.openings.proofs.Packed.{from_place}
use Rattle.openings.proofs.Parts.{lows, highs}
use Rattle.openings.proofs.Settled.{Counted}
use Rattle.openings.proofs.Weighted.{weighted, readable_lows, readable_highs, one_turn, before_all, low_read, high_read}
use Rattle.presence.specs.Presence.{everyone}
use Rattle.present_openings.specs.Present.{opened_by}
use Rattle.present_openings.proofs.Laws.{by_everyone}
use Rattle.opening_rows.specs.Rows.{terms, brought}
use Rattle.ways.specs.Way.{tree, width}
use Rattle.level.proofs.Laws.{zeros_at}
use Rattle.round.specs.Round.{factors_of, unopened}
use Rattle.round.proofs.Opened.{opened_lt, heard_factors}
use Rattle.level_round.specs.Columns.{column, column_heard, heard_sides, level_opened, level_sides}
use Rattle.level_round.specs.Words.{product_word, word_sides, IsByte, column_word, column_words}
use Rattle.level_round.proofs.Laws.{column_length, column_at}

-- what opens is a byte
pub opened_byte : (n : ℕ) (present words : List ℕ) → IsByte (opened_by byte_scheme n present words)
opened_byte n present words = go (opened_by byte_scheme n present words) refl
  where
    go : (o : Opening) → opened_by byte_scheme n present words ≡ o → IsByte o
    go (Some v) e = opened_lt n v present words e
    go None e = tt

-- ---- whether a product opens, and what to

word_opens : (low high : Opening) → IsByte low → IsByte high → ltb (product_word low high) 65536 ≡ not (unopened (factors_of low high))
word_opens (Some d) (Some e) hd he = lt-ltb (d + 256 * e) 65536 (omega arith)
word_opens (Some d) None hd he = refl
word_opens None high hd he = refl

sided : (d e : ℕ) → d < 256 → word_sides (d + 256 * e) ≡ record { left = d; right = e }
sided d e h =
    let l : (d + 256 * e) % 256 ≡ d = omega arith in
    let r : (d + 256 * e) / 256 ≡ e = omega arith in
    ap₂ (λ (x y : ℕ). record { left = x; right = y }) l r

word_sided : (low high : Opening) → IsByte low → ltb (product_word low high) 65536 ≡ true → word_sides (product_word low high) ≡ heard_sides (factors_of low high)
word_sided (Some d) (Some e) hd t = sided d e hd
word_sided (Some d) None hd t = let l = ltb-true 65536 65536 t in absurd (omega arith)
word_sided None high hd t = let l = ltb-true 65536 65536 t in absurd (omega arith)

-- ---- all products of a level

module _ (f : ℕ → ℕ) (test : ℕ → Bool) where
  every_map : (g : ℕ → Bool) → ((k : ℕ) → test (f k) ≡ g k) → (xs : List ℕ) → every test (map f xs) ≡ every g xs
  unfolding every
  every_map g e [] = refl
  every_map g e (x ∷ xs) = ap₂ ◌&&◌ (e x) (every_map g e xs)

  map_passed : {A : Type 0} (g h : ℕ → A) → ((k : ℕ) → test (f k) ≡ true → g (f k) ≡ h k) → (xs : List ℕ) → every test (map f xs) ≡ true
      → map g (map f xs) ≡ map h xs
  unfolding every
  map_passed g h e [] t = refl
  map_passed {A} g h e (x ∷ xs) t =
      let p = and-true (test (f x)) (every test (map f xs)) t in
      ap₂ (λ (y : A) (ys : List A). y ∷ ys) (e x p.0) (map_passed g h e xs p.1)

module _ (n w : ℕ) (present messages : List ℕ) where
  pub words_length : length (column_words n w present messages) ≡ w
  unfolding column_words
  words_length = length-map (from 0 w) (column_word n w present messages) ∙ length_from 0 w

  words_at : (j : ℕ) → j < w → get_or (column_words n w present messages) j 0 ≡ column_word n w present messages j
  unfolding column_words
  words_at j h =
      let z : 0 + j ≡ j = omega arith in
      map_from (column_word n w present messages) 0 0 w j h ∙ ap (column_word n w present messages) z

  -- a loop that fills them, and has all in the end
  pub one_filled : (products : List ℕ) (j v : ℕ) → j < length products → length products ≡ w → v ≡ column_word n w present messages j
      → take j products ≡ take j (column_words n w present messages) → take (j + 1) (set products j v) ≡ take (j + 1) (column_words n w present messages)
  one_filled products j v h l e before =
      fill products (column_words n w present messages) j v h (omega (arith, words_length)) (e ∙ sym (words_at j (omega arith))) before

  pub all_filled : (products : List ℕ) (j : ℕ) → length products ≤ j → length products ≡ w → take j products ≡ take j (column_words n w present messages)
      → products ≡ column_words n w present messages
  all_filled products j h l before =
      sym (take_all j products h) ∙ before ∙ take_all j (column_words n w present messages) (omega (arith, words_length))

module _ (n round : ℕ) (present messages : List ℕ) (least : 2 ≤ round) (most : round ≤ 32) where
  abbrev word : ℕ → ℕ
  word j = column_word n (width tree round) present messages j

  abbrev part : (ℕ → ℕ) → ℕ → Opening
  part f j = opened_by byte_scheme n present (map f (column n (width tree round) j messages))

  byte : (f : ℕ → ℕ) (j : ℕ) → IsByte (part f j)
  byte f j = opened_byte n present (map f (column n (width tree round) j messages))

  -- a column is judged as a round 2 to 32
  judged : (j : ℕ) → factors_of (part (λ v. v % 256) j) (part (λ v. v / 256) j) ≡ column_heard n round present messages j
  unfolding column_heard
  judged j = sym (heard_factors n round present (column n (width tree round) j messages) (λ e. omega arith) most)

  column_opens : (j : ℕ) → ltb (word j) 65536 ≡ not (unopened (column_heard n round present messages j))
  unfolding column_word
  column_opens j =
      word_opens (part (λ v. v % 256) j) (part (λ v. v / 256) j) (byte (λ v. v % 256) j) (byte (λ v. v / 256) j)
      ∙ ap (λ h. not (unopened h)) (judged j)

  column_sided : (j : ℕ) → ltb (word j) 65536 ≡ true → word_sides (word j) ≡ heard_sides (column_heard n round present messages j)
  unfolding column_word
  column_sided j t = word_sided (part (λ v. v % 256) j) (part (λ v. v / 256) j) (byte (λ v. v % 256) j) t ∙ ap heard_sides (judged j)

  pub words_opened : every (λ v. ltb v 65536) (column_words n (width tree round) present messages) ≡ level_opened n round present messages
  unfolding column_words level_opened
  words_opened = every_map word (λ v. ltb v 65536) (λ j. not (unopened (column_heard n round present messages j))) column_opens (from 0 (width tree round))

  pub words_sides : every (λ v. ltb v 65536) (column_words n (width tree round) present messages) ≡ true
      → map word_sides (column_words n (width tree round) present messages) ≡ level_sides n round present messages
  unfolding column_words level_sides
  words_sides = map_passed word (λ v. ltb v 65536) word_sides (λ j. heard_sides (column_heard n round present messages j)) column_sided (from 0 (width tree round))

-- ---- what is kept: as many words, and past them 0

pub whole_kept : (K : List ℕ) (w : ℕ) → length K ≡ 32 → w ≤ 32 → ((i : ℕ) → w ≤ i → i < 32 → get_or K i 0 ≡ 0) → take w K ++ drop w (replicate 32 0) ≡ K
whole_kept K w l h past = ap (λ (z : List ℕ). take w K ++ z) (sym rest) ∙ take-append-drop w K
  where
    rest : drop w K ≡ drop w (replicate 32 0)
    rest =
        ext_get_or 0 (drop w K) (drop w (replicate 32 0)) (simp length-drop (omega (arith, l)))
        (λ i m. let k = simp length-drop at m in
        get_or-drop w K i 0 ∙ past (w + i) (omega arith) (omega (arith, l, k)) ∙ sym (get_or-drop w (replicate 32 0) i 0 ∙ zeros_at 32 (w + i)))

-- ---- by rows

product_read : (low high : ℕ) (a b c : Bool)
    → product_word (cond b (Some low) None) (cond (a && c) (Some high) None) ≡ cond (a && b && c) (low + 256 * high) 65536
product_read low high true true true = refl
product_read low high true true false = refl
product_read low high true false c = refl
product_read low high false true c = refl
product_read low high false false c = refl

or_small : (a b : ℕ) → ltb (bit_or a b) 65536 ≡ ltb b 65536 && ltb a 65536
or_small a b = go (ltb b 65536) (ltb a 65536) refl refl
  where
    go : (p q : Bool) → ltb b 65536 ≡ p → ltb a 65536 ≡ q → ltb (bit_or a b) 65536 ≡ p && q
    go true true hb ha = lt-ltb (bit_or a b) 65536 (or_lt 16 a b (ltb-true a 65536 ha) (ltb-true b 65536 hb))
    go true false hb ha =
        le-ltb (bit_or a b) 65536 (omega (arith, or_add_and a b, and_le_r a b, ltb-false a 65536 ha))
    go false q hb ha = le-ltb (bit_or a b) 65536 (omega (arith, or_add_and a b, and_le_l a b, ltb-false b 65536 hb))

-- the sums of a column from party i + 1 on, and whether the words there are below 65,536
module _ (n w j : ℕ) (messages : List ℕ) where
  abbrev pub low_from : ℕ → ℕ
  low_from i = from_place (n - threshold n) (points n) (weighted n (lows (column n w j messages))) i

  abbrev pub high_from : ℕ → ℕ
  high_from i = from_place (n - threshold n) (points n) (weighted n (highs (column n w j messages))) i

  abbrev pub small_from : ℕ → Bool
  small_from i = every (λ v. ltb v 65536) (drop i (column n w j messages))

pub one_less : (i w : ℕ) → 0 < i → i * w ≡ (i - 1) * w + w
one_less i w h =
    let e : i ≡ i - 1 + 1 = omega arith in
    let m : (i - 1 + 1) * w ≡ (i - 1) * w + w = omega arith in
    ap (λ (k : ℕ). k * w) e ∙ m

-- a turn of the loop over a column, from the last party on
module _ (n w j : ℕ) (messages : List ℕ) (least : 3 ≤ n) (most : n ≤ 9) where
  abbrev words : List ℕ
  words = column n w j messages

  many : Counted n words
  many = (least, most, column_length n w j messages)

  pub start_low : 0 ≡ low_from n w j messages n
  start_low = before_all n (lows words) (readable_lows n words many)

  pub start_high : 0 ≡ high_from n w j messages n
  start_high = before_all n (highs words) (readable_highs n words many)

  pub start_small : ltb 0 65536 ≡ small_from n w j messages n
  unfolding every
  start_small =
      let past : length words ≤ n = omega (arith, column_length n w j messages) in
      sym (ap (every (λ v. ltb v 65536)) (drop_of_length-le words past))

  module _ (i at : ℕ) (h : 0 < i) (l : i ≤ n) (place : at ≡ j + (i - 1) * w) where
    word_at : get_or words (i - 1) 0 ≡ get_or messages at 0
    word_at = column_at n w j messages (i - 1) (omega arith) ∙ ap (λ (k : ℕ). get_or messages k 0) (sym place)

    next : (v byte : ℕ) → v ≡ brought n (i - 1) byte
        → v ≡ packed (moments bytes (n - threshold n) (i ∷ []) (bytes.mul (get_or (get_or byte_rows (n - 3) []) (i - 1) 0) byte ∷ []))
    unfolding terms
    next v byte e =
        let p : i - 1 + 1 ≡ i = omega arith in
        e ∙ ap (λ (x : ℕ). packed (moments bytes (n - threshold n) (x ∷ []) (bytes.mul (get_or (get_or byte_rows (n - 3) []) (i - 1) 0) byte ∷ []))) p

    pub turn_low : (all v : ℕ) → all ≡ low_from n w j messages i → v ≡ brought n (i - 1) (get_or messages at 0 % 256) → xor all v ≡ low_from n w j messages (i - 1)
    turn_low all v ea ev =
        one_turn n (lows words) (readable_lows n words many) i (threshold n) all v _ _ h l refl refl
        (ap (λ (z : ℕ). z % 256) (sym word_at) ∙ sym (get_or-map (λ z. z % 256) words (i - 1) 0)) ea (next v _ ev)

    pub turn_high : (all v : ℕ) → all ≡ high_from n w j messages i → v ≡ brought n (i - 1) (get_or messages at 0 / 256 % 256) → xor all v ≡ high_from n w j messages (i - 1)
    turn_high all v ea ev =
        one_turn n (highs words) (readable_highs n words many) i (threshold n) all v _ _ h l refl refl
        (ap (λ (z : ℕ). z / 256 % 256) (sym word_at) ∙ sym (get_or-map (λ z. z / 256 % 256) words (i - 1) 0)) ea (next v _ ev)

    pub turn_small : (bits : ℕ) → ltb bits 65536 ≡ small_from n w j messages i → ltb (bit_or bits (get_or messages at 0)) 65536 ≡ small_from n w j messages (i - 1)
    unfolding every
    turn_small bits e =
        let p : suc (i - 1) ≡ i = omega arith in
        or_small bits (get_or messages at 0)
        ∙ ap₂ (λ (v : ℕ) (s : Bool). ltb v 65536 && s) (sym word_at) (e ∙ ap (small_from n w j messages) (sym p))
        ∙ sym (ap (every (λ v. ltb v 65536)) (drop-cons words (i - 1) 0 (omega (arith, column_length n w j messages))))

  pub by_rows : (low high bits : ℕ) → low ≡ low_from n w j messages 0 → high ≡ high_from n w j messages 0 → ltb bits 65536 ≡ small_from n w j messages 0
      → column_word n w (everyone n) messages j ≡ cond (ltb bits 65536 && ltb low 256 && ltb high 256) (low + 256 * high) 65536
  unfolding column_word
  by_rows low high bits el eh es =
      ap₂ product_word (sym (by_everyone byte_fits n (lows words)) ∙ sym (low_read n words many low el))
      (sym (by_everyone byte_fits n (map (λ v. v / 256) words)) ∙ sym (high_read n words many high eh)
      ∙ ap (λ (b : Bool). cond (b && ltb high 256) (Some high) None) (sym es))
      ∙ product_read low high (ltb bits 65536) (ltb low 256) (ltb high 256)
