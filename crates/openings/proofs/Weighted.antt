-- Readable bytes with their weights, and what they open to. Assumes nothing.
use Rattle.std.specs.Prelude.{None, Some}
use mathlib.Core.Path.{◌≡◌, refl, sym, ap, ap₂, ◌∙◌}
use mathlib.Core.Bool.{Bool, true, false, cond, ◌&&◌}
use mathlib.Core.List.{List, [], ◌∷◌, map}
use Prim.Native.Nat.{ℕ, suc, ◌+◌, ◌-◌, ◌/◌, ◌%◌, ◌≤◌, ◌<◌}
use native.Mathlib.Nat.{mod-lt}
use native.Mathlib.Omega.{arith}
use lib.Dec.{leb, ltb, eqb, lit<}
use lib.ListN.{length, get_or, length-map}
use lib.Seq.{get_or-take}
use borrow.Author.Tests.{ltb-true}
use Rattle.fields.specs.Byte.{xor, bytes}
use Rattle.openings.specs.Packed.{packed}
use Rattle.fields.proofs.Fields.{byte_field}
use Rattle.fields.proofs.Xor as xors
use Rattle.fields.proofs.Test.{is_true, at}
use Rattle.ranges.specs.Below.{AllBelow}
use Rattle.ranges.specs.Lists.{every}
use Rattle.ranges.proofs.Loops.{and_false, length_from, getD_from, every_at}
use Rattle.ranges.proofs.Ranges.{all_below}
use Rattle.sharing.specs.Scheme.{threshold, points}
use Rattle.sharing.proofs.Points.{different_points, points_below}
use Rattle.weights.specs.Rows.{weights, byte_rows, byte_scheme}
use Rattle.weights.specs.Products.{products}
use Rattle.weights.proofs.Products.{length_weights, length_weighted, getD_weighted}
use Rattle.openings.specs.Opening.{moments, readable, settled, opened}
use Rattle.openings.proofs.Rows.{byte_weights}
use Rattle.openings.proofs.Settled.{Counted, Readable, is_readable, cond_true}
use Rattle.openings.proofs.Sums.{unreadable}
use Rattle.openings.proofs.Parts.{lows, highs, bytes_below, lows_same, highs_same, every_two}
use Rattle.openings.proofs.Packed.{products_lt, from_place, none_left, one_on, one_back, settled_packed}

-- the words with their weights
abbrev pub weighted : ℕ → List ℕ → List ℕ
weighted n words = products bytes (weights byte_scheme n) words

-- the sums of the words from place i on
abbrev pub left : ℕ → List ℕ → ℕ → ℕ
left n words i = from_place (n - threshold n) (points n) (weighted n words) i

-- they are readable, whatever the words are
module _ (n : ℕ) (words : List ℕ) (C : Counted n words) where
  readable_bytes : (f : ℕ → ℕ) → ((w : ℕ) → f w < 256) → Readable 256 n (map f words)
  readable_bytes f h =
      record { least = C.0; most = C.1; long = length-map words f ∙ C.2; small = bytes_below f h words }

  pub readable_lows : Readable 256 n (lows words)
  readable_lows = readable_bytes (λ w. w % 256) (λ w. mod-lt w (lit< tt))

  pub readable_highs : Readable 256 n (highs words)
  readable_highs = readable_bytes (λ w. w / 256 % 256) (λ w. mod-lt (w / 256) (lit< tt))

-- no weight of n parties is 0
weight_test : ℕ → Bool
weight_test k = every (ltb 0) (weights byte_scheme (k + 3))

pub weight_positive : (n i : ℕ) → 3 ≤ n → n ≤ 9 → i < n → 0 < get_or (get_or byte_rows (n - 3) []) i 0
unfolding weight_test every
weight_positive n i least most h =
    let e : n - 3 + 3 ≡ n = omega arith in
    let t : every (ltb 0) (weights byte_scheme n) ≡ true =
    ap (λ (k : ℕ). every (ltb 0) (weights byte_scheme k)) (sym e) ∙ is_true _ (at weight_test 7 tt (n - 3) (omega arith)) in
    ltb-true 0 _
    (ap (ltb 0) (sym (get_or-take n (get_or byte_rows (n - 3) []) i 0 h))
    ∙ every_at (ltb 0) (weights byte_scheme n) i t (rw (length_weights byte_scheme tt n least most) h))

module _ (n : ℕ) (words : List ℕ) (R : Readable 256 n words) where
  weighted_many : length (weighted n words) ≡ n
  weighted_many = length_weighted byte_scheme tt n R.least R.most words R.long

  same : length (points n) ≡ length (weighted n words)
  same = length_from 1 n ∙ sym weighted_many

  points_lt : AllBelow 256 (points n)
  points_lt = points_below byte_field (points n) (different_points n R.most)

  weighted_lt : AllBelow 256 (weighted n words)
  weighted_lt = products_lt (weights byte_scheme n) words (byte_weights n R.least R.most).weights_lt (all_below 256 words R.small)

  -- what the word at place i brings
  brings : (i t v word : ℕ) (row : List ℕ) → i < n → t ≡ threshold n → row ≡ get_or byte_rows (n - 3) [] → word ≡ get_or words i 0
      → v ≡ packed (moments bytes (n - t) ((i + 1) ∷ []) (bytes.mul (get_or row i 0) word ∷ []))
      → v ≡ packed (moments bytes (n - threshold n) (get_or (points n) i 0 ∷ []) (get_or (weighted n words) i 0 ∷ []))
  brings i t v word row h et er ew ev =
      let next : i + 1 ≡ 1 + i = omega arith in
      let x : i + 1 ≡ get_or (points n) i 0 = next ∙ sym (getD_from 1 n i h) in
      let y : bytes.mul (get_or row i 0) word ≡ get_or (weighted n words) i 0 =
      ap₂ (λ (r : List ℕ) (w : ℕ). bytes.mul (get_or r i 0) w) er ew
      ∙ sym (getD_weighted byte_scheme tt n R.least R.most words R.long i h) in
      ev ∙ ap (λ (k : ℕ). packed (moments bytes (n - k) ((i + 1) ∷ []) (bytes.mul (get_or row i 0) word ∷ []))) et
      ∙ ap₂ (λ (a b : ℕ). packed (moments bytes (n - threshold n) (a ∷ []) (b ∷ []))) x y

  -- a turn of a loop over the words: what is there, with what is left, are the sums of all
  pub next_turn : (i t all v word : ℕ) (row : List ℕ) → i < n → t ≡ threshold n → row ≡ get_or byte_rows (n - 3) [] → word ≡ get_or words i 0
      → xor all (left n words i) ≡ left n words 0
      → v ≡ packed (moments bytes (n - t) ((i + 1) ∷ []) (bytes.mul (get_or row i 0) word ∷ []))
      → xor (xor all v) (left n words (i + 1)) ≡ left n words 0
  next_turn i t all v word row h et er ew ea ev =
      xors.assoc all v (left n words (i + 1))
      ∙ ap (xor all)
      (one_on (n - threshold n) (points n) (weighted n words) same points_lt weighted_lt i v (omega (arith, weighted_many))
      (brings i t v word row h et er ew ev))
      ∙ ea

  pub before_all : 0 ≡ left n words n
  before_all = none_left (n - threshold n) (points n) (weighted n words) same ∙ ap (left n words) weighted_many

  pub none_yet : xor 0 (left n words 0) ≡ left n words 0
  none_yet = xors.comm 0 _ ∙ xors.right_zero _

  pub all_there : (i all : ℕ) → i ≡ n → xor all (left n words i) ≡ left n words 0 → all ≡ left n words 0
  all_there i all e ea = sym (xors.right_zero all) ∙ ap (xor all) (before_all ∙ ap (left n words) (sym e)) ∙ ea

  -- a turn of a loop over the words, from the last on
  pub one_turn : (i t all v word : ℕ) (row : List ℕ) → 0 < i → i ≤ n → t ≡ threshold n → row ≡ get_or byte_rows (n - 3) [] → word ≡ get_or words (i - 1) 0
      → all ≡ left n words i
      → v ≡ packed (moments bytes (n - t) (i ∷ []) (bytes.mul (get_or row (i - 1) 0) word ∷ []))
      → xor all v ≡ left n words (i - 1)
  one_turn i t all v word row h l et er ew ea ev =
      let next : i ≡ i - 1 + 1 = omega arith in
      ap (λ (k : ℕ). xor k v) ea
      ∙ one_back (n - threshold n) (points n) (weighted n words) same points_lt weighted_lt i v h (omega (arith, weighted_many))
      (brings (i - 1) t v word row (omega arith) et er ew
      (ev ∙ ap (λ (k : ℕ). packed (moments bytes (n - t) (k ∷ []) (bytes.mul (get_or row (i - 1) 0) word ∷ []))) next))

  -- one sum at least
  more : n - threshold n ≡ suc (n - 1 - threshold n)
  more = omega (arith, R.least)

  read_on : opened byte_scheme n words ≡ settled (moments bytes (suc (n - 1 - threshold n)) (points n) (weighted n words))
  unfolding opened
  read_on =
      cond_true _ (settled (moments bytes (n - threshold n) (points n) (weighted n words))) (is_readable 256 n words R)
      ∙ ap (λ (k : ℕ). settled (moments bytes k (points n) (weighted n words))) more

  -- by the word that has all sums
  read_off : (all : ℕ) → all ≡ packed (moments bytes (n - threshold n) (points n) (weighted n words))
      → cond (ltb all 256) (Some all) None ≡ opened byte_scheme n words
  read_off all e =
      let e' : all ≡ packed (moments bytes (suc (n - 1 - threshold n)) (points n) (weighted n words)) =
      e ∙ ap (λ (k : ℕ). packed (moments bytes k (points n) (weighted n words))) more in
      ap (λ (k : ℕ). cond (ltb k 256) (Some k) None) e' ∙ sym (read_on ∙ settled_packed _ (points n) (weighted n words) weighted_lt)

-- ---- words of one byte, and of two

pub whole_read : (n : ℕ) (words : List ℕ) → Readable 256 n words → (all : ℕ) → all ≡ packed (moments bytes (n - threshold n) (points n) (weighted n (lows words)))
    → cond (ltb all 256) (Some all) None ≡ opened byte_scheme n words
whole_read n words R all e =
    read_off n words R all (e ∙ ap (λ (ws : List ℕ). packed (moments bytes (n - threshold n) (points n) (weighted n ws))) (lows_same words R.small))

module _ (n : ℕ) (words : List ℕ) where
  pub uncounted : leb 3 n && leb n 9 && eqb (length words) n ≡ false → (f : ℕ → ℕ) → opened byte_scheme n (map f words) ≡ None
  unfolding readable
  uncounted e f =
      unreadable byte_scheme n (map f words)
      (ap (λ (b : Bool). b && every (λ w. ltb w 256) (map f words)) (ap (λ (k : ℕ). leb 3 n && leb n 9 && eqb k n) (length-map words f) ∙ e))

  unread : every (λ w. ltb w 65536) words ≡ false → readable 256 n (map (λ w. w / 256) words) ≡ false
  unfolding readable
  unread e =
      let above : List ℕ = map (λ (w : ℕ). w / 256) words in
      and_false (leb 3 n && leb n 9 && eqb (length above) n) (every (λ w. ltb w 256) above) (every_two words ∙ e)

  module _ (C : Counted n words) (all : ℕ) where
    pub low_read : all ≡ packed (moments bytes (n - threshold n) (points n) (weighted n (lows words)))
        → cond (ltb all 256) (Some all) None ≡ opened byte_scheme n (lows words)
    low_read e = read_off n (lows words) (readable_lows n words C) all e

    pub high_read : all ≡ packed (moments bytes (n - threshold n) (points n) (weighted n (highs words)))
        → cond (every (λ w. ltb w 65536) words && ltb all 256) (Some all) None ≡ opened byte_scheme n (map (λ w. w / 256) words)
    high_read e = go (every (λ w. ltb w 65536) words) refl
      where
        go : (b : Bool) → every (λ w. ltb w 65536) words ≡ b → cond (b && ltb all 256) (Some all) None ≡ opened byte_scheme n (map (λ w. w / 256) words)
        go true t = read_off n (highs words) (readable_highs n words C) all e ∙ ap (opened byte_scheme n) (highs_same words t)
        go false t = sym (unreadable byte_scheme n (map (λ w. w / 256) words) (unread t))
