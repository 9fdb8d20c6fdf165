-- The parts of a record among its words: ten numbers, the roll's 16, what came later, and the pairs' 32. Assumes nothing.
use mathlib.Core.Path.{◌≡◌, sym, ap, ap₂, ◌∙◌}
use mathlib.Core.List.{List, ◌++◌, append_assoc, append-nil, map}
use Prim.Native.Nat.{ℕ, ◌+◌, ◌≤◌, ◌<◌}
use native.Mathlib.Omega.{arith}
use lib.ListN.{length, get_or, take, drop, length-map, length-append, length-drop, drop_of_length-le, take-append-drop}
use lib.Seq.{length-take-le, take_all, take_at, get_or-take, get_or-drop, drop-drop, ext_get_or}
use borrow.Rule.Slice.PartMut.{put_mid}
use Rattle.ranges.specs.Lists.{from}
use Rattle.ranges.proofs.Loops.{length_from, map_from}
use Rattle.roll.specs.declared.Roll.{Roll}
use Rattle.record.specs.declared.Party.{Party}
use Rattle.record_words.specs.Words.{record_size, later_words, words_of, party_of}

-- ---- read

-- m words from a on, where they stand and one by one
part : (words : List ℕ) (a m : ℕ) → a + m ≤ length words → take m (drop a words) ≡ map (λ i. get_or words i 0) (from a m)
part words a m h =
    let some : length (take m (drop a words)) ≡ m = length-take-le m (drop a words) (omega (arith, length-drop a words)) in
    ext_get_or 0 _ _ (some ∙ sym (length-map (from a m) (λ i. get_or words i 0) ∙ length_from a m))
    (λ i l.
    let in_part : i < m = omega (arith, some) in
    get_or-take m (drop a words) i 0 in_part ∙ get_or-drop a words i 0 ∙ sym (map_from (λ j. get_or words j 0) 0 a m i in_part))

module _ (words : List ℕ) (long : length words ≡ record_size) where
  pub roll_part : take 16 (drop 10 words) ≡ (party_of words).roll.words
  unfolding party_of
  roll_part = part words 10 16 (omega (arith, long))

  pub roll_long : length (party_of words).roll.words ≡ 16
  roll_long = sym (ap length roll_part) ∙ length-take-le 16 (drop 10 words) (omega (arith, long, length-drop 10 words))

  pub pairs_part : take 32 (drop 32 words) ≡ (party_of words).pairs.words
  unfolding party_of
  pairs_part = part words 32 32 (omega (arith, long))

  -- the record that is read, written again
  pub written_back : words_of (party_of words) ≡ words
  unfolding words_of party_of from
  written_back = sym (part words 0 64 (omega (arith, long))) ∙ take_all 64 words (omega (arith, long))

-- ---- written

-- m words from a on are new
pub put_part : (a m : ℕ) (words new : List ℕ) → put_mid a m words new ≡ take a words ++ new ++ drop (a + m) words
put_part a m words new =
    sym (append_assoc (take a words) new (drop m (drop a words))) ∙ ap (λ (rest : List ℕ). take a words ++ new ++ rest) (drop-drop m a words)

-- the numbers and the roll, what came later after them, and after that the pairs
abbrev pub front : Party → List ℕ
front q = take 10 (words_of q) ++ q.roll.words

abbrev pub before_pairs : Party → List ℕ
before_pairs q = front q ++ later_words q

pub all_parts : (q : Party) → words_of q ≡ before_pairs q ++ q.pairs.words
unfolding words_of
all_parts q = sym (append_assoc (front q) (later_words q) q.pairs.words)

module _ (q : Party) (long : length q.roll.words ≡ 16) where
  pub front_long : length (front q) ≡ 26
  unfolding words_of
  front_long = omega arith

  pub before_pairs_long : length (before_pairs q) ≡ 32
  before_pairs_long = length-append (front q) (later_words q) ∙ omega (arith, front_long)

  -- what came later is written
  pub later_joined : (rest rest' : List ℕ) → take 26 (front q ++ rest) ++ later_words q ++ rest' ≡ before_pairs q ++ rest'
  later_joined rest rest' = ap (λ (ws : List ℕ). ws ++ later_words q ++ rest') (take_at (front q) rest 26 front_long)

  -- and the pairs
  pub pairs_joined : (rest words : List ℕ) → words ≡ before_pairs q ++ rest → length words ≡ record_size → take 32 words ++ q.pairs.words ++ drop 64 words ≡ words_of q
  pairs_joined rest words e l =
      ap₂ (λ (a b : List ℕ). a ++ q.pairs.words ++ b) (ap (take 32) e ∙ take_at (before_pairs q) rest 32 before_pairs_long)
      (drop_of_length-le words {i = 64} (omega (arith, l)))
      ∙ append-nil (before_pairs q ++ q.pairs.words)
      ∙ sym (all_parts q)

  -- the numbers and what came later are written, where the roll stays and so do the pairs
  pub rest_kept : (words : List ℕ) → length words ≡ record_size → q.roll ≡ (party_of words).roll
      → let numbered = take 10 (words_of q) ++ drop 10 words in take 26 numbered ++ later_words q ++ drop 32 numbered ≡ before_pairs q ++ (party_of words).pairs.words
  unfolding words_of
  rest_kept words l same =
      let rest = drop 16 (drop 10 words) in
      let roll : q.roll.words ++ rest ≡ drop 10 words =
      ap (λ (r : Roll). r.words ++ rest) same ∙ ap (λ (ws : List ℕ). ws ++ rest) (sym (roll_part words l)) ∙ take-append-drop 16 (drop 10 words) in
      let pairs : drop 22 (drop 10 words) ≡ (party_of words).pairs.words =
      drop-drop 22 10 words ∙ sym (take_all 32 (drop 32 words) (omega (arith, l, length-drop 32 words))) ∙ pairs_part words l in
      ap (λ (ws : List ℕ). take 26 (take 10 (words_of q) ++ ws) ++ later_words q ++ drop 32 (take 10 (words_of q) ++ drop 10 words)) (sym roll)
      ∙ later_joined rest (drop 22 (drop 10 words))
      ∙ ap (λ (ws : List ℕ). before_pairs q ++ ws) pairs
