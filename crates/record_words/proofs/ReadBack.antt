-- The words hold all of a record: what one call writes, the next one reads. Assumes nothing.
use mathlib.Core.Path.{◌≡◌, sym, ap, ◌∙◌}
use mathlib.Core.List.{List, ◌++◌}
use lib.Dec.{lit<}
use Prim.Native.Nat.{ℕ, ◌+◌, ◌<◌}
use native.Mathlib.Omega.{arith}
use lib.ListN.{length, take, drop, get_or, length-append, get_or-append}
use lib.Seq.{take_all, take_at, drop_at, get_or-append-add}
use Rattle.record.specs.declared.Party.{Party}
use Rattle.record_words.specs.Words.{record_size, later_words, words_of, party_of}
use Rattle.record_words.proofs.Parts.{roll_part, pairs_part, front, before_pairs, front_long, before_pairs_long, all_parts}

module _ (q : Party) (long : length q.roll.words ≡ 16) (many : length q.pairs.words ≡ 32) where
  size : length (words_of q) ≡ record_size
  size = ap length (all_parts q) ∙ length-append (before_pairs q) q.pairs.words ∙ omega (arith, before_pairs_long q long)

  after_roll : (i : ℕ) → i < 6 → get_or (words_of q) (26 + i) 0 ≡ get_or (later_words q) i 0
  unfolding words_of
  after_roll i h =
      ap (λ (m : ℕ). get_or (words_of q) (m + i) 0) (sym (front_long q long))
      ∙ get_or-append-add (front q) (later_words q ++ q.pairs.words) i 0
      ∙ get_or-append (later_words q) q.pairs.words 0 i h

  roll_back : (party_of (words_of q)).roll.words ≡ q.roll.words
  unfolding words_of
  roll_back = sym (roll_part (words_of q) size) ∙ take_at q.roll.words (later_words q ++ q.pairs.words) 16 long

  pairs_back : (party_of (words_of q)).pairs.words ≡ q.pairs.words
  pairs_back =
      sym (pairs_part (words_of q) size)
      ∙ ap (λ (ws : List ℕ). take 32 (drop 32 ws)) (all_parts q)
      ∙ ap (take 32) (drop_at (before_pairs q) q.pairs.words 32 (before_pairs_long q long))
      ∙ take_all 32 q.pairs.words (omega (arith, many))

  pub reads_back : party_of (words_of q) ≡ q
  unfolding words_of party_of
  reads_back =
      rw (roll_back, pairs_back, after_roll 0 (lit< tt), after_roll 1 (lit< tt), after_roll 2 (lit< tt), after_roll 3 (lit< tt), after_roll 4 (lit< tt), after_roll 5 (lit< tt))
