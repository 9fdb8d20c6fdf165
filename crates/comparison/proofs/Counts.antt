-- How many products a level has, and how many pairs and triples it leaves. Assumes nothing.
use mathlib.Core.Path.{◌≡◌, refl, ap, ◌∙◌}
use mathlib.Core.List.{List, [], ◌∷◌, map}
use Prim.Native.Nat.{ℕ, zero, suc, ◌+◌, ◌*◌, ◌≤◌}
use native.Mathlib.Omega.{arith}
use lib.ListN.{length, take, length-map, length-drop, length-take, length-append}
use Rattle.fields.specs.Byte.{bytes}
use Rattle.sharing.specs.Polynomial.{value}
use Rattle.comparison.specs.Local.{Local, on_polynomials}
use Rattle.comparison.specs.Probe.{SheetCoins, SheetInRange, Probe, bit_polynomials, triple_polynomials, sheet_polynomials, triple_words, sheet_shares, opened, said, next, pairs_after, started}
use Rattle.ways.specs.Way.{Way, chain, tree, uses, leaves, levels_of, triples_of}
use Rattle.comparison.specs.Pairs.{Triple, Pair, Sides, unused, later_pairs, first_pairs, sides, said_of, products, merged}
use Rattle.comparison.proofs.Dealt.{bit_polynomials_length}

module _ {X : Type 0} (L : Local X) where
  later_pairs_length : (T i : ℕ) (bs : List X) → length (later_pairs L T i bs) ≡ length bs
  unfolding later_pairs
  later_pairs_length T i [] = refl
  later_pairs_length T i (b ∷ bs) = ap suc (later_pairs_length T (suc i) bs)

  pub first_pairs_length : (T : ℕ) (bs : List X) → length (first_pairs L T bs) ≡ length bs
  unfolding first_pairs
  first_pairs_length T [] = refl
  first_pairs_length T (b ∷ bs) = ap suc (later_pairs_length T 2 bs)

  pub sides_length : (w : Way) (ps : List (Pair X)) → length (sides L w ps) ≡ uses w (length ps)
  unfolding sides uses
  sides_length chain [] = refl
  sides_length chain (a ∷ []) = refl
  sides_length chain (a ∷ b ∷ ps) = refl
  sides_length tree [] = refl
  sides_length tree (a ∷ []) = refl
  sides_length tree (a ∷ b ∷ ps) = omega (arith, sides_length tree ps)

  pub said_of_length : (ss : List (Sides X)) (ts : List (Triple X)) → length ss ≤ length ts → length (said_of L ss ts) ≡ length ss
  unfolding said_of
  said_of_length [] ts h = refl
  said_of_length (s ∷ ss) [] h = absurd (omega arith)
  said_of_length (s ∷ ss) (t ∷ ts) h = ap suc (said_of_length ss ts (omega arith))

  pub products_length : (os : List (Sides ℕ)) (ts : List (Triple X)) → length os ≤ length ts → length (products L os ts) ≡ length os
  unfolding products
  products_length [] ts h = refl
  products_length (o ∷ os) [] h = absurd (omega arith)
  products_length (o ∷ os) (t ∷ ts) h = ap suc (products_length os ts (omega arith))

  pub merged_length : (w : Way) (ps : List (Pair X)) (ms : List X) → uses w (length ps) ≤ length ms → length (merged L w ps ms) ≡ leaves w (length ps)
  unfolding merged uses leaves
  merged_length chain [] ms h = refl
  merged_length chain (a ∷ []) ms h = refl
  merged_length chain (a ∷ b ∷ ps) [] h = absurd (omega arith)
  merged_length chain (a ∷ b ∷ ps) (n ∷ ms) h = omega arith
  merged_length tree [] ms h = refl
  merged_length tree (a ∷ []) ms h = refl
  merged_length tree (a ∷ b ∷ ps) [] h = absurd (omega arith)
  merged_length tree (a ∷ b ∷ ps) (m ∷ []) h = absurd (omega arith)
  merged_length tree (a ∷ b ∷ ps) (m ∷ n ∷ ms) h = omega (arith, merged_length tree ps ms (omega arith))

module _ (w : Way) (ps : List (Pair (List ℕ))) (ts : List (Triple (List ℕ))) (h : uses w (length ps) ≤ length ts) where
  pub said_length : length (said w ps ts) ≡ uses w (length ps)
  unfolding said
  said_length =
      let l : length (sides (on_polynomials bytes) w ps) ≡ uses w (length ps) = sides_length (on_polynomials bytes) w ps in
      said_of_length (on_polynomials bytes) (sides (on_polynomials bytes) w ps) ts (omega arith) ∙ l

  pub next_length : length (next w ps ts) ≡ leaves w (length ps)
  unfolding next
  next_length =
      let os : List (Sides ℕ) = map opened (said w ps ts) in
      let l : length os ≡ uses w (length ps) = length-map (said w ps ts) opened ∙ said_length in
      let m : length (products (on_polynomials bytes) os ts) ≡ length os = products_length (on_polynomials bytes) os ts (omega arith) in
      merged_length (on_polynomials bytes) w ps (products (on_polynomials bytes) os ts) (omega arith)

-- of m pairs, n levels use so many triples and leave so many pairs
unfoldable pub used : Way → ℕ → ℕ → ℕ
used w zero m = 0
used w (suc n) m = uses w m + used w n (leaves w m)

unfoldable pub left_of : Way → ℕ → ℕ → ℕ
left_of w zero m = m
left_of w (suc n) m = left_of w n (leaves w m)

pub pairs_after_length : (w : Way) (n m : ℕ) (ps : List (Pair (List ℕ))) (ts : List (Triple (List ℕ))) → length ps ≡ m → used w n m ≤ length ts
    → length (pairs_after w n ps ts) ≡ left_of w n m
unfolding pairs_after used left_of
pairs_after_length w zero m ps ts l h = l
pairs_after_length w (suc n) m ps ts l h =
    let e : uses w (length ps) ≡ uses w m = ap (uses w) l in
    pairs_after_length w n (leaves w m) (next w ps ts) (unused w ps ts) (next_length w ps ts (omega arith) ∙ ap (leaves w) l)
    (omega (arith, length-drop (uses w (length ps)) ts))

pub started_length : (q : Probe) → length q.sheet.bits ≡ 33 → length (started q) ≡ 32
unfolding started
started_length q h =
    first_pairs_length (on_polynomials bytes) _ (take 32 q.sheet.bits) ∙ simp length-take (omega arith)

-- of 32 pairs all levels leave one, for 31 or 62 triples
pub used_all : (w : Way) → used w (levels_of w) 32 ≡ triples_of w
unfolding used uses leaves levels_of triples_of
used_all chain = refl
used_all tree = refl

pub one_left : (w : Way) → left_of w (levels_of w) 32 ≡ 1
unfolding left_of uses leaves levels_of
one_left chain = refl
one_left tree = refl

pub all_levels : (w : Way) (q : Probe) → length q.sheet.bits ≡ 33 → length q.sheet.triples ≡ triples_of w
    → length (pairs_after w (levels_of w) (started q) q.sheet.triples) ≡ 1
all_levels w q h k =
    pairs_after_length w (levels_of w) 32 (started q) q.sheet.triples (started_length q h) (omega (arith, used_all w)) ∙ one_left w

-- no number of levels uses more than all
pub used_most : (w : Way) (k n m : ℕ) → k ≤ n → used w k m ≤ used w n m
unfolding used
used_most w zero n m h = omega arith
used_most w (suc k) zero m h = absurd (omega arith)
used_most w (suc k) (suc n) m h = omega (arith, used_most w k n (leaves w m) (omega arith))

-- ---- the sheet and its coins

triple_words_length : (x : ℕ) (ts : List (Triple (List ℕ))) → length (triple_words x ts) ≡ 3 * length ts
unfolding triple_words
triple_words_length x [] = refl
triple_words_length x (t ∷ ts) = omega (arith, triple_words_length x ts)

module _ (w : Way) (t : ℕ) (c : SheetCoins) (h : SheetInRange w t c) where
  pub words_many : (x : ℕ) → length (sheet_shares x (sheet_polynomials c)) ≡ 34 + 3 * triples_of w
  unfolding sheet_shares sheet_polynomials
  words_many x =
      ap suc (length-append (map (λ b. value bytes b x) (bit_polynomials 1 c.mask c.of_bits)) (triple_words x (map triple_polynomials c.triples)))
      ∙ omega (
        arith,
        length-map (bit_polynomials 1 c.mask c.of_bits) (λ b. value bytes b x),
        bit_polynomials_length 1 c.mask c.of_bits,
        h.bits_long,
        triple_words_length x (map triple_polynomials c.triples),
        length-map c.triples triple_polynomials,
        h.triples_long,
      )
