-- The words of the current sheet: those of the sheet that the dealer made of its coins, at a party's point. Assumes nothing.
use mathlib.Core.Path.{◌≡◌, refl, sym, ap, ◌∙◌}
use mathlib.Core.List.{List, [], ◌∷◌, map, nil≢cons, head-eq_of_cons-eq}
use Prim.Native.Nat.{ℕ, zero, suc, ◌+◌, ◌-◌, ◌*◌, ◌<◌}
use native.Mathlib.Nat.{mul-zero, le_of_suc-le-suc}
use native.Mathlib.Omega.{arith}
use lib.ListN.{length, take, drop, get_or, length-append, length-map, get_or-append, get_or-map}
use lib.Seq.{take_at, drop-append-add, get_or-append-add}
use Rattle.ways.specs.Way.{Way, sheet_size, triples_of}
use Rattle.fields.specs.Amount.{p, amounts}
use Rattle.fields.specs.Byte.{bytes}
use Rattle.ranges.specs.Below.{AllBelow}
use Rattle.ranges.proofs.Ranges.{below_append}
use Rattle.fields.proofs.Fields.{amount_field, byte_field}
use Rattle.sharing.specs.Polynomial.{value}
use Rattle.sharing.proofs.Laws.{value_lt}
use Rattle.comparison.specs.Probe.{SheetCoins, SheetInRange, sheet_polynomials, sheet_shares, Sheet, Each, triple_words}
use Rattle.comparison.specs.Pairs.{Triple}
use Rattle.comparison.proofs.Values.{Shared}
use Rattle.comparison.proofs.Dealt.{TripleShared, SheetShared, dealt_shared}
use Rattle.auction.specs.Coins.{flat}

-- ---- one of many lists of the same length

module _ {A : Type 0} (f : A → List ℕ) (w : ℕ) where
  pub flat_length : (xs : List A) → Each (λ x. length (f x) ≡ w) xs → length (flat (map f xs)) ≡ w * length xs
  unfolding flat
  flat_length [] h = sym (mul-zero w)
  flat_length (x ∷ xs) h = length-append (f x) (flat (map f xs)) ∙ omega (arith, h.0, flat_length xs h.1)

  -- the list of s, where s stands after m others
  pub flat_at : (xs : List A) (m : ℕ) (s : A) (ss : List A) → Each (λ x. length (f x) ≡ w) xs → drop m xs ≡ s ∷ ss
      → take w (drop (w * m) (flat (map f xs))) ≡ f s
  unfolding flat
  flat_at [] zero s ss h e = absurd (nil≢cons e)
  flat_at [] (suc m) s ss h e = absurd (nil≢cons e)
  flat_at (x ∷ xs) zero s ss h e = rw mul-zero (take_at (f x) (flat (map f xs)) w h.0 ∙ ap f (head-eq_of_cons-eq e))
  flat_at (x ∷ xs) (suc m) s ss h e =
      let past : w * suc m ≡ length (f x) + w * m = omega (arith, h.0) in
      rw (past, drop-append-add) (flat_at xs m s ss h.1 e)

-- ---- a sheet

abbrev pub no_triple : Triple (List ℕ)
no_triple = record { alpha = []; beta = []; gamma = [] }

pub triple_words_length : (j : ℕ) (ts : List (Triple (List ℕ))) → length (triple_words j ts) ≡ 3 * length ts
unfolding triple_words
triple_words_length j [] = refl
triple_words_length j (t ∷ ts) = omega (arith, triple_words_length j ts)

-- alpha, beta, gamma of triple i
module _ (j : ℕ) where
  alpha_in : (ts : List (Triple (List ℕ))) (i : ℕ) → i < length ts → get_or (triple_words j ts) (3 * i) 0 ≡ value bytes (get_or ts i no_triple).alpha j
  unfolding triple_words
  alpha_in [] i h = absurd (omega arith)
  alpha_in (t ∷ ts) zero h = refl
  alpha_in (t ∷ ts) (suc i) h =
      let past : 3 * suc i ≡ suc (suc (suc (3 * i))) = omega arith in
      rw past (alpha_in ts i (le_of_suc-le-suc h))

  beta_in : (ts : List (Triple (List ℕ))) (i : ℕ) → i < length ts → get_or (triple_words j ts) (3 * i + 1) 0 ≡ value bytes (get_or ts i no_triple).beta j
  unfolding triple_words
  beta_in [] i h = absurd (omega arith)
  beta_in (t ∷ ts) zero h = refl
  beta_in (t ∷ ts) (suc i) h =
      let past : 3 * suc i + 1 ≡ suc (suc (suc (3 * i + 1))) = omega arith in
      rw past (beta_in ts i (le_of_suc-le-suc h))

  gamma_in : (ts : List (Triple (List ℕ))) (i : ℕ) → i < length ts → get_or (triple_words j ts) (3 * i + 2) 0 ≡ value bytes (get_or ts i no_triple).gamma j
  unfolding triple_words
  gamma_in [] i h = absurd (omega arith)
  gamma_in (t ∷ ts) zero h = refl
  gamma_in (t ∷ ts) (suc i) h =
      let past : 3 * suc i + 2 ≡ suc (suc (suc (3 * i + 2))) = omega arith in
      rw past (gamma_in ts i (le_of_suc-le-suc h))

pub getD_values : (j : ℕ) (bs : List (List ℕ)) (i : ℕ) → get_or (map (λ b. value bytes b j) bs) i 0 ≡ value bytes (get_or bs i []) j
unfolding value
getD_values j bs i = get_or-map (λ b. value bytes b j) bs i []

pub getD_amounts : (j : ℕ) (fs : List (List ℕ)) (i : ℕ) → get_or (map (λ f. value amounts f j) fs) i 0 ≡ value amounts (get_or fs i []) j
unfolding value
getD_amounts j fs i = get_or-map (λ f. value amounts f j) fs i []

module _ (w : Way) (t j : ℕ) (s : Sheet (List ℕ)) (h : SheetShared w t s) where
  abbrev bit_words : List ℕ
  bit_words = map (λ b. value bytes b j) s.bits

  bit_words_length : length bit_words ≡ 33
  bit_words_length = length-map s.bits (λ b. value bytes b j) ∙ h.bits_long

  pub sheet_length : length (sheet_shares j s) ≡ sheet_size w
  unfolding sheet_shares sheet_size
  sheet_length =
      ap suc (length-append bit_words (triple_words j s.triples))
      ∙ omega (arith, bit_words_length, triple_words_length j s.triples, h.triples_long)

  pub mask_word : get_or (sheet_shares j s) 0 0 ≡ value amounts s.mask j
  unfolding sheet_shares
  mask_word = refl

  -- bit i + 1 of the mask
  pub bit_word : (i : ℕ) → i < 33 → get_or (sheet_shares j s) (suc i) 0 ≡ value bytes (get_or s.bits i []) j
  unfolding sheet_shares
  bit_word i l =
      get_or-append bit_words (triple_words j s.triples) 0 i (omega (arith, bit_words_length)) ∙ getD_values j s.bits i

  -- a word after the bits
  late_word : (i k : ℕ) → k ≡ 34 + i → get_or (sheet_shares j s) k 0 ≡ get_or (triple_words j s.triples) i 0
  unfolding sheet_shares
  late_word i k e =
      let past : k ≡ suc (length bit_words + i) = omega (arith, bit_words_length) in
      rw (past, get_or-append-add)

  module _ (i : ℕ) (l : i < triples_of w) where
    pub alpha_word : get_or (sheet_shares j s) (34 + 3 * (i + 2 - 2) + 0) 0 ≡ value bytes (get_or s.triples i no_triple).alpha j
    alpha_word = late_word (3 * i) _ (omega arith) ∙ alpha_in j s.triples i (omega (arith, h.triples_long))

    pub beta_word : get_or (sheet_shares j s) (34 + 3 * (i + 2 - 2) + 1) 0 ≡ value bytes (get_or s.triples i no_triple).beta j
    beta_word = late_word (3 * i + 1) _ (omega arith) ∙ beta_in j s.triples i (omega (arith, h.triples_long))

    pub gamma_word : get_or (sheet_shares j s) (34 + 3 * (i + 2 - 2) + 2) 0 ≡ value bytes (get_or s.triples i no_triple).gamma j
    gamma_word = late_word (3 * i + 2) _ (omega arith) ∙ gamma_in j s.triples i (omega (arith, h.triples_long))

pub words_long : (w : Way) (t j : ℕ) (c : SheetCoins) → SheetInRange w t c → length (sheet_shares j (sheet_polynomials c)) ≡ sheet_size w
words_long w t j c h = sheet_length w t j (sheet_polynomials c) (dealt_shared w t c h)

-- ---- its words are in their fields

module _ (j : ℕ) (l : j < 10) where
  pub amount_below : (f : List ℕ) → AllBelow p f → value amounts f j < p
  amount_below f h = value_lt amount_field f j h (omega arith)

  pub byte_below : (f : List ℕ) → AllBelow 256 f → value bytes f j < 256
  byte_below f h = value_lt byte_field f j h (omega arith)

module _ (t j : ℕ) (l : j < 10) where
  bits_below : (bs : List (List ℕ)) → Each (Shared 256 t) bs → AllBelow 256 (map (λ b. value bytes b j) bs)
  bits_below [] h = tt
  bits_below (b ∷ bs) h = (byte_below j l b h.0.1, bits_below bs h.1)

  triples_below : (ts : List (Triple (List ℕ))) → Each (TripleShared t) ts → AllBelow 256 (triple_words j ts)
  unfolding triple_words
  triples_below [] h = tt
  triples_below (s ∷ ts) h =
      (byte_below j l s.alpha h.0.alpha.1, (byte_below j l s.beta h.0.beta.1, (byte_below j l s.gamma h.0.gamma.1, triples_below ts h.1)))

  pub sheet_bytes_below : (w : Way) (s : Sheet (List ℕ)) → SheetShared w t s → AllBelow 256 (drop 1 (sheet_shares j s))
  unfolding sheet_shares
  sheet_bytes_below w s h =
      below_append 256 (map (λ b. value bytes b j) s.bits) (triple_words j s.triples) (bits_below s.bits h.bits) (triples_below s.triples h.triples)
