-- The n parties' words at one place of their sheets open to what the dealer drew for it. Assumes nothing.
use Rattle.std.specs.Prelude.{Some}
use mathlib.Core.Path.{◌≡◌, sym, ap, ◌∙◌, fun_ext}
use mathlib.Core.List.{List, ◌∷◌, ◌++◌, map}
use Prim.Native.Nat.{ℕ, zero, suc, ◌+◌, ◌-◌, ◌*◌, ◌≤◌, ◌<◌}
use native.Mathlib.Nat.{mod-lt, mul-le-mul_right, lt_of_lt_of_le}
use native.Mathlib.Omega.{arith}
use lib.Dec.{lit<, lit≤}
use lib.ListN.{length, take, drop, get_or, length-drop, get_or-append}
use lib.Seq.{drop-cons, drop-drop, length-take-le, get_or-append-add}
use Rattle.ranges.specs.Below.{AllBelow}
use Rattle.ranges.proofs.Ranges.{below_take, below_drop, below_at}
use Rattle.fields.specs.Amount.{amounts}
use Rattle.fields.specs.Bits.{bit}
use Rattle.fields.specs.Byte.{bytes}
use Rattle.fields.proofs.Fields.{byte_field}
use Rattle.sharing.specs.Polynomial.{value}
use Rattle.sharing.specs.Scheme.{threshold, points}
use Rattle.weights.specs.Rows.{Scheme, amount_scheme, byte_scheme}
use Rattle.openings.specs.Opening.{opened}
use Rattle.openings.specs.Opening.{Opening}
use Rattle.openings.proofs.Laws.{amount_fits, byte_fits, opens}
use Rattle.ways.specs.Way.{way_of, triples_of}
use Rattle.ways.proofs.Laws.{drawn_split}
use Rattle.dealer.specs.Deal.{byte_shares, mask_bits, triple_secrets, triple, triples, preprocessing}
use Rattle.dealer.proofs.Laws.{length_shares, share_at, length_bits, bit_at, length_triple, Deals}

-- ---- a sheet, word by word

module _ (t own : ℕ) where
  -- word r of triple j
  triples_at : (m j : ℕ) (drawn : List ℕ) (r : ℕ) → j < m → r < 3
      → get_or (triples t own m drawn) (3 * j + r) 0
      ≡ value bytes (get_or (triple_secrets (drop (j * (2 + 3 * t)) drawn)) r 0 ∷ take t (drop (2 + r * t) (drop (j * (2 + 3 * t)) drawn))) own
  unfolding triples triple
  triples_at zero j drawn r hj hr = absurd (omega arith)
  triples_at (suc m) zero drawn r hj hr =
      let z : 3 * 0 + r ≡ r = omega arith in
      let z' : 0 * (2 + 3 * t) ≡ 0 = omega arith in
      ap (λ (k : ℕ). get_or (triple t own drawn ++ triples t own m (drop (2 + 3 * t) drawn)) k 0) z
      ∙ get_or-append (triple t own drawn) (triples t own m (drop (2 + 3 * t) drawn)) 0 r (rw length_triple hr)
      ∙ share_at t own (triple_secrets drawn) (drop 2 drawn) r hr
      ∙ ap (λ (l : List ℕ). value bytes (get_or (triple_secrets drawn) r 0 ∷ take t l) own) (drop-drop (r * t) 2 drawn)
      ∙ ap (λ (k : ℕ). value bytes (get_or (triple_secrets (drop k drawn)) r 0 ∷ take t (drop (2 + r * t) (drop k drawn))) own) (sym z')
  triples_at (suc m) (suc j) drawn r hj hr =
      let i : 3 * suc j + r ≡ length (triple t own drawn) + (3 * j + r) = omega (arith, length_triple t own drawn) in
      let k : 2 + 3 * t + j * (2 + 3 * t) ≡ suc j * (2 + 3 * t) = omega arith in
      ap (λ (k : ℕ). get_or (triple t own drawn ++ triples t own m (drop (2 + 3 * t) drawn)) k 0) i
      ∙ get_or-append-add (triple t own drawn) (triples t own m (drop (2 + 3 * t) drawn)) (3 * j + r) 0
      ∙ triples_at m j (drop (2 + 3 * t) drawn) r (omega arith) hr
      ∙ ap (λ (l : List ℕ). value bytes (get_or (triple_secrets l) r 0 ∷ take t (drop (2 + r * t) l)) own)
      (drop-drop (j * (2 + 3 * t)) (2 + 3 * t) drawn ∙ ap (λ (n : ℕ). drop n drawn) k)

-- the drawn bytes from those of triple i on, counted from 0
abbrev pub from_triple : (t i : ℕ) → List ℕ → List ℕ
from_triple t i drawn = drop (33 * t + i * (2 + 3 * t)) drawn

-- a sheet of m triples
module _ (m t own : ℕ) (words drawn : List ℕ) where
  -- the words are the mask and its coefficients
  mask_word : 0 < length words → get_or (preprocessing m t own words drawn) 0 0 ≡ value amounts (get_or words 0 0 ∷ drop 1 words) own
  unfolding preprocessing
  mask_word h = ap (λ (l : List ℕ). value amounts l own) (drop-cons words 0 0 h)

  bit_word : (i : ℕ) → 1 ≤ i → i ≤ 33
      → get_or (preprocessing m t own words drawn) i 0 ≡ value bytes (bit i (get_or words 0 0) ∷ take t (drop ((i - 1) * t) drawn)) own
  unfolding preprocessing
  bit_word zero l h = absurd (omega arith)
  bit_word (suc i) l h =
      let j : suc i - 1 ≡ i = omega arith in
      let k : 1 + i ≡ suc i = omega arith in
      get_or-append (byte_shares t own (mask_bits (get_or words 0 0)) drawn) (triples t own m (drop (33 * t) drawn)) 0 i (rw (length_shares, length_bits) (omega arith))
      ∙ share_at t own (mask_bits (get_or words 0 0)) drawn i (rw length_bits (omega arith))
      ∙ ap (λ (b : ℕ). value bytes (b ∷ take t (drop (i * t) drawn)) own) (bit_at (get_or words 0 0) i (omega arith) ∙ ap (λ (e : ℕ). bit e (get_or words 0 0)) k)
      ∙ ap (λ (e : ℕ). value bytes (bit (suc i) (get_or words 0 0) ∷ take t (drop (e * t) drawn)) own) (sym j)

  -- of triple i the shares of alpha, beta and gamma (r is 0, 1, 2), each with its own coefficients
  triple_word : (i r : ℕ) → i < m → r < 3
      → get_or (preprocessing m t own words drawn) (34 + 3 * i + r) 0
      ≡ value bytes (get_or (triple_secrets (from_triple t i drawn)) r 0 ∷ take t (drop (2 + r * t) (from_triple t i drawn))) own
  unfolding preprocessing
  triple_word i r h hr =
      let front = byte_shares t own (mask_bits (get_or words 0 0)) drawn in
      let j : 34 + 3 * i + r ≡ suc (length front + (3 * i + r)) = omega (arith, length_shares t own (mask_bits (get_or words 0 0)) drawn, length_bits (get_or words 0 0)) in
      ap (λ (k : ℕ). get_or (value amounts words own ∷ front ++ triples t own m (drop (33 * t) drawn)) k 0) j
      ∙ get_or-append-add front (triples t own m (drop (33 * t) drawn)) (3 * i + r) 0
      ∙ triples_at t own m i (drop (33 * t) drawn) r h hr
      ∙ ap (λ (l : List ℕ). value bytes (get_or (triple_secrets l) r 0 ∷ take t (drop (2 + r * t) l)) own) (drop-drop (i * (2 + 3 * t)) (33 * t) drawn)

-- ---- opening

-- what the n parties' words at one place of their sheets open to, the sheets being of so many rounds
abbrev pub opened_at : (S : Scheme) (n last : ℕ) (words drawn : List ℕ) → ℕ → Opening
opened_at S n last words drawn i = opened S n (map (λ j. get_or (preprocessing (triples_of (way_of last)) (threshold n) j words drawn) i 0) (points n))

-- a triple is of bytes
secrets_below : (drawn : List ℕ) → AllBelow 256 drawn → AllBelow 256 (triple_secrets drawn)
secrets_below drawn h =
    let alpha : get_or drawn 0 0 < 256 = below_at 256 drawn 0 h (lit< tt) in
    let beta : get_or drawn 1 0 < 256 = below_at 256 drawn 1 h (lit< tt) in
    (alpha, (beta, (byte_field.ring.mul_lt _ _ alpha beta, tt)))

module _ {n own last : ℕ} {words drawn sheet : List ℕ} (h : Deals n own last words drawn sheet) where
  pub mask_opens : opened_at amount_scheme n last words drawn 0 ≡ Some (get_or words 0 0)
  mask_opens =
      let some : 0 < length words = omega (arith, h.words_long) in
      ap (λ (f : ℕ → ℕ). opened amount_scheme n (map f (points n)))
      (fun_ext (λ j. mask_word (triples_of (way_of last)) (threshold n) j words drawn some))
      ∙ opens amount_fits n (get_or words 0 0) (drop 1 words) h.party.parties_least h.party.parties_most
      (lt_of_lt_of_le h.mask_below (lit≤ tt)) h.coins_below (omega (arith, length-drop 1 words, h.words_long))

  module _ (small : AllBelow 256 drawn) where
    -- a byte and the t drawn bytes from m on
    shared : (f : ℕ → ℕ) (s m : ℕ) → ((j : ℕ) → f j ≡ value bytes (s ∷ take (threshold n) (drop m drawn)) j) → s < 256 → m + threshold n ≤ length drawn
        → opened byte_scheme n (map f (points n)) ≡ Some s
    shared f s m e hs l =
        ap (λ (f : ℕ → ℕ). opened byte_scheme n (map f (points n))) (fun_ext e)
        ∙ opens byte_fits n s (take (threshold n) (drop m drawn)) h.party.parties_least h.party.parties_most hs
        (below_take 256 (threshold n) (drop m drawn) (below_drop 256 m drawn small))
        (length-take-le (threshold n) (drop m drawn) (omega (arith, length-drop m drawn)))

    pub bit_opens : (i : ℕ) → 1 ≤ i → i ≤ 33 → opened_at byte_scheme n last words drawn i ≡ Some (bit i (get_or words 0 0))
    unfolding bit
    bit_opens i l l' =
        let r : (i - 1 + 1) * threshold n ≤ 33 * threshold n = mul-le-mul_right (threshold n) (omega arith) in
        shared _ _ ((i - 1) * threshold n) (λ j. bit_word (triples_of (way_of last)) (threshold n) j words drawn i l l') (lt_of_lt_of_le (mod-lt _ (lit< tt)) (lit≤ tt)) (omega (arith, h.drawn_long, drawn_split (way_of last) (threshold n)))

    -- alpha, beta, and gamma, which is their product
    pub triple_opens : (i r : ℕ) → i < triples_of (way_of last) → r < 3
        → opened_at byte_scheme n last words drawn (34 + 3 * i + r) ≡ Some (get_or (triple_secrets (from_triple (threshold n) i drawn)) r 0)
    triple_opens i r l hr =
        let t = threshold n in
        let count = triples_of (way_of last) in
        let a : (i + 1) * (2 + 3 * t) ≤ count * (2 + 3 * t) = mul-le-mul_right (2 + 3 * t) (omega arith) in
        let b : (r + 1) * t ≤ 3 * t = mul-le-mul_right t (omega arith) in
        let m = 33 * t + i * (2 + 3 * t) in
        let s = get_or (triple_secrets (drop m drawn)) r 0 in
        shared _ s (m + (2 + r * t))
        (λ j. triple_word count t j words drawn i r l hr ∙ ap (λ (l : List ℕ). value bytes (s ∷ take t l) j) (drop-drop (2 + r * t) m drawn))
        (below_at 256 (triple_secrets (drop m drawn)) r (secrets_below (drop m drawn) (below_drop 256 m drawn small)) (lit< tt))
        (omega (arith, h.drawn_long, drawn_split (way_of last) t))
