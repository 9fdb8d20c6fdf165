-- Dealing a sheet: the words that are written are those of the polynomials that its coins make. Assumes nothing.
use Rattle.std.specs.Prelude.{Ok}
use mathlib.Core.Path.{◌≡◌, refl, ap, ap₂, ◌∙◌}
use mathlib.Core.List.{List, [], ◌∷◌, ◌++◌, map, append_assoc}
use Prim.Native.Nat.{ℕ, zero, suc, ◌+◌, ◌*◌}
use native.Mathlib.Nat.{suc_inj}
use native.Mathlib.Omega.{arith}
use lib.ListN.{length, length-append}
use lib.Seq.{take_at, drop_at}
use mathlib.Core.Bool.{true}
use Rattle.ways.specs.Way.{Way, is_way, way_of, triples_of, sheet_size, drawn_size}
use Rattle.fields.specs.Amount.{amounts}
use Rattle.fields.specs.Byte.{product, bytes}
use Rattle.refusal.proofs.Judging.{kept_new}
use Rattle.ranges.specs.Lists.{from}
use Rattle.sharing.specs.Polynomial.{value, share_each}
use Rattle.sharing.specs.Scheme.{threshold}
use Rattle.comparison.specs.Probe.{SheetCoins, SheetInRange, sheet_polynomials, sheet_shares, Each, Group, TripleCoins, TripleInRange, bit_polynomials, triple_polynomials, triple_words}
use Rattle.fields.specs.Bits.{bit}
use Rattle.dealer.specs.Deal.{deal_judgement, byte_shares, triple, triples, preprocessing, deal_left}
use Rattle.dealer.proofs.Laws.{deal_accepted}
use Rattle.ranges.proofs.Ranges.{IsParty}
use Rattle.auction.specs.Coins.{flat, coin_words, triple_bytes, coin_bytes}
use Rattle.auction.proofs.Bidding.{flat_length}

-- ---- how many bytes

triple_length : (t : ℕ) (c : TripleCoins) → TripleInRange t c → length (triple_bytes c) ≡ 2 + 3 * t
triple_length t c h =
    omega (arith, h.of_alpha.0, h.of_beta.0, h.of_gamma.0, length-append c.of_alpha (c.of_beta ++ c.of_gamma), length-append c.of_beta c.of_gamma)

triples_length : (t : ℕ) (cs : List TripleCoins) → Each (TripleInRange t) cs → length (flat (map triple_bytes cs)) ≡ length cs * (2 + 3 * t)
unfolding flat
triples_length t [] h = omega arith
triples_length t (c ∷ cs) h =
    length-append (triple_bytes c) (flat (map triple_bytes cs)) ∙ omega (arith, triple_length t c h.0, triples_length t cs h.1)

pub bytes_length : (w : Way) (t : ℕ) (s : SheetCoins) → SheetInRange w t s → length (coin_bytes s) ≡ drawn_size w t
unfolding coin_bytes drawn_size
bytes_length w t s h =
    length-append (flat s.of_bits) (flat (map triple_bytes s.triples))
    ∙ ap₂ ◌+◌ (flat_length 256 t s.of_bits h.of_bits ∙ ap (λ (z : ℕ). z * t) h.bits_long)
    (triples_length t s.triples h.triples ∙ ap (λ (z : ℕ). z * (2 + 3 * t)) h.triples_long)

-- ---- the bits

bits_written : (t j mask : ℕ) (i m : ℕ) (css : List (List ℕ)) (rest : List ℕ) → length css ≡ m → Each (Group 256 t) css
    → byte_shares t j (map (λ i. bit i mask) (from i m)) (flat css ++ rest) ≡ map (λ b. value bytes b j) (bit_polynomials i mask css)
unfolding share_each from flat bit_polynomials
bits_written t j mask i zero [] rest l h = refl
bits_written t j mask i zero (cs ∷ css) rest l h = absurd (omega arith)
bits_written t j mask i (suc m) [] rest l h = absurd (omega arith)
bits_written t j mask i (suc m) (cs ∷ css) rest l h =
    ap (λ (z : List ℕ). byte_shares t j (map (λ i. bit i mask) (from i (suc m))) z) (append_assoc cs (flat css) rest)
    ∙ ap₂ (λ (u v : List ℕ). value bytes (bit i mask ∷ u) j ∷ byte_shares t j (map (λ i. bit i mask) (from (suc i) m)) v)
    (take_at cs (flat css ++ rest) t h.0.0) (drop_at cs (flat css ++ rest) t h.0.0)
    ∙ ap (λ (z : List ℕ). value bytes (bit i mask ∷ cs) j ∷ z) (bits_written t j mask (suc i) m css rest (suc_inj l) h.1)

-- ---- the triples

-- three shares, each made with the next t bytes
three_written : (t j x y z : ℕ) (xs ys zs rest : List ℕ) → length xs ≡ t → length ys ≡ t → length zs ≡ t
    → byte_shares t j (x ∷ y ∷ z ∷ []) ((xs ++ (ys ++ zs)) ++ rest)
    ≡ value bytes (x ∷ xs) j ∷ value bytes (y ∷ ys) j ∷ value bytes (z ∷ zs) j ∷ []
unfolding share_each
three_written t j x y z xs ys zs rest lx ly lz =
    ap (byte_shares t j (x ∷ y ∷ z ∷ [])) (append_assoc xs (ys ++ zs) rest ∙ ap (λ (l : List ℕ). xs ++ l) (append_assoc ys zs rest))
    ∙ simp (
      take_at xs (ys ++ (zs ++ rest)) t lx,
      drop_at xs (ys ++ (zs ++ rest)) t lx,
      take_at ys (zs ++ rest) t ly,
      drop_at ys (zs ++ rest) t ly,
      take_at zs rest t lz,
    )

triples_written : (t j m : ℕ) (cs : List TripleCoins) → length cs ≡ m → Each (TripleInRange t) cs
    → triples t j m (flat (map triple_bytes cs)) ≡ triple_words j (map triple_polynomials cs)
unfolding triples triple flat triple_words triple_polynomials
triples_written t j zero [] l h = refl
triples_written t j zero (c ∷ cs) l h = absurd (omega arith)
triples_written t j (suc m) [] l h = absurd (omega arith)
triples_written t j (suc m) (c ∷ cs) l h =
    ap₂ ◌++◌
    (three_written t j c.alpha c.beta (product c.alpha c.beta) c.of_alpha c.of_beta c.of_gamma (flat (map triple_bytes cs))
    h.0.of_alpha.0 h.0.of_beta.0 h.0.of_gamma.0)
    (ap (triples t j m) (drop_at (triple_bytes c) (flat (map triple_bytes cs)) (2 + 3 * t) (triple_length t c h.0))
    ∙ triples_written t j m cs (suc_inj l) h.1)

-- ---- a sheet

pub sheet_written : (w : Way) (t j : ℕ) (s : SheetCoins) → SheetInRange w t s
    → preprocessing (triples_of w) t j (coin_words s) (coin_bytes s) ≡ sheet_shares j (sheet_polynomials s)
unfolding preprocessing coin_bytes sheet_shares sheet_polynomials
sheet_written w t j s h =
    let many : length (flat s.of_bits) ≡ 33 * t = flat_length 256 t s.of_bits h.of_bits ∙ ap (λ (z : ℕ). z * t) h.bits_long in
    ap₂ (λ (u v : List ℕ). value amounts (s.mask ∷ s.of_mask) j ∷ (u ++ v))
    (bits_written t j s.mask 1 33 s.of_bits (flat (map triple_bytes s.triples)) h.bits_long h.of_bits)
    (ap (triples t j (triples_of w)) (drop_at (flat s.of_bits) (flat (map triple_bytes s.triples)) (33 * t) many)
    ∙ triples_written t j (triples_of w) s.triples h.triples_long h.triples)

module _ (n j last : ℕ) (P : IsParty n j) (W : is_way last ≡ true) (s : SheetCoins) (h : SheetInRange (way_of last) (threshold n) s) (sheet : List ℕ) (l : length sheet ≡ sheet_size (way_of last)) where
  pub deals_sheet : deal_judgement n j last (coin_words s) (coin_bytes s) sheet ≡ Ok tt
  deals_sheet =
      deal_accepted n j last (coin_words s) (coin_bytes s) sheet
      (record {
        party = P;
        way = W;
        words_long = ap suc h.of_mask.0 ∙ omega arith;
        drawn_long = bytes_length (way_of last) (threshold n) s h;
        sheet_long = l;
        mask_below = h.mask;
        coins_below = h.of_mask.1;
      })

  pub deal_writes : deal_left n j last (coin_words s) (coin_bytes s) sheet ≡ sheet_shares j (sheet_polynomials s)
  deal_writes = kept_new _ _ sheet deals_sheet ∙ sheet_written (way_of last) (threshold n) j s h
