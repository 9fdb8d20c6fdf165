-- The words of all n parties fix the coins of a sheet; a probe is 33 messages a party, read round by round. Assumes nothing.
use mathlib.Core.Path.{◌≡◌, refl, sym, ap, ap₂, fun_ext, ◌∙◌}
use mathlib.Core.List.Memᴰ
use mathlib.Core.List.{List, [], ◌∷◌, map, flatten, head-eq_of_cons-eq, tail-eq_of_cons-eq}
use Prim.Native.Nat.{ℕ, zero, suc, ◌+◌, ◌*◌, ◌≤◌, ◌<◌}
use native.Mathlib.Nat.{suc_inj}
use native.Mathlib.Decide.{dec_le}
use native.Mathlib.Omega.{arith}
use lib.ListN.{length, get_or, length-map, length-append}
use lib.Seq.{ext_get_or}
use Rattle.ways.specs.Way.{Way, last_round}
use Rattle.auction.proofs.Kept.{last_round_is, all_long}
use Rattle.fields.specs.Byte.{product, bytes}
use Rattle.fields.proofs.Fields.{amount_field, byte_field}
use Rattle.sharing.specs.Polynomial.{value}
use Rattle.ranges.specs.Lists.{from}
use Rattle.sharing.specs.Scheme.{points}
use Rattle.ranges.proofs.Loops.{length_from}
use Rattle.fields.specs.Bits.{bit}
use Rattle.comparison.specs.Probe.{TripleCoins, SheetCoins, Group, Each, TripleInRange, SheetInRange, Probe, bit_polynomials, triple_polynomials, sheet_polynomials, triple_words, sheet_shares, probe_messages, product_levels, side_word, last_polynomial}
use Rattle.comparison.proofs.Values.{bit_byte}
use Rattle.comparison.proofs.Dealt.{TripleShared, shared_cons, triple_polynomials_shared, bit_polynomials_length}
use Rattle.comparison.proofs.Agreement.{In, same_map, heard}
use Rattle.comparison.proofs.Hiding.{append_parts}
use Rattle.auction.proofs.Closed.{Made, spoken, all_spoken}

-- ---- lists

from_in : (a m x : ℕ) → a ≤ x → x < a + m → In x (from a m)
unfolding from
from_in a zero x h k = absurd (omega arith)
from_in a (suc m) x h k =
    elim (dec_le x a) [
      | yes le ↦ let e : x ≡ a = omega arith in Memᴰ.head e
      | no gt ↦ Memᴰ.tail (from_in (suc a) m x (omega arith) (omega arith))
    ]

-- ---- the words of all n parties fix the coins

module _ (n t : ℕ) (more : t < n) (most : n ≤ 9) where
  -- a secret with its coefficients
  byte_fixed : (s s' : ℕ) (cs cs' : List ℕ) → s < 256 → s' < 256 → Group 256 t cs → Group 256 t cs'
      → ((j : ℕ) → 1 ≤ j → j ≤ n → value bytes (s' ∷ cs') j ≡ value bytes (s ∷ cs) j) → s' ∷ cs' ≡ s ∷ cs
  byte_fixed s s' cs cs' hs hs' hc hc' w = heard byte_field t n (s' ∷ cs') (s ∷ cs) more most (shared_cons s' cs' hs' hc') (shared_cons s cs hs hc) w

  bits_fixed : (i m m' : ℕ) (css css' : List (List ℕ)) → Each (Group 256 t) css → Each (Group 256 t) css' → length css' ≡ length css
      → ((j : ℕ) → 1 ≤ j → j ≤ n → map (λ b. value bytes b j) (bit_polynomials i m' css') ≡ map (λ b. value bytes b j) (bit_polynomials i m css))
      → css' ≡ css
  unfolding bit_polynomials
  bits_fixed i m m' [] [] h h' l w = refl
  bits_fixed i m m' [] (cs' ∷ css') h h' l w = absurd (omega arith)
  bits_fixed i m m' (cs ∷ css) [] h h' l w = absurd (omega arith)
  bits_fixed i m m' (cs ∷ css) (cs' ∷ css') h h' l w =
      ap₂ (λ (z : List ℕ) (zs : List (List ℕ)). z ∷ zs)
      (tail-eq_of_cons-eq
      (byte_fixed (bit i m) (bit i m') cs cs' (bit_byte i m) (bit_byte i m') h.0 h'.0 (λ j h1 hn. head-eq_of_cons-eq (w j h1 hn))))
      (bits_fixed (suc i) m m' css css' h.1 h'.1 (suc_inj l) (λ j h1 hn. tail-eq_of_cons-eq (w j h1 hn)))

  triple_fixed : (c c' : TripleCoins) → TripleInRange t c → TripleInRange t c'
      → ((j : ℕ) → 1 ≤ j → j ≤ n → value bytes (triple_polynomials c').alpha j ≡ value bytes (triple_polynomials c).alpha j)
      → ((j : ℕ) → 1 ≤ j → j ≤ n → value bytes (triple_polynomials c').beta j ≡ value bytes (triple_polynomials c).beta j)
      → ((j : ℕ) → 1 ≤ j → j ≤ n → value bytes (triple_polynomials c').gamma j ≡ value bytes (triple_polynomials c).gamma j)
      → c' ≡ c
  unfolding triple_polynomials
  triple_fixed c c' h h' wa wb wg =
      let S : TripleShared t (triple_polynomials c) = triple_polynomials_shared t c h in
      let S' : TripleShared t (triple_polynomials c') = triple_polynomials_shared t c' h' in
      let ea : c'.alpha ∷ c'.of_alpha ≡ c.alpha ∷ c.of_alpha = heard byte_field t n _ _ more most S'.alpha S.alpha wa in
      let eb : c'.beta ∷ c'.of_beta ≡ c.beta ∷ c.of_beta = heard byte_field t n _ _ more most S'.beta S.beta wb in
      let eg : product c'.alpha c'.beta ∷ c'.of_gamma ≡ product c.alpha c.beta ∷ c.of_gamma =
      heard byte_field t n _ _ more most S'.gamma S.gamma wg in
      λ k.
      record {
        alpha = head-eq_of_cons-eq ea k;
        beta = head-eq_of_cons-eq eb k;
        of_alpha = tail-eq_of_cons-eq ea k;
        of_beta = tail-eq_of_cons-eq eb k;
        of_gamma = tail-eq_of_cons-eq eg k;
      }

  triples_fixed : (cs cs' : List TripleCoins) → Each (TripleInRange t) cs → Each (TripleInRange t) cs' → length cs' ≡ length cs
      → ((j : ℕ) → 1 ≤ j → j ≤ n → triple_words j (map triple_polynomials cs') ≡ triple_words j (map triple_polynomials cs)) → cs' ≡ cs
  unfolding triple_words
  triples_fixed [] [] h h' l w = refl
  triples_fixed [] (c' ∷ cs') h h' l w = absurd (omega arith)
  triples_fixed (c ∷ cs) [] h h' l w = absurd (omega arith)
  triples_fixed (c ∷ cs) (c' ∷ cs') h h' l w =
      ap₂ (λ (z : TripleCoins) (zs : List TripleCoins). z ∷ zs)
      (triple_fixed c c' h.0 h'.0 (λ j h1 hn. head-eq_of_cons-eq (w j h1 hn)) (λ j h1 hn. head-eq_of_cons-eq (tail-eq_of_cons-eq (w j h1 hn)))
      (λ j h1 hn. head-eq_of_cons-eq (tail-eq_of_cons-eq (tail-eq_of_cons-eq (w j h1 hn)))))
      (triples_fixed cs cs' h.1 h'.1 (suc_inj l) (λ j h1 hn. tail-eq_of_cons-eq (tail-eq_of_cons-eq (tail-eq_of_cons-eq (w j h1 hn)))))

  module _ (v : Way) (c c' : SheetCoins) (h : SheetInRange v t c) (h' : SheetInRange v t c')
      (w : (j : ℕ) → 1 ≤ j → j ≤ n → sheet_shares j (sheet_polynomials c') ≡ sheet_shares j (sheet_polynomials c)) where
    mask_fixed : c'.mask ∷ c'.of_mask ≡ c.mask ∷ c.of_mask
    unfolding sheet_shares sheet_polynomials
    mask_fixed =
        heard amount_field t n (c'.mask ∷ c'.of_mask) (c.mask ∷ c.of_mask) more most
        (shared_cons c'.mask c'.of_mask (omega (arith, h'.mask)) h'.of_mask) (shared_cons c.mask c.of_mask (omega (arith, h.mask)) h.of_mask)
        (λ j h1 hn. head-eq_of_cons-eq (w j h1 hn))

    later : (j : ℕ) → 1 ≤ j → j ≤ n
        → (map (λ b. value bytes b j) (bit_polynomials 1 c'.mask c'.of_bits) ≡ map (λ b. value bytes b j) (bit_polynomials 1 c.mask c.of_bits))
        × (triple_words j (map triple_polynomials c'.triples) ≡ triple_words j (map triple_polynomials c.triples))
    unfolding sheet_shares sheet_polynomials
    later j h1 hn =
        let bs : List (List ℕ) = bit_polynomials 1 c.mask c.of_bits in
        let bs' : List (List ℕ) = bit_polynomials 1 c'.mask c'.of_bits in
        append_parts (map (λ b. value bytes b j) bs') (map (λ b. value bytes b j) bs) _ _
        (length-map bs' (λ b. value bytes b j) ∙ bit_polynomials_length 1 c'.mask c'.of_bits ∙ h'.bits_long
        ∙ sym (length-map bs (λ b. value bytes b j) ∙ bit_polynomials_length 1 c.mask c.of_bits ∙ h.bits_long))
        (tail-eq_of_cons-eq (w j h1 hn))

    pub sheet_fixed : c' ≡ c
    sheet_fixed =
        let of_bits : c'.of_bits ≡ c.of_bits =
        bits_fixed 1 c.mask c'.mask c.of_bits c'.of_bits h.of_bits h'.of_bits (h'.bits_long ∙ sym h.bits_long)
        (λ j h1 hn. (later j h1 hn).0) in
        let triples : c'.triples ≡ c.triples =
        triples_fixed c.triples c'.triples h.triples h'.triples (h'.triples_long ∙ sym h.triples_long) (λ j h1 hn. (later j h1 hn).1) in
        λ k.
        record {
          mask = head-eq_of_cons-eq mask_fixed k;
          of_mask = tail-eq_of_cons-eq mask_fixed k;
          of_bits = of_bits k;
          triples = triples k;
        }

-- ---- as many messages as rounds

probe_messages_long : (v : Way) (q : Probe) (j : ℕ) → length (probe_messages v q j) ≡ last_round v
unfolding probe_messages
probe_messages_long v q j =
    let words : List (List ℕ) = map (map (side_word j)) (product_levels v q) in
    omega (
      arith,
      length-append words ((value bytes (last_polynomial v q) j ∷ []) ∷ []),
      length-map (product_levels v q) (map (side_word j)),
      all_long v q,
      last_round_is v,
    )

pub spoken_long : (v : Way) (n : ℕ) (q : Probe) → length (spoken v n q) ≡ last_round v
unfolding spoken
spoken_long v n q = length-map (from 0 (last_round v)) (λ i. map (λ j. get_or (probe_messages v q j) i []) (points n)) ∙ length_from 0 (last_round v)

pub all_spoken_long : (v : Way) (n : ℕ) (ds : List Made) → length (all_spoken v n ds) ≡ last_round v * length ds
unfolding flatten
all_spoken_long v n [] = omega arith
all_spoken_long v n (d ∷ ds) = length-append (spoken v n d.probe) (all_spoken v n ds) ∙ omega (arith, spoken_long v n d.probe, all_spoken_long v n ds)

pub spoken_same : (v : Way) (n : ℕ) (q q' : Probe) → ((j : ℕ) → probe_messages v q' j ≡ probe_messages v q j) → spoken v n q' ≡ spoken v n q
unfolding spoken
spoken_same v n q q' h = ap (λ (f : ℕ → List (List ℕ)). map (λ i. map (λ j. get_or (f j) i []) (points n)) (from 0 (last_round v))) (fun_ext h)

pub spoken_heard : (v : Way) (n : ℕ) (q q' : Probe) → spoken v n q' ≡ spoken v n q
    → (j : ℕ) → 1 ≤ j → j ≤ n → probe_messages v q' j ≡ probe_messages v q j
unfolding spoken
spoken_heard v n q q' e j h1 hn =
    ext_get_or [] (probe_messages v q' j) (probe_messages v q j) (probe_messages_long v q' j ∙ sym (probe_messages_long v q j))
    (λ i l.
    same_map (λ m. get_or (probe_messages v q' m) i []) (λ m. get_or (probe_messages v q m) i []) (points n)
    (same_map (λ m. map (λ x. get_or (probe_messages v q' x) m []) (points n)) (λ m. map (λ x. get_or (probe_messages v q x) m []) (points n)) (from 0 (last_round v)) e i
    (from_in 0 (last_round v) i (omega arith) (omega (arith, probe_messages_long v q' j))))
    j (from_in 1 n j h1 (omega arith)))
