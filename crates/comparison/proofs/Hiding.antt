-- One probe hides its totals, in either way: for any t parties, other totals with the same verdict fit what they see, for exactly one
-- set of coins. Assumes nothing.
use mathlib.Core.Path.{◌≡◌, refl, sym, ap, ap₂, subst, ◌∙◌}
use mathlib.Core.List.{List, [], ◌∷◌, ◌++◌, map, head-eq_of_cons-eq, tail-eq_of_cons-eq}
use Prim.Native.Nat.{ℕ, zero, suc, ◌+◌, ◌^◌, ◌≤◌, ◌<◌}
use native.Mathlib.Omega.{arith}
use lib.Dec.{lit<}
use lib.ListN.{length, take, drop, get_or, length-map}
use lib.Seq.{take_at, drop_at}
use Rattle.fields.specs.Amount.{p, amounts}
use Rattle.fields.specs.Byte.{bytes}
use Rattle.fields.proofs.Fields.{amount_field, byte_field}
use Rattle.sharing.specs.Polynomial.{value, shares}
use Rattle.ranges.specs.Distinct.{Distinct}
use Rattle.sharing.proofs.Points.{Different, with_zero}
use Rattle.sharing.proofs.Laws.{recolour}
use Rattle.verdict.specs.Verdict.{verdict}
use Rattle.comparison.specs.Local.{on_polynomials}
use Rattle.comparison.specs.Rounds.{last}
use Rattle.ways.specs.Way.{Way, levels_of}
use Rattle.comparison.specs.Pairs.{Triple, Pair, first_pairs}
use Rattle.comparison.specs.Probe.{SheetCoins, SheetInRange, Probe, bit_polynomials, triple_polynomials, sheet_polynomials, triple_words, sheet_shares, secret, sum_polynomial, opened_sum, levels, pairs_after, started, last_polynomial, side_word, probe_messages}
use Rattle.comparison.proofs.Matched.{moved, probe, matched_bits, matched}
use Rattle.comparison.proofs.Lists.{Pairs, pairs_at, pairs_length, pairs_take}
use Rattle.comparison.proofs.Values.{Shared}
use Rattle.comparison.proofs.Dealt.{ProbeShared, sum_shared, bit_polynomials_length}
use Rattle.comparison.proofs.Agreement.{In, map_same, same_map, heard, Amounts, Bytes, recolour_group, alike_same, alike_recolour, masked_alike, last_alike}
use Rattle.comparison.proofs.Steps.{keeps_alike, OnPair, first_pairs_kept}
use Rattle.comparison.proofs.Counts.{started_length, all_levels, used, used_all}
use Rattle.comparison.proofs.Levels.{shares_said, said_in_levels}
use Rattle.comparison.proofs.Promise.{Compares, probe_shared, sum_law, promised}
use Rattle.comparison.proofs.Matching.{bits_ranged, bits_long, bits_alike, bits_words, dealt_triples, Seen, LevelsKept, kept}
use Rattle.comparison.proofs.Only.{coefficients_only, bits_only, read_shared, levels_fixed, words_seen, seen_words, levels_only}

-- ---- what is claimed

-- A probe q of n parties, in which these totals are compared with these coins; a pool xs of t of the parties; and other totals.
pub record Other (w : Way) (n t : ℕ) (xs : List ℕ) (demand supply : ℕ) (c : SheetCoins) (q : Probe) (demand' supply' : ℕ) (d' s' : List ℕ) : Type 0 where
  pub at_most : n ≤ 9
  pub more : t < n
  pub pool : Distinct n xs
  pub pooled : length xs ≡ t
  pub first : Compares w t demand supply c q
  pub demand_shared : Shared p t d'
  pub supply_shared : Shared p t s'
  pub demand_is : secret d' ≡ demand'
  pub supply_is : secret s' ≡ supply'
  pub demand_lt : demand' < 2 ^ 32
  pub supply_lt : supply' < 2 ^ 32
  -- the pool has the same shares of them
  pub demand_seen : shares amounts d' xs ≡ shares amounts q.demand xs
  pub supply_seen : shares amounts s' xs ≡ shares amounts q.supply xs
  pub verdict_same : verdict demand supply ≡ verdict demand' supply'
  -- the mask stays "within 0 to 2^58 - 1 when moved"
  pub mask_stays : demand + supply' ≤ c.mask + demand' + supply
  pub mask_lt : moved c.mask demand supply demand' supply' < 2 ^ 58

-- With these coins for the other totals the pool gets the same words and all parties say the same, and with no others.
pub record Matches (w : Way) (n t : ℕ) (xs : List ℕ) (q : Probe) (d' s' : List ℕ) (coins : SheetCoins) : Type 0 where
  pub ranged : SheetInRange w t coins
  -- the 127 or 220 words of each pooled party
  pub same_words : map (λ x. sheet_shares x (sheet_polynomials coins)) xs ≡ map (λ x. sheet_shares x q.sheet) xs
  -- what any party says, round by round
  pub same_messages : (j : ℕ) → probe_messages w (probe d' s' coins) j ≡ probe_messages w q j
  -- the polynomials said in the levels, so every D and E
  pub same_levels : levels w (levels_of w) (started (probe d' s' coins)) (sheet_polynomials coins).triples ≡ levels w (levels_of w) (started q) q.sheet.triples
  -- T and the verdict, as opened
  pub same_sum : opened_sum (probe d' s' coins) ≡ opened_sum q
  pub same_verdict : secret (last_polynomial w (probe d' s' coins)) ≡ secret (last_polynomial w q)
  pub only : (e : SheetCoins) → SheetInRange w t e
      → map (λ x. sheet_shares x (sheet_polynomials e)) xs ≡ map (λ x. sheet_shares x q.sheet) xs
      → ((j : ℕ) → 1 ≤ j → j ≤ n → probe_messages w (probe d' s' e) j ≡ probe_messages w q j)
      → e ≡ coins

-- the other totals are compared, with any coins in range
pub compares : {w : Way} {n t : ℕ} {xs : List ℕ} {demand supply : ℕ} {c : SheetCoins} {q : Probe} {demand' supply' : ℕ} {d' s' : List ℕ}
    → Other w n t xs demand supply c q demand' supply' d' s' → (e : SheetCoins) → SheetInRange w t e → Compares w t demand' supply' e (probe d' s' e)
compares A e h =
    record {
      demand_shared = A.demand_shared;
      supply_shared = A.supply_shared;
      demand_is = A.demand_is;
      supply_is = A.supply_is;
      demand_lt = A.demand_lt;
      supply_lt = A.supply_lt;
      ranged = h;
      sheet_is = refl;
    }

levels_length : (w : Way) (n : ℕ) (ps : List (Pair (List ℕ))) (ts : List (Triple (List ℕ))) → length (levels w n ps ts) ≡ n
unfolding levels
levels_length w zero ps ts = refl
levels_length w (suc n) ps ts = ap suc (levels_length w n _ _)

-- ---- the mask moves so that T stays, and no other mask does

pub moved_law : (mask demand supply demand' supply' : ℕ) → demand + supply' ≤ mask + demand' + supply
    → moved mask demand supply demand' supply' + demand + supply' ≡ mask + demand' + supply
moved_law mask demand supply demand' supply' h = omega arith

-- T + mask + supply = base + demand in both probes
module _ (T T' base mask demand supply demand' supply' : ℕ) (stays : demand + supply' ≤ mask + demand' + supply) where
  still : (mask' : ℕ) → mask' ≡ moved mask demand supply demand' supply'
      → T + mask + supply ≡ base + demand → T' + mask' + supply' ≡ base + demand' → T' ≡ T
  still mask' m e e' = omega arith

  mask_only : (mask' : ℕ) → T' ≡ T → T + mask + supply ≡ base + demand → T' + mask' + supply' ≡ base + demand'
      → mask' ≡ moved mask demand supply demand' supply'
  mask_only mask' h e e' = omega arith

-- ---- the sheet of any coins in range

pub append_parts : {A : Type 0} (ks ks' ls ls' : List A) → length ks ≡ length ks' → ks ++ ls ≡ ks' ++ ls' → (ks ≡ ks') × (ls ≡ ls')
append_parts ks ks' ls ls' h e = (
  sym (take_at ks ls (length ks') h) ∙ ap (take (length ks')) e ∙ take_at ks' ls' (length ks') refl,
  sym (drop_at ks ls (length ks') h) ∙ ap (drop (length ks')) e ∙ drop_at ks' ls' (length ks') refl,
)

-- ---- both probes

module _ (w : Way) (n t : ℕ) (xs : List ℕ) (demand supply : ℕ) (c : SheetCoins) (d s : List ℕ) (demand' supply' : ℕ) (d' s' : List ℕ)
    (A : Other w n t xs demand supply c (probe d s c) demand' supply' d' s') where
  abbrev T : ℕ
  T = opened_sum (probe d s c)

  abbrev mask' : ℕ
  mask' = moved c.mask demand supply demand' supply'

  abbrev c' : SheetCoins
  c' = matched xs w T mask' c

  abbrev bits : List (List ℕ)
  bits = bit_polynomials 1 c.mask c.of_bits

  abbrev bits' : List (List ℕ)
  bits' = bit_polynomials 1 mask' (matched_bits xs 1 c.mask mask' c.of_bits)

  -- the pairs that the levels start from, of T and bits
  abbrev begun : ℕ → List (List ℕ) → List (Pair (List ℕ))
  begun z bs = first_pairs (on_polynomials bytes) z (take 32 bs)

  D : Different (0 ∷ xs)
  D = with_zero n xs A.at_most A.pool

  -- ---- the matched coins are in range

  pairs : Pairs (Bytes t xs) bits bits'
  pairs = bits_alike t xs D A.pooled 1 c.mask mask' c.of_bits A.first.ranged.of_bits

  bits_many : length bits ≡ 33
  bits_many = bit_polynomials_length 1 c.mask c.of_bits ∙ A.first.ranged.bits_long

  begun_alike : (bs : List (List ℕ)) → Pairs (Bytes t xs) bits bs → Pairs (OnPair (Bytes t xs)) (begun T bits) (begun T bs)
  begun_alike bs h = first_pairs_kept (keeps_alike t xs D.2) T (take 32 bits) (take 32 bs) (pairs_take (Bytes t xs) 32 bits bs h)

  begun_many : length (begun T bits) ≡ 32
  unfolding started sheet_polynomials
  begun_many = started_length (probe d s c) bits_many

  triples_many : length c.triples ≡ used w (levels_of w) (length (begun T bits))
  triples_many = rw begun_many (A.first.ranged.triples_long ∙ sym (used_all w))

  all_kept : LevelsKept w t xs (levels_of w) (begun T bits) (begun T bits') c.triples c'.triples
  unfolding matched
  all_kept = kept t xs D A.pooled w (levels_of w) (begun T bits) (begun T bits') c.triples triples_many (begun_alike bits' pairs) A.first.ranged.triples

  matched_ranged : SheetInRange w t c'
  unfolding matched
  matched_ranged =
      record {
        mask = A.mask_lt;
        of_mask = recolour_group amount_field t xs c.mask mask' c.of_mask A.pooled;
        of_bits = bits_ranged t xs D A.pooled 1 c.mask mask' c.of_bits;
        bits_long = bits_long t xs D A.pooled 1 c.mask mask' c.of_bits ∙ A.first.ranged.bits_long;
        triples = all_kept.ranged;
        triples_long = sym (pairs_length (Seen t xs) c.triples c'.triples all_kept.seen) ∙ A.first.ranged.triples_long;
      }

  -- ---- the words of the pool

  mask_alike : Amounts t xs (c.mask ∷ c.of_mask) (c'.mask ∷ c'.of_mask)
  unfolding matched
  mask_alike =
      alike_recolour amount_field t xs D A.pooled c.mask mask' c.of_mask
      (omega (arith, A.first.ranged.mask)) (omega (arith, A.mask_lt)) A.first.ranged.of_mask

  words_kept : (x : ℕ) → In x xs → sheet_shares x (sheet_polynomials c') ≡ sheet_shares x (sheet_polynomials c)
  unfolding sheet_shares sheet_polynomials matched
  words_kept x m =
      ap₂ (λ (z : ℕ) (zs : List ℕ). z ∷ zs) (sym (mask_alike.same x m))
      (ap₂ (λ (y z : List ℕ). y ++ z) (bits_words t xs D A.pooled x m bits bits' pairs)
      (seen_words t xs x m c.triples c'.triples all_kept.seen))

  -- ---- round 1

  totals_alike : (e e' : List ℕ) → Shared p t e → Shared p t e' → shares amounts e' xs ≡ shares amounts e xs → Amounts t xs e e'
  totals_alike e e' h h' w = record { first = h; second = h'; same = same_map (value amounts e) (value amounts e') xs (sym w) }

  sum_alike : Amounts t xs (sum_polynomial (probe d s c)) (sum_polynomial (probe d' s' c'))
  unfolding sum_polynomial sheet_polynomials
  sum_alike =
      masked_alike D.2 mask_alike
      (totals_alike d d' A.first.demand_shared A.demand_shared A.demand_seen)
      (totals_alike s s' A.first.supply_shared A.supply_shared A.supply_seen)

  sum_stays : opened_sum (probe d' s' c') ≡ T
  unfolding matched
  sum_stays =
      still T (opened_sum (probe d' s' c')) (2 ^ 59 + 2 ^ 32) c.mask demand supply demand' supply' A.mask_stays mask' refl
      (sum_law w t demand supply c (probe d s c) A.first) (sum_law w t demand' supply' c' (probe d' s' c') (compares A c' matched_ranged))

  sum_kept : sum_polynomial (probe d' s' c') ≡ sum_polynomial (probe d s c)
  sum_kept = sym (alike_same amount_field t xs D A.pooled sum_alike (sym sum_stays))

  -- ---- the last round

  abbrev no_pair : Pair (List ℕ)
  no_pair = record { top = []; bottom = [] }

  -- its polynomial, by T, bits and triples
  ending : ℕ → List (List ℕ) → List (Triple (List ℕ)) → List ℕ
  ending z bs us = last (on_polynomials bytes) z (get_or bs 32 []) (get_or (pairs_after w (levels_of w) (begun z bs) us) 0 no_pair).bottom

  ending_first : last_polynomial w (probe d s c) ≡ ending T bits (dealt_triples c.triples)
  unfolding ending last_polynomial started sheet_polynomials
  ending_first = refl

  ending_second : last_polynomial w (probe d' s' c') ≡ ending T bits' (dealt_triples c'.triples)
  unfolding ending last_polynomial started sheet_polynomials matched
  ending_second = ap (λ (z : ℕ). ending z bits' (dealt_triples c'.triples)) sum_stays

  one_left : length (pairs_after w (levels_of w) (begun T bits) (dealt_triples c.triples)) ≡ 1
  unfolding started sheet_polynomials
  one_left = all_levels w (probe d s c) bits_many (length-map c.triples triple_polynomials ∙ A.first.ranged.triples_long)

  ending_alike : Bytes t xs (ending T bits (dealt_triples c.triples)) (ending T bits' (dealt_triples c'.triples))
  unfolding ending
  ending_alike =
      last_alike D.2 T (pairs_at (Bytes t xs) bits bits' 32 [] [] pairs (omega (arith, bits_many)))
      (pairs_at (OnPair (Bytes t xs)) (pairs_after w (levels_of w) (begun T bits) (dealt_triples c.triples)) (pairs_after w (levels_of w) (begun T bits') (dealt_triples c'.triples))
      0 no_pair no_pair all_kept.after (omega (arith, one_left))).bottom

  verdict_kept : secret (last_polynomial w (probe d' s' c')) ≡ secret (last_polynomial w (probe d s c))
  verdict_kept =
      promised w t demand' supply' c' (probe d' s' c') (compares A c' matched_ranged)
      ∙ sym A.verdict_same ∙ sym (promised w t demand supply c (probe d s c) A.first)

  last_kept : last_polynomial w (probe d' s' c') ≡ last_polynomial w (probe d s c)
  last_kept =
      ending_second
      ∙ sym (alike_same byte_field t xs D A.pooled ending_alike (ap secret (sym ending_first) ∙ sym verdict_kept ∙ ap secret ending_second))
      ∙ sym ending_first

  -- ---- all messages

  levels_said : levels w (levels_of w) (started (probe d' s' c')) (sheet_polynomials c').triples ≡ levels w (levels_of w) (started (probe d s c)) (sheet_polynomials c).triples
  unfolding started sheet_polynomials matched
  levels_said = ap (λ (z : ℕ). levels w (levels_of w) (begun z bits') (dealt_triples c'.triples)) sum_stays ∙ all_kept.said

  messages_kept : (j : ℕ) → probe_messages w (probe d' s' c') j ≡ probe_messages w (probe d s c) j
  unfolding probe_messages
  messages_kept j =
      ap₂ (λ (z : ℕ) (zs : List (List ℕ)). (z ∷ []) ∷ zs) (ap (λ (z : List ℕ). value amounts z j) sum_kept)
      (ap₂ (λ (y z : List (List ℕ)). y ++ z) (ap (map (map (side_word j))) levels_said) (ap (λ (z : List ℕ). (value bytes z j ∷ []) ∷ []) last_kept))

  -- ---- other coins that do the same are these

  module _ (e : SheetCoins) (h : SheetInRange w t e)
      (words : map (λ x. sheet_shares x (sheet_polynomials e)) xs ≡ map (λ x. sheet_shares x (sheet_polynomials c)) xs)
      (said : (j : ℕ) → 1 ≤ j → j ≤ n → probe_messages w (probe d' s' e) j ≡ probe_messages w (probe d s c) j) where
    abbrev bits'' : List (List ℕ)
    bits'' = bit_polynomials 1 e.mask e.of_bits

    second : Compares w t demand' supply' e (probe d' s' e)
    second = compares A e h

    S : ProbeShared w t (probe d s c)
    S = probe_shared w t demand supply c (probe d s c) A.first

    S'' : ProbeShared w t (probe d' s' e)
    S'' = probe_shared w t demand' supply' e (probe d' s' e) second

    -- round 1 is heard whole, so T is the same, and the mask is the moved one
    sum_heard : sum_polynomial (probe d' s' e) ≡ sum_polynomial (probe d s c)
    unfolding probe_messages
    sum_heard =
        heard amount_field t n (sum_polynomial (probe d' s' e)) (sum_polynomial (probe d s c)) A.more A.at_most
        (sum_shared w t (probe d' s' e) S'') (sum_shared w t (probe d s c) S)
        (λ j h1 hn. head-eq_of_cons-eq (head-eq_of_cons-eq (said j h1 hn)))

    mask_same : e.mask ≡ mask'
    mask_same =
        mask_only T (opened_sum (probe d' s' e)) (2 ^ 59 + 2 ^ 32) c.mask demand supply demand' supply' A.mask_stays e.mask
        (ap secret sum_heard)
        (sum_law w t demand supply c (probe d s c) A.first) (sum_law w t demand' supply' e (probe d' s' e) second)

    -- the words, place by place
    word : (x : ℕ) → In x xs → sheet_shares x (sheet_polynomials e) ≡ sheet_shares x (sheet_polynomials c)
    word = same_map (λ x. sheet_shares x (sheet_polynomials e)) (λ x. sheet_shares x (sheet_polynomials c)) xs words

    bits_many'' : length bits'' ≡ 33
    bits_many'' = bit_polynomials_length 1 e.mask e.of_bits ∙ h.bits_long

    later_words : (x : ℕ) → In x xs
        → (map (λ b. value bytes b x) bits'' ≡ map (λ b. value bytes b x) bits)
        × (triple_words x (dealt_triples e.triples) ≡ triple_words x (dealt_triples c.triples))
    unfolding sheet_shares sheet_polynomials
    later_words x m =
        append_parts (map (λ b. value bytes b x) bits'') (map (λ b. value bytes b x) bits) _ _
        (length-map bits'' (λ b. value bytes b x) ∙ bits_many'' ∙ sym bits_many ∙ sym (length-map bits (λ b. value bytes b x)))
        (tail-eq_of_cons-eq (word x m))

    of_mask_same : e.of_mask ≡ recolour amount_field xs c.mask mask' c.of_mask
    unfolding sheet_shares sheet_polynomials
    of_mask_same =
        coefficients_only amount_field t xs D A.pooled c.mask e.mask c.of_mask e.of_mask
        (omega (arith, A.first.ranged.mask)) (omega (arith, h.mask)) A.first.ranged.of_mask h.of_mask
        (λ x m. head-eq_of_cons-eq (word x m))
        ∙ ap (λ (z : ℕ). recolour amount_field xs c.mask z c.of_mask) mask_same

    of_bits_same : e.of_bits ≡ matched_bits xs 1 c.mask mask' c.of_bits
    of_bits_same =
        bits_only t xs D A.pooled 1 c.mask e.mask c.of_bits e.of_bits A.first.ranged.of_bits h.of_bits
        (h.bits_long ∙ sym A.first.ranged.bits_long) (λ x m. (later_words x m).0)
        ∙ ap (λ (z : ℕ). matched_bits xs 1 c.mask z c.of_bits) mask_same

    bits_same : bits'' ≡ bits'
    bits_same = ap₂ (bit_polynomials 1) mask_same of_bits_same

    -- rounds 2 to 6 are heard whole
    levels_heard : levels w (levels_of w) (started (probe d' s' e)) (sheet_polynomials e).triples ≡ levels w (levels_of w) (started (probe d s c)) (sheet_polynomials c).triples
    unfolding probe_messages
    levels_heard =
        levels_fixed t n A.more A.at_most (levels w (levels_of w) (started (probe d s c)) (sheet_polynomials c).triples) (levels w (levels_of w) (started (probe d' s' e)) (sheet_polynomials e).triples)
        (read_shared t 0 (levels w (levels_of w) (started (probe d s c)) (sheet_polynomials c).triples) (shares_said w (probe d s c) 0 (levels_of w)) (said_in_levels w t (probe d s c) S 0 (lit< tt) (levels_of w)))
        (read_shared t 0 (levels w (levels_of w) (started (probe d' s' e)) (sheet_polynomials e).triples) (shares_said w (probe d' s' e) 0 (levels_of w)) (said_in_levels w t (probe d' s' e) S'' 0 (lit< tt) (levels_of w)))
        (λ j h1 hn.
        (append_parts (map (map (side_word j)) (levels w (levels_of w) (started (probe d' s' e)) (sheet_polynomials e).triples))
        (map (map (side_word j)) (levels w (levels_of w) (started (probe d s c)) (sheet_polynomials c).triples)) _ _
        (length-map (levels w (levels_of w) (started (probe d' s' e)) (sheet_polynomials e).triples) (map (side_word j)) ∙ levels_length w (levels_of w) _ _
        ∙ sym (length-map (levels w (levels_of w) (started (probe d s c)) (sheet_polynomials c).triples) (map (side_word j)) ∙ levels_length w (levels_of w) _ _))
        (tail-eq_of_cons-eq (said j h1 hn))).0)

    levels_same : levels w (levels_of w) (begun T bits') (dealt_triples e.triples) ≡ levels w (levels_of w) (begun T bits) (dealt_triples c.triples)
    unfolding started sheet_polynomials
    levels_same =
        ap₂ (λ (z : ℕ) (bs : List (List ℕ)). levels w (levels_of w) (begun z bs) (dealt_triples e.triples)) (ap secret (sym sum_heard)) (sym bits_same) ∙ levels_heard

    triples_same : e.triples ≡ c'.triples
    unfolding matched
    triples_same =
        levels_only t xs D A.pooled w (levels_of w) (begun T bits) (begun T bits') c.triples e.triples triples_many (begun_alike bits' pairs)
        A.first.ranged.triples h.triples
        (words_seen t xs c.triples e.triples (h.triples_long ∙ sym A.first.ranged.triples_long) A.first.ranged.triples h.triples
        (λ x m. (later_words x m).1))
        levels_same

    coins_same : e ≡ c'
    unfolding matched
    coins_same = λ k. record { mask = mask_same k; of_mask = of_mask_same k; of_bits = of_bits_same k; triples = triples_same k }

  matches : Matches w n t xs (probe d s c) d' s' c'
  matches =
      record {
        ranged = matched_ranged;
        same_words = map_same (λ x. sheet_shares x (sheet_polynomials c')) (λ x. sheet_shares x (sheet_polynomials c)) xs words_kept;
        same_messages = messages_kept;
        same_levels = levels_said;
        same_sum = sum_stays;
        same_verdict = verdict_kept;
        only = coins_same;
      }

-- ---- the law

-- Other totals with the same verdict fit what the pool sees with the matched coins, and with no others.
pub hides : (w : Way) (n t : ℕ) (xs : List ℕ) (demand supply : ℕ) (c : SheetCoins) (q : Probe) (demand' supply' : ℕ) (d' s' : List ℕ)
    → Other w n t xs demand supply c q demand' supply' d' s'
    → Matches w n t xs q d' s' (matched xs w (opened_sum q) (moved c.mask demand supply demand' supply') c)
hides w n t xs demand supply c q demand' supply' d' s' A =
    let e : q ≡ probe q.demand q.supply c = λ k. record { demand = q.demand; supply = q.supply; sheet = A.first.sheet_is k } in
    subst (λ (z : Probe). Matches w n t xs z d' s' (matched xs w (opened_sum z) (moved c.mask demand supply demand' supply') c)) (sym e)
    (matches w n t xs demand supply c q.demand q.supply demand' supply' d' s'
    (subst (λ (z : Probe). Other w n t xs demand supply c z demand' supply' d' s') e A))

-- Of its own totals a probe's own coins are the matched ones: what is supposed of other totals holds of these.
pub itself : (w : Way) (n t : ℕ) (xs : List ℕ) (demand supply : ℕ) (c : SheetCoins) (q : Probe) → n ≤ 9 → t < n → Distinct n xs → length xs ≡ t
    → Compares w t demand supply c q → c ≡ matched xs w (opened_sum q) (moved c.mask demand supply demand supply) c
itself w n t xs demand supply c q h9 hn ps l h =
    let A : Other w n t xs demand supply c q demand supply q.demand q.supply =
    record {
      at_most = h9;
      more = hn;
      pool = ps;
      pooled = l;
      first = h;
      demand_shared = h.demand_shared;
      supply_shared = h.supply_shared;
      demand_is = h.demand_is;
      supply_is = h.supply_is;
      demand_lt = h.demand_lt;
      supply_lt = h.supply_lt;
      demand_seen = refl;
      supply_seen = refl;
      verdict_same = refl;
      mask_stays = omega arith;
      mask_lt = omega (arith, h.ranged.mask);
    } in
    let e : probe q.demand q.supply c ≡ q = λ k. record { demand = q.demand; supply = q.supply; sheet = sym h.sheet_is k } in
    (hides w n t xs demand supply c q demand supply q.demand q.supply A).only c h.ranged
    (ap (λ (z : Probe). map (λ x. sheet_shares x z.sheet) xs) e) (λ j h1 hn. ap (λ (z : Probe). probe_messages w z j) e)
