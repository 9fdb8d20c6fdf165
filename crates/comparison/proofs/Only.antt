-- Coins that give the pool the same words and make every level the same are the matched ones. Assumes nothing.
use mathlib.Core.Path.{◌≡◌, refl, sym, ap, ap₂, ◌∙◌}
use mathlib.Core.List.{List, [], ◌∷◌, ◌++◌, map, head-eq_of_cons-eq, tail-eq_of_cons-eq}
use Prim.Native.Nat.{ℕ, zero, suc, ◌≤◌, ◌<◌}
use native.Mathlib.Omega.{arith}
use native.Mathlib.Nat.{suc_inj}
use lib.ListN.{length, take, drop, length-map, length-take, length-drop, take-append-drop}
use Rattle.fields.specs.Field.{Field}
use Rattle.fields.specs.Bits.{bit}
use Rattle.fields.specs.Byte.{xor, product, bytes}
use Rattle.fields.proofs.Fields.{byte_field}
use Rattle.sharing.specs.Polynomial.{value}
use Rattle.sharing.proofs.Points.{Different}
use Rattle.sharing.proofs.Laws.{value_lt, recolour, recolour_only}
use Rattle.comparison.specs.Local.{on_polynomials}
use Rattle.comparison.specs.Rounds.{both}
use Rattle.ways.specs.Way.{Way, uses}
use Rattle.comparison.specs.Pairs.{Pair, Sides, unused, sides, masked_sides, said_of}
use Rattle.comparison.specs.Probe.{TripleCoins, Group, Each, TripleInRange, bit_polynomials, triple_polynomials, triple_words, secret, said, next, levels, side_word}
use Rattle.comparison.proofs.Matched.{spent, recoloured, matched_bits, matched_product, matched_level, matched_levels}
use Rattle.comparison.proofs.Lists.{Pairs, each_take, each_drop, pairs_length, pairs_drop, pairs_take}
use Rattle.comparison.proofs.Values.{Shared, bit_byte, secret_value}
use Rattle.comparison.proofs.Dealt.{triple_polynomials_shared}
use Rattle.comparison.proofs.Agreement.{In, Bytes, map_same, heard, solved}
use Rattle.comparison.proofs.Steps.{keeps_alike, OnPair, OnSides, sides_kept}
use Rattle.comparison.proofs.Counts.{sides_length, next_length, used}
use Rattle.comparison.proofs.Levels.{At}
use Rattle.comparison.proofs.Matching.{dealt_triples, Seen, seen_triples, levels_split, next_alike, sum_secret, sum_shared}

both_parts : (d e d' e' : ℕ) → d < 256 → d' < 256 → both d e ≡ both d' e' → (d ≡ d') × (e ≡ e')
both_parts d e d' e' h h' q = (omega arith, omega arith)

-- the coefficients of another secret that show the pool the same
pub coefficients_only : (F : Field) (t : ℕ) (xs : List ℕ) → Different (F.ops.zero ∷ xs) → length xs ≡ t
    → (s s' : ℕ) (cs ds : List ℕ) → s < F.size → s' < F.size → Group F.size t cs → Group F.size t ds
    → ((x : ℕ) → In x xs → value F.ops (s' ∷ ds) x ≡ value F.ops (s ∷ cs) x) → ds ≡ recolour F xs s s' cs
coefficients_only F t xs D l s s' cs ds hs hs' hc hd e =
    recolour_only F xs s s' cs ds D hs hs' hc.1 hd.1 (hd.0 ∙ sym l)
    (map_same (value F.ops (s' ∷ ds)) (value F.ops (s ∷ cs)) xs e)

module _ (t : ℕ) (xs : List ℕ) (D : Different (0 ∷ xs)) (l : length xs ≡ t) where
  pub bits_only : (i mask mask' : ℕ) (css ess : List (List ℕ)) → Each (Group 256 t) css → Each (Group 256 t) ess → length ess ≡ length css
      → ((x : ℕ) → In x xs → map (λ b. value bytes b x) (bit_polynomials i mask' ess) ≡ map (λ b. value bytes b x) (bit_polynomials i mask css))
      → ess ≡ matched_bits xs i mask mask' css
  unfolding matched_bits bit_polynomials
  bits_only i mask mask' [] [] hc he n w = refl
  bits_only i mask mask' [] (es ∷ ess) hc he n w = absurd (omega arith)
  bits_only i mask mask' (cs ∷ css) [] hc he n w = absurd (omega arith)
  bits_only i mask mask' (cs ∷ css) (es ∷ ess) hc he n w =
      ap₂ (λ (z : List ℕ) (zs : List (List ℕ)). z ∷ zs)
      (coefficients_only byte_field t xs D l (bit i mask) (bit i mask') cs es (bit_byte i mask) (bit_byte i mask') hc.0 he.0
      (λ x m. head-eq_of_cons-eq (w x m)))
      (bits_only (suc i) mask mask' css ess hc.1 he.1 (suc_inj n) (λ x m. tail-eq_of_cons-eq (w x m)))

  -- ---- one triple

  module _ (c e : TripleCoins) (hc : TripleInRange t c) (he : TripleInRange t e)
      (wa : (x : ℕ) → In x xs → value bytes (triple_polynomials e).alpha x ≡ value bytes (triple_polynomials c).alpha x)
      (wb : (x : ℕ) → In x xs → value bytes (triple_polynomials e).beta x ≡ value bytes (triple_polynomials c).beta x)
      (wg : (x : ℕ) → In x xs → value bytes (triple_polynomials e).gamma x ≡ value bytes (triple_polynomials c).gamma x) where
    recoloured_only : e ≡ recoloured xs c e.alpha e.beta
    unfolding recoloured triple_polynomials
    recoloured_only =
        let ea : e.of_alpha ≡ recolour byte_field xs c.alpha e.alpha c.of_alpha =
        coefficients_only byte_field t xs D l c.alpha e.alpha c.of_alpha e.of_alpha hc.alpha he.alpha hc.of_alpha he.of_alpha wa in
        let eb : e.of_beta ≡ recolour byte_field xs c.beta e.beta c.of_beta =
        coefficients_only byte_field t xs D l c.beta e.beta c.of_beta e.of_beta hc.beta he.beta hc.of_beta he.of_beta wb in
        let eg : e.of_gamma ≡ recolour byte_field xs (product c.alpha c.beta) (product e.alpha e.beta) c.of_gamma =
        coefficients_only byte_field t xs D l (product c.alpha c.beta) (product e.alpha e.beta) c.of_gamma e.of_gamma
        (byte_field.ring.mul_lt c.alpha c.beta hc.alpha hc.beta) (byte_field.ring.mul_lt e.alpha e.beta he.alpha he.beta)
        hc.of_gamma he.of_gamma wg in
        λ k. record { alpha = e.alpha; beta = e.beta; of_alpha = ea k; of_beta = eb k; of_gamma = eg k }

-- ---- what n parties say fixes the polynomials

pub record SidesShared (t : ℕ) (s : Sides (List ℕ)) : Type 0 where
  pub left : Shared 256 t s.left
  pub right : Shared 256 t s.right

pub read_shared : (t x : ℕ) (lss : List (List (Sides (List ℕ)))) (rss : List (List (Sides ℕ))) → Pairs (Pairs (OnSides (At t x))) lss rss
    → Each (Each (SidesShared t)) lss
read_shared t x [] [] h = tt
read_shared t x [] (rs ∷ rss) h = absurd h
read_shared t x (ls ∷ lss) [] h = absurd h
read_shared t x (ls ∷ lss) (rs ∷ rss) h = (go ls rs h.0, read_shared t x lss rss h.1)
  where
    go : (ls : List (Sides (List ℕ))) (rs : List (Sides ℕ)) → Pairs (OnSides (At t x)) ls rs → Each (SidesShared t) ls
    go [] [] h = tt
    go [] (r ∷ rs) h = absurd h
    go (l ∷ ls) [] h = absurd h
    go (l ∷ ls) (r ∷ rs) h = (record { left = h.0.left.shared; right = h.0.right.shared }, go ls rs h.1)

module _ (t n : ℕ) (more : t < n) (most : n ≤ 9) where
  -- n words of a product fix both of its polynomials
  side_fixed : (s s' : Sides (List ℕ)) → SidesShared t s → SidesShared t s'
      → ((j : ℕ) → 1 ≤ j → j ≤ n → side_word j s' ≡ side_word j s) → s' ≡ s
  side_fixed s s' h h' w =
      let parts : (j : ℕ) → 1 ≤ j → j ≤ n
      → (value bytes s'.left j ≡ value bytes s.left j) × (value bytes s'.right j ≡ value bytes s.right j) =
      λ j h1 hn.
      both_parts (value bytes s'.left j) (value bytes s'.right j) (value bytes s.left j) (value bytes s.right j)
      (value_lt byte_field s'.left j h'.left.1 (omega arith)) (value_lt byte_field s.left j h.left.1 (omega arith)) (w j h1 hn) in
      let e : s'.left ≡ s.left = heard byte_field t n s'.left s.left more most h'.left h.left (λ j h1 hn. (parts j h1 hn).0) in
      let f : s'.right ≡ s.right = heard byte_field t n s'.right s.right more most h'.right h.right (λ j h1 hn. (parts j h1 hn).1) in
      λ k. record { left = e k; right = f k }

  level_fixed : (ls ls' : List (Sides (List ℕ))) → Each (SidesShared t) ls → Each (SidesShared t) ls'
      → ((j : ℕ) → 1 ≤ j → j ≤ n → map (side_word j) ls' ≡ map (side_word j) ls) → ls' ≡ ls
  level_fixed [] [] h h' w = refl
  level_fixed [] (l' ∷ ls') h h' w = absurd (omega (arith, ap length (w 1 (omega arith) (omega arith))))
  level_fixed (l ∷ ls) [] h h' w = absurd (omega (arith, ap length (w 1 (omega arith) (omega arith))))
  level_fixed (l ∷ ls) (l' ∷ ls') h h' w =
      ap₂ (λ (z : Sides (List ℕ)) (zs : List (Sides (List ℕ))). z ∷ zs)
      (side_fixed l l' h.0 h'.0 (λ j h1 hn. head-eq_of_cons-eq (w j h1 hn)))
      (level_fixed ls ls' h.1 h'.1 (λ j h1 hn. tail-eq_of_cons-eq (w j h1 hn)))

  pub levels_fixed : (lss lss' : List (List (Sides (List ℕ)))) → Each (Each (SidesShared t)) lss → Each (Each (SidesShared t)) lss'
      → ((j : ℕ) → 1 ≤ j → j ≤ n → map (map (side_word j)) lss' ≡ map (map (side_word j)) lss) → lss' ≡ lss
  levels_fixed [] [] h h' w = refl
  levels_fixed [] (l' ∷ ls') h h' w = absurd (omega (arith, ap length (w 1 (omega arith) (omega arith))))
  levels_fixed (l ∷ ls) [] h h' w = absurd (omega (arith, ap length (w 1 (omega arith) (omega arith))))
  levels_fixed (l ∷ ls) (l' ∷ ls') h h' w =
      ap₂ (λ (z : List (Sides (List ℕ))) (zs : List (List (Sides (List ℕ)))). z ∷ zs)
      (level_fixed l l' h.0 h'.0 (λ j h1 hn. head-eq_of_cons-eq (w j h1 hn)))
      (levels_fixed ls ls' h.1 h'.1 (λ j h1 hn. tail-eq_of_cons-eq (w j h1 hn)))

-- ---- the same words of the pool are triples alike

pub words_seen : (t : ℕ) (xs : List ℕ) (cs es : List TripleCoins) → length es ≡ length cs → Each (TripleInRange t) cs → Each (TripleInRange t) es
    → ((x : ℕ) → In x xs → triple_words x (dealt_triples es) ≡ triple_words x (dealt_triples cs)) → Pairs (Seen t xs) cs es
unfolding triple_words
words_seen t xs [] [] n hc he w = tt
words_seen t xs [] (e ∷ es) n hc he w = absurd (omega arith)
words_seen t xs (c ∷ cs) [] n hc he w = absurd (omega arith)
words_seen t xs (c ∷ cs) (e ∷ es) n hc he w = (
  record {
    alpha =
        record {
          first = (triple_polynomials_shared t c hc.0).alpha;
          second = (triple_polynomials_shared t e he.0).alpha;
          same = λ x m. sym (head-eq_of_cons-eq (w x m));
        };
    beta =
        record {
          first = (triple_polynomials_shared t c hc.0).beta;
          second = (triple_polynomials_shared t e he.0).beta;
          same = λ x m. sym (head-eq_of_cons-eq (tail-eq_of_cons-eq (w x m)));
        };
    gamma =
        record {
          first = (triple_polynomials_shared t c hc.0).gamma;
          second = (triple_polynomials_shared t e he.0).gamma;
          same = λ x m. sym (head-eq_of_cons-eq (tail-eq_of_cons-eq (tail-eq_of_cons-eq (w x m))));
        };
  },
  words_seen t xs cs es (suc_inj n) hc.1 he.1 (λ x m. tail-eq_of_cons-eq (tail-eq_of_cons-eq (tail-eq_of_cons-eq (w x m)))),
)

pub seen_words : (t : ℕ) (xs : List ℕ) (x : ℕ) → In x xs → (cs es : List TripleCoins) → Pairs (Seen t xs) cs es
    → triple_words x (dealt_triples es) ≡ triple_words x (dealt_triples cs)
unfolding triple_words
seen_words t xs x m [] [] h = refl
seen_words t xs x m [] (e ∷ es) h = absurd h
seen_words t xs x m (c ∷ cs) [] h = absurd h
seen_words t xs x m (c ∷ cs) (e ∷ es) h =
    λ k. sym (h.0.alpha.same x m) k ∷ sym (h.0.beta.same x m) k ∷ sym (h.0.gamma.same x m) k ∷ seen_words t xs x m cs es h.1 k

-- ---- a product, a level, all levels

module _ (t : ℕ) (xs : List ℕ) (D : Different (0 ∷ xs)) (l : length xs ≡ t) where
  -- where D and E are the same, the triple is the matched one
  product_only : (s s' : Sides (List ℕ)) (c e : TripleCoins) → OnSides (Bytes t xs) s s' → TripleInRange t c → TripleInRange t e → Seen t xs c e
      → masked_sides (on_polynomials bytes) s' (triple_polynomials e) ≡ masked_sides (on_polynomials bytes) s (triple_polynomials c)
      → e ≡ matched_product xs (masked_sides (on_polynomials bytes) s (triple_polynomials c)) s' c
  unfolding matched_product triple_polynomials
  product_only s s' c e hs hc he w q =
      let r : Sides (List ℕ) = masked_sides (on_polynomials bytes) s (triple_polynomials c) in
      let hl : secret r.left < 256 =
      secret_value 256 t r.left (sum_shared t s.left (triple_polynomials c).alpha hs.left.first w.alpha.first) in
      let hr : secret r.right < 256 =
      secret_value 256 t r.right (sum_shared t s.right (triple_polynomials c).beta hs.right.first w.beta.first) in
      let ea : e.alpha ≡ xor (secret r.left) (secret s'.left) =
      solved (secret s'.left) e.alpha (secret r.left) (secret_value 256 t s'.left hs.left.second) he.alpha hl
      (sym (sum_secret t s'.left (triple_polynomials e).alpha hs.left.second w.alpha.second) ∙ ap (λ (z : Sides (List ℕ)). secret z.left) q) in
      let eb : e.beta ≡ xor (secret r.right) (secret s'.right) =
      solved (secret s'.right) e.beta (secret r.right) (secret_value 256 t s'.right hs.right.second) he.beta hr
      (sym (sum_secret t s'.right (triple_polynomials e).beta hs.right.second w.beta.second) ∙ ap (λ (z : Sides (List ℕ)). secret z.right) q) in
      recoloured_only t xs D l c e hc he (λ x m. sym (w.alpha.same x m)) (λ x m. sym (w.beta.same x m)) (λ x m. sym (w.gamma.same x m))
      ∙ ap₂ (recoloured xs c) ea eb

  level_only : (ss ss' : List (Sides (List ℕ))) (cs es : List TripleCoins) → length cs ≡ length ss → Pairs (OnSides (Bytes t xs)) ss ss'
      → Each (TripleInRange t) cs → Each (TripleInRange t) es → Pairs (Seen t xs) cs es
      → said_of (on_polynomials bytes) ss' (dealt_triples es) ≡ said_of (on_polynomials bytes) ss (dealt_triples cs)
      → es ≡ matched_level xs (said_of (on_polynomials bytes) ss (dealt_triples cs)) ss' cs
  unfolding matched_level said_of
  level_only [] [] [] [] n hs hc he w q = refl
  level_only [] [] [] (e ∷ es) n hs hc he w q = absurd w
  level_only [] [] (c ∷ cs) es n hs hc he w q = absurd (omega arith)
  level_only [] (s' ∷ ss') cs es n hs hc he w q = absurd hs
  level_only (s ∷ ss) [] cs es n hs hc he w q = absurd hs
  level_only (s ∷ ss) (s' ∷ ss') [] es n hs hc he w q = absurd (omega arith)
  level_only (s ∷ ss) (s' ∷ ss') (c ∷ cs) [] n hs hc he w q = absurd w
  level_only (s ∷ ss) (s' ∷ ss') (c ∷ cs) (e ∷ es) n hs hc he w q =
      ap₂ (λ (z : TripleCoins) (zs : List TripleCoins). z ∷ zs)
      (product_only s s' c e hs.0 hc.0 he.0 w.0 (head-eq_of_cons-eq q))
      (level_only ss ss' cs es (suc_inj n) hs.1 hc.1 he.1 w.1 (tail-eq_of_cons-eq q))

  this_only : (w : Way) (ps ps' : List (Pair (List ℕ))) (a f : List TripleCoins) → length a ≡ uses w (length ps) → Pairs (OnPair (Bytes t xs)) ps ps'
      → Each (TripleInRange t) a → Each (TripleInRange t) f → Pairs (Seen t xs) a f → said w ps' (dealt_triples f) ≡ said w ps (dealt_triples a)
      → f ≡ matched_level xs (said w ps (dealt_triples a)) (sides (on_polynomials bytes) w ps') a
  unfolding said
  this_only w ps ps' a f la hp ha hf v q =
      level_only (sides (on_polynomials bytes) w ps) (sides (on_polynomials bytes) w ps') a f (la ∙ sym (sides_length (on_polynomials bytes) w ps))
      (sides_kept (keeps_alike t xs D.2) w ps ps' hp) ha hf v q

  pub levels_only : (w : Way) (n : ℕ) (ps ps' : List (Pair (List ℕ))) (cs es : List TripleCoins) → length cs ≡ used w n (length ps)
      → Pairs (OnPair (Bytes t xs)) ps ps' → Each (TripleInRange t) cs → Each (TripleInRange t) es → Pairs (Seen t xs) cs es
      → levels w n ps' (dealt_triples es) ≡ levels w n ps (dealt_triples cs) → es ≡ matched_levels xs w n ps ps' cs
  unfolding matched_levels used
  levels_only w zero ps ps' [] [] m hp hc he v q = refl
  levels_only w zero ps ps' [] (e ∷ es) m hp hc he v q = absurd v
  levels_only w zero ps ps' (c ∷ cs) es m hp hc he v q = absurd (omega arith)
  levels_only w (suc n) ps ps' cs es m hp hc he v q =
      let k : ℕ = uses w (length ps) in
      let a : List TripleCoins = spent w ps cs in
      let b : List TripleCoins = unused w ps cs in
      let f : List TripleCoins = take k es in
      let g : List TripleCoins = drop k es in
      let wa : Pairs (Seen t xs) a f = pairs_take (Seen t xs) k cs es v in
      let wb : Pairs (Seen t xs) b g = pairs_drop (Seen t xs) k cs es v in
      let la : length a ≡ k = simp length-take (omega arith) in
      let lf : length f ≡ uses w (length ps') =
      sym (pairs_length (Seen t xs) a f wa) ∙ la ∙ ap (λ (i : ℕ). uses w i) (pairs_length (OnPair (Bytes t xs)) ps ps' hp) in
      let q' : said w ps' (dealt_triples f) ∷ levels w n (next w ps' (dealt_triples f)) (dealt_triples g)
      ≡ said w ps (dealt_triples a) ∷ levels w n (next w ps (dealt_triples a)) (dealt_triples b) =
      sym (levels_split w n ps' f g lf) ∙ ap (λ (z : List TripleCoins). levels w (suc n) ps' (dealt_triples z)) (take-append-drop k es) ∙ q
      ∙ ap (λ (z : List TripleCoins). levels w (suc n) ps (dealt_triples z)) (sym (take-append-drop k cs)) ∙ levels_split w n ps a b la in
      let said_same : said w ps' (dealt_triples f) ≡ said w ps (dealt_triples a) = head-eq_of_cons-eq q' in
      let e : f ≡ matched_level xs (said w ps (dealt_triples a)) (sides (on_polynomials bytes) w ps') a =
      this_only w ps ps' a f la hp (each_take (TripleInRange t) k cs hc) (each_take (TripleInRange t) k es he) wa said_same in
      let hn : Pairs (OnPair (Bytes t xs)) (next w ps (dealt_triples a)) (next w ps' (dealt_triples f)) =
      next_alike t xs D l w ps ps' (dealt_triples a) (dealt_triples f) hp (seen_triples t xs a f wa) said_same in
      let lb : length b ≡ used w n (length (next w ps (dealt_triples a))) =
      rw (next_length w ps (dealt_triples a) (omega (arith, length-map a triple_polynomials))) (omega (arith, length-drop k cs)) in
      let r : g ≡ matched_levels xs w n (next w ps (dealt_triples a)) (next w ps' (dealt_triples f)) b =
      levels_only w n (next w ps (dealt_triples a)) (next w ps' (dealt_triples f)) b g lb hn (each_drop (TripleInRange t) k cs hc) (each_drop (TripleInRange t) k es he) wb
      (tail-eq_of_cons-eq q') in
      sym (take-append-drop k es)
      ∙ ap (λ (z : List TripleCoins). f ++ z) r
      ∙ ap (λ (z : List TripleCoins). z ++ matched_levels xs w n (next w ps (dealt_triples a)) (next w ps' (dealt_triples z)) b) e
