-- The matched coins are in range, are alike for the pool, and make every level the same. Assumes nothing.
use mathlib.Core.Path.{◌≡◌, refl, sym, ap, ap₂, subst, subst₂, ◌∙◌}
use mathlib.Core.List.{List, [], ◌∷◌, ◌++◌, map, map-append}
use Prim.Native.Nat.{ℕ, zero, suc, ◌≤◌, ◌<◌}
use native.Mathlib.Omega.{arith}
use native.Mathlib.Nat.{suc_inj}
use lib.Dec.{lit<}
use lib.ListN.{length, length-map, length-take, length-drop, take-append-drop}
use lib.Seq.{drop_at}
use Rattle.fields.specs.Bits.{bit}
use Rattle.fields.specs.Byte.{xor, product, bytes}
use Rattle.fields.proofs.Fields.{byte_field}
use Rattle.sharing.specs.Linear.{sums}
use Rattle.sharing.specs.Polynomial.{value}
use Rattle.sharing.proofs.Points.{Different}
use Rattle.comparison.specs.Local.{Local, on_polynomials}
use Rattle.ways.specs.Way.{Way, uses}
use Rattle.comparison.specs.Pairs.{Triple, Pair, Sides, unused, sides, masked_sides, said_of, products, merged}
use Rattle.comparison.specs.Probe.{TripleCoins, Group, Each, TripleInRange, bit_polynomials, triple_polynomials, secret, opened, said, next, levels, pairs_after}
use Rattle.comparison.proofs.Matched.{spent, recoloured, matched_bits, matched_product, matched_level, matched_levels}
use Rattle.comparison.proofs.Lists.{Pairs, each_take, each_drop, each_append, pairs_length, pairs_append}
use Rattle.comparison.proofs.Values.{Shared, bit_byte, reads_plus, reads_secret, secret_reads, secret_value}
use Rattle.comparison.proofs.Dealt.{triple_polynomials_shared}
use Rattle.comparison.proofs.Agreement.{In, Bytes, recolour_group, alike_same, alike_recolour, restored, plus}
use Rattle.comparison.proofs.Steps.{Keeps, keeps_alike, OnPair, OnSides, OnTriple, sides_kept, said_kept, products_kept, merged_kept}
use Rattle.comparison.proofs.Counts.{sides_length, said_length, next_length, used}
use Rattle.comparison.proofs.Levels.{opened_bytes}

-- ---- triples that are there for later levels

module _ {X : Type 0} (L : Local X) where
  said_of_append : (ss : List (Sides X)) (ts us : List (Triple X)) → length ss ≤ length ts → said_of L ss (ts ++ us) ≡ said_of L ss ts
  unfolding said_of
  said_of_append [] ts us h = refl
  said_of_append (s ∷ ss) [] us h = absurd (omega arith)
  said_of_append (s ∷ ss) (t ∷ ts) us h = ap (λ (zs : List (Sides X)). masked_sides L s t ∷ zs) (said_of_append ss ts us (omega arith))

  products_append : (os : List (Sides ℕ)) (ts us : List (Triple X)) → length os ≤ length ts → products L os (ts ++ us) ≡ products L os ts
  unfolding products
  products_append [] ts us h = refl
  products_append (o ∷ os) [] us h = absurd (omega arith)
  products_append (o ∷ os) (t ∷ ts) us h = λ k. products L (o ∷ []) (t ∷ []) ++ products_append os ts us (omega arith) k

abbrev Ps : Type 0
Ps = List (Pair (List ℕ))

abbrev pub dealt_triples : List TripleCoins → List (Triple (List ℕ))
dealt_triples cs = map triple_polynomials cs

module _ (w : Way) (ps : Ps) (ts us : List (Triple (List ℕ))) (h : length ts ≡ uses w (length ps)) where
  said_append : said w ps (ts ++ us) ≡ said w ps ts
  unfolding said
  said_append =
      said_of_append (on_polynomials bytes) (sides (on_polynomials bytes) w ps) ts us (omega (arith, sides_length (on_polynomials bytes) w ps))

  next_append : next w ps (ts ++ us) ≡ next w ps ts
  unfolding next
  next_append =
      ap (λ (os : List (Sides ℕ)). merged (on_polynomials bytes) w ps (products (on_polynomials bytes) os (ts ++ us))) (ap (map opened) said_append)
      ∙ ap (merged (on_polynomials bytes) w ps)
      (products_append (on_polynomials bytes) (map opened (said w ps ts)) ts us (omega (arith, length-map (said w ps ts) opened, said_length w ps ts (omega arith))))

  unused_append : unused w ps (ts ++ us) ≡ us
  unused_append = drop_at ts us (uses w (length ps)) h

-- the first of n levels, with its own triples
module _ (w : Way) (n : ℕ) (ps : Ps) (a b : List TripleCoins) (h : length a ≡ uses w (length ps)) where
  long : length (dealt_triples a) ≡ uses w (length ps)
  long = length-map a triple_polynomials ∙ h

  pub levels_split : levels w (suc n) ps (dealt_triples (a ++ b)) ≡ said w ps (dealt_triples a) ∷ levels w n (next w ps (dealt_triples a)) (dealt_triples b)
  unfolding levels
  levels_split =
      ap (levels w (suc n) ps) (map-append triple_polynomials a b)
      ∙ (λ k.
      said_append w ps (dealt_triples a) (dealt_triples b) long k
      ∷ levels w n (next_append w ps (dealt_triples a) (dealt_triples b) long k) (unused_append w ps (dealt_triples a) (dealt_triples b) long k))

  pub pairs_after_split : pairs_after w (suc n) ps (dealt_triples (a ++ b)) ≡ pairs_after w n (next w ps (dealt_triples a)) (dealt_triples b)
  unfolding pairs_after
  pairs_after_split =
      ap (pairs_after w (suc n) ps) (map-append triple_polynomials a b)
      ∙ ap₂ (pairs_after w n) (next_append w ps (dealt_triples a) (dealt_triples b) long) (unused_append w ps (dealt_triples a) (dealt_triples b) long)

-- ---- one level

-- two triples alike for the pool
abbrev pub Seen : (t : ℕ) (xs : List ℕ) → TripleCoins → TripleCoins → Type 0
Seen t xs c e = OnTriple (Bytes t xs) (triple_polynomials c) (triple_polynomials e)

pub seen_triples : (t : ℕ) (xs : List ℕ) (cs es : List TripleCoins) → Pairs (Seen t xs) cs es
    → Pairs (OnTriple (Bytes t xs)) (dealt_triples cs) (dealt_triples es)
seen_triples t xs [] [] h = tt
seen_triples t xs [] (e ∷ es) h = absurd h
seen_triples t xs (c ∷ cs) [] h = absurd h
seen_triples t xs (c ∷ cs) (e ∷ es) h = (h.0, seen_triples t xs cs es h.1)

pub sum_secret : (t : ℕ) (cs ds : List ℕ) → Shared 256 t cs → Shared 256 t ds → secret (sums bytes cs ds) ≡ xor (secret cs) (secret ds)
sum_secret t cs ds hc hd =
    secret_reads {F = byte_field} {t = t} (reads_plus {F = byte_field} (lit< tt) (reads_secret byte_field t cs hc) (reads_secret byte_field t ds hd))

pub sum_shared : (t : ℕ) (cs ds : List ℕ) → Shared 256 t cs → Shared 256 t ds → Shared 256 t (sums bytes cs ds)
sum_shared t cs ds hc hd =
    (reads_plus {F = byte_field} {t = t} {x = 0} (lit< tt) (reads_secret byte_field t cs hc) (reads_secret byte_field t ds hd)).shared

pub record LevelKept (t : ℕ) (xs : List ℕ) (ss ss' : List (Sides (List ℕ))) (cs cs' : List TripleCoins) : Type 0 where
  pub ranged : Each (TripleInRange t) cs'
  pub seen : Pairs (Seen t xs) cs cs'
  pub said : said_of (on_polynomials bytes) ss' (dealt_triples cs') ≡ said_of (on_polynomials bytes) ss (dealt_triples cs)

pub record LevelsKept (w : Way) (t : ℕ) (xs : List ℕ) (n : ℕ) (ps ps' : List (Pair (List ℕ))) (cs cs' : List TripleCoins) : Type 0 where
  pub ranged : Each (TripleInRange t) cs'
  pub seen : Pairs (Seen t xs) cs cs'
  pub said : levels w n ps' (dealt_triples cs') ≡ levels w n ps (dealt_triples cs)
  pub after : Pairs (OnPair (Bytes t xs)) (pairs_after w n ps (dealt_triples cs)) (pairs_after w n ps' (dealt_triples cs'))

module _ (t : ℕ) (xs : List ℕ) (D : Different (0 ∷ xs)) (l : length xs ≡ t) where
  -- ---- bits

  pub bits_ranged : (i mask mask' : ℕ) (css : List (List ℕ)) → Each (Group 256 t) (matched_bits xs i mask mask' css)
  unfolding matched_bits
  bits_ranged i mask mask' [] = tt
  bits_ranged i mask mask' (cs ∷ css) =
      (recolour_group byte_field t xs (bit i mask) (bit i mask') cs l, bits_ranged (suc i) mask mask' css)

  pub bits_long : (i mask mask' : ℕ) (css : List (List ℕ)) → length (matched_bits xs i mask mask' css) ≡ length css
  unfolding matched_bits
  bits_long i mask mask' [] = refl
  bits_long i mask mask' (cs ∷ css) = ap suc (bits_long (suc i) mask mask' css)

  pub bits_alike : (i mask mask' : ℕ) (css : List (List ℕ)) → Each (Group 256 t) css
      → Pairs (Bytes t xs) (bit_polynomials i mask css) (bit_polynomials i mask' (matched_bits xs i mask mask' css))
  unfolding matched_bits bit_polynomials
  bits_alike i mask mask' [] h = tt
  bits_alike i mask mask' (cs ∷ css) h = (
    alike_recolour byte_field t xs D l (bit i mask) (bit i mask') cs (bit_byte i mask) (bit_byte i mask') h.0,
    bits_alike (suc i) mask mask' css h.1,
  )

  pub bits_words : (x : ℕ) → In x xs → (bs bs' : List (List ℕ)) → Pairs (Bytes t xs) bs bs'
      → map (λ b. value bytes b x) bs' ≡ map (λ b. value bytes b x) bs
  bits_words x m [] [] h = refl
  bits_words x m [] (b ∷ bs) h = absurd h
  bits_words x m (b ∷ bs) [] h = absurd h
  bits_words x m (b ∷ bs) (b' ∷ bs') h = ap₂ (λ (z : ℕ) (zs : List ℕ). z ∷ zs) (sym (h.0.same x m)) (bits_words x m bs bs' h.1)

  -- ---- a triple of other bytes

  module _ (c : TripleCoins) (h : TripleInRange t c) (alpha beta : ℕ) (ha : alpha < 256) (hb : beta < 256) where
    recoloured_ranged : TripleInRange t (recoloured xs c alpha beta)
    unfolding recoloured
    recoloured_ranged =
        record {
          alpha = ha;
          beta = hb;
          of_alpha = recolour_group byte_field t xs c.alpha alpha c.of_alpha l;
          of_beta = recolour_group byte_field t xs c.beta beta c.of_beta l;
          of_gamma = recolour_group byte_field t xs (product c.alpha c.beta) (product alpha beta) c.of_gamma l;
        }

    recoloured_alike : OnTriple (Bytes t xs) (triple_polynomials c) (triple_polynomials (recoloured xs c alpha beta))
    unfolding recoloured triple_polynomials
    recoloured_alike =
        record {
          alpha = alike_recolour byte_field t xs D l c.alpha alpha c.of_alpha h.alpha ha h.of_alpha;
          beta = alike_recolour byte_field t xs D l c.beta beta c.of_beta h.beta hb h.of_beta;
          gamma =
              alike_recolour byte_field t xs D l (product c.alpha c.beta) (product alpha beta) c.of_gamma
              (byte_field.ring.mul_lt c.alpha c.beta h.alpha h.beta) (byte_field.ring.mul_lt alpha beta ha hb) h.of_gamma;
        }

  -- a product: the matched triple opens to the same
  module _ (s s' : Sides (List ℕ)) (c : TripleCoins) (hs : OnSides (Bytes t xs) s s') (h : TripleInRange t c) where
    abbrev said_first : Sides (List ℕ)
    said_first = masked_sides (on_polynomials bytes) s (triple_polynomials c)

    abbrev c' : TripleCoins
    c' = matched_product xs said_first s' c

    D_shared : Shared 256 t said_first.left
    D_shared = sum_shared t s.left (triple_polynomials c).alpha hs.left.first (triple_polynomials_shared t c h).alpha

    E_shared : Shared 256 t said_first.right
    E_shared = sum_shared t s.right (triple_polynomials c).beta hs.right.first (triple_polynomials_shared t c h).beta

    D_lt : secret said_first.left < 256
    D_lt = secret_value 256 t said_first.left D_shared

    E_lt : secret said_first.right < 256
    E_lt = secret_value 256 t said_first.right E_shared

    u'_lt : secret s'.left < 256
    u'_lt = secret_value 256 t s'.left hs.left.second

    v'_lt : secret s'.right < 256
    v'_lt = secret_value 256 t s'.right hs.right.second

    alpha_lt : xor (secret said_first.left) (secret s'.left) < 256
    alpha_lt = byte_field.ring.add_lt (secret said_first.left) (secret s'.left) D_lt u'_lt

    beta_lt : xor (secret said_first.right) (secret s'.right) < 256
    beta_lt = byte_field.ring.add_lt (secret said_first.right) (secret s'.right) E_lt v'_lt

    product_ranged : TripleInRange t c'
    unfolding matched_product
    product_ranged =
        recoloured_ranged c h (xor (secret said_first.left) (secret s'.left)) (xor (secret said_first.right) (secret s'.right)) alpha_lt beta_lt

    product_seen : Seen t xs c c'
    unfolding matched_product
    product_seen =
        recoloured_alike c h (xor (secret said_first.left) (secret s'.left)) (xor (secret said_first.right) (secret s'.right)) alpha_lt beta_lt

    left_kept : secret (masked_sides (on_polynomials bytes) s' (triple_polynomials c')).left ≡ secret said_first.left
    unfolding matched_product recoloured triple_polynomials
    left_kept =
        sum_secret t s'.left (triple_polynomials c').alpha hs.left.second product_seen.alpha.second
        ∙ restored (secret s'.left) (secret said_first.left) u'_lt D_lt

    right_kept : secret (masked_sides (on_polynomials bytes) s' (triple_polynomials c')).right ≡ secret said_first.right
    unfolding matched_product recoloured triple_polynomials
    right_kept =
        sum_secret t s'.right (triple_polynomials c').beta hs.right.second product_seen.beta.second
        ∙ restored (secret s'.right) (secret said_first.right) v'_lt E_lt

    product_said : masked_sides (on_polynomials bytes) s' (triple_polynomials c') ≡ said_first
    product_said =
        let e : said_first.left ≡ (masked_sides (on_polynomials bytes) s' (triple_polynomials c')).left =
        alike_same byte_field t xs D l (plus D.2 hs.left product_seen.alpha) (sym left_kept) in
        let f : said_first.right ≡ (masked_sides (on_polynomials bytes) s' (triple_polynomials c')).right =
        alike_same byte_field t xs D l (plus D.2 hs.right product_seen.beta) (sym right_kept) in
        λ k. record { left = sym e k; right = sym f k }

  level_kept : (ss ss' : List (Sides (List ℕ))) (cs : List TripleCoins) → length cs ≡ length ss → Pairs (OnSides (Bytes t xs)) ss ss'
      → Each (TripleInRange t) cs
      → LevelKept t xs ss ss' cs (matched_level xs (said_of (on_polynomials bytes) ss (dealt_triples cs)) ss' cs)
  unfolding matched_level said_of
  level_kept [] [] [] n hs h = record { ranged = tt; seen = tt; said = refl }
  level_kept [] [] (c ∷ cs) n hs h = absurd (omega arith)
  level_kept [] (s' ∷ ss') cs n hs h = absurd hs
  level_kept (s ∷ ss) [] cs n hs h = absurd hs
  level_kept (s ∷ ss) (s' ∷ ss') [] n hs h = absurd (omega arith)
  level_kept (s ∷ ss) (s' ∷ ss') (c ∷ cs) n hs h =
      let r : LevelKept t xs ss ss' cs (matched_level xs (said_of (on_polynomials bytes) ss (dealt_triples cs)) ss' cs) =
      level_kept ss ss' cs (suc_inj n) hs.1 h.1 in
      record {
        ranged = (product_ranged s s' c hs.0 h.0, r.ranged);
        seen = (product_seen s s' c hs.0 h.0, r.seen);
        said = ap₂ (λ (z : Sides (List ℕ)) (zs : List (Sides (List ℕ))). z ∷ zs) (product_said s s' c hs.0 h.0) r.said;
      }

  -- pairs after a level in which the same was said
  pub next_alike : (w : Way) (ps ps' : Ps) (ts ts' : List (Triple (List ℕ))) → Pairs (OnPair (Bytes t xs)) ps ps' → Pairs (OnTriple (Bytes t xs)) ts ts'
      → said w ps' ts' ≡ said w ps ts → Pairs (OnPair (Bytes t xs)) (next w ps ts) (next w ps' ts')
  unfolding next said
  next_alike w ps ps' ts ts' hp ht e =
      let os : List (Sides ℕ) = map opened (said w ps ts) in
      let K : Keeps (on_polynomials bytes) (on_polynomials bytes) (Bytes t xs) = keeps_alike t xs D.2 in
      subst
      (λ (z : List (Sides (List ℕ))). Pairs (OnPair (Bytes t xs)) (next w ps ts) (merged (on_polynomials bytes) w ps' (products (on_polynomials bytes) (map opened z) ts')))
      (sym e)
      (merged_kept K w ps ps' (products (on_polynomials bytes) os ts) (products (on_polynomials bytes) os ts') hp
      (products_kept K os ts ts'
      (opened_bytes t (Bytes t xs) (λ cs ds r. r.first) (said w ps ts) (said w ps' ts')
      (said_kept K (sides (on_polynomials bytes) w ps) (sides (on_polynomials bytes) w ps') ts ts' (sides_kept K w ps ps' hp) ht))
      ht))

  this_level : (w : Way) (ps ps' : Ps) (a : List TripleCoins) → length a ≡ uses w (length ps) → Pairs (OnPair (Bytes t xs)) ps ps' → Each (TripleInRange t) a
      → LevelKept t xs (sides (on_polynomials bytes) w ps) (sides (on_polynomials bytes) w ps') a
      (matched_level xs (said w ps (dealt_triples a)) (sides (on_polynomials bytes) w ps') a)
  unfolding said
  this_level w ps ps' a la hp ha =
      level_kept (sides (on_polynomials bytes) w ps) (sides (on_polynomials bytes) w ps') a (la ∙ sym (sides_length (on_polynomials bytes) w ps))
      (sides_kept (keeps_alike t xs D.2) w ps ps' hp) ha

  this_said : (w : Way) (ps ps' : Ps) (a a' : List TripleCoins) → LevelKept t xs (sides (on_polynomials bytes) w ps) (sides (on_polynomials bytes) w ps') a a'
      → said w ps' (dealt_triples a') ≡ said w ps (dealt_triples a)
  unfolding said
  this_said w ps ps' a a' r = r.said

  -- ---- all levels

  pub kept : (w : Way) (n : ℕ) (ps ps' : Ps) (cs : List TripleCoins) → length cs ≡ used w n (length ps) → Pairs (OnPair (Bytes t xs)) ps ps'
      → Each (TripleInRange t) cs → LevelsKept w t xs n ps ps' cs (matched_levels xs w n ps ps' cs)
  unfolding matched_levels levels pairs_after used
  kept w zero ps ps' [] m hp h = record { ranged = tt; seen = tt; said = refl; after = hp }
  kept w zero ps ps' (c ∷ cs) m hp h = absurd (omega arith)
  kept w (suc n) ps ps' cs m hp h =
      let a : List TripleCoins = spent w ps cs in
      let b : List TripleCoins = unused w ps cs in
      let a' : List TripleCoins = matched_level xs (said w ps (dealt_triples a)) (sides (on_polynomials bytes) w ps') a in
      let b' : List TripleCoins = matched_levels xs w n (next w ps (dealt_triples a)) (next w ps' (dealt_triples a')) b in
      let la : length a ≡ uses w (length ps) = simp length-take (omega arith) in
      let r : LevelKept t xs (sides (on_polynomials bytes) w ps) (sides (on_polynomials bytes) w ps') a a' = this_level w ps ps' a la hp (each_take (TripleInRange t) (uses w (length ps)) cs h) in
      let la' : length a' ≡ uses w (length ps') =
      sym (pairs_length (Seen t xs) a a' r.seen) ∙ la ∙ ap (λ (k : ℕ). uses w k) (pairs_length (OnPair (Bytes t xs)) ps ps' hp) in
      let hn : Pairs (OnPair (Bytes t xs)) (next w ps (dealt_triples a)) (next w ps' (dealt_triples a')) =
      next_alike w ps ps' (dealt_triples a) (dealt_triples a') hp (seen_triples t xs a a' r.seen) (this_said w ps ps' a a' r) in
      let lb : length b ≡ used w n (length (next w ps (dealt_triples a))) =
      rw (next_length w ps (dealt_triples a) (omega (arith, length-map a triple_polynomials))) (omega (arith, length-drop (uses w (length ps)) cs)) in
      let s : LevelsKept w t xs n (next w ps (dealt_triples a)) (next w ps' (dealt_triples a')) b b' =
      kept w n (next w ps (dealt_triples a)) (next w ps' (dealt_triples a')) b lb hn (each_drop (TripleInRange t) (uses w (length ps)) cs h) in
      let e : a ++ b ≡ cs = take-append-drop (uses w (length ps)) cs in
      record {
        ranged = each_append (TripleInRange t) a' b' r.ranged s.ranged;
        seen = subst (λ (z : List TripleCoins). Pairs (Seen t xs) z (a' ++ b')) e (pairs_append (Seen t xs) a a' b b' r.seen s.seen);
        said =
            levels_split w n ps' a' b' la'
            ∙ ap₂ (λ (z : List (Sides (List ℕ))) (zs : List (List (Sides (List ℕ)))). z ∷ zs) (this_said w ps ps' a a' r) s.said
            ∙ sym (levels_split w n ps a b la) ∙ ap (λ (z : List TripleCoins). levels w (suc n) ps (dealt_triples z)) e;
        after =
            subst₂ (λ (y z : Ps). Pairs (OnPair (Bytes t xs)) y z)
            (sym (pairs_after_split w n ps a b la) ∙ ap (λ (z : List TripleCoins). pairs_after w (suc n) ps (dealt_triples z)) e)
            (sym (pairs_after_split w n ps' a' b' la')) s.after;
      }
