-- What holds between two kinds of shared values and is kept by every local step is kept by a level. Assumes nothing.
use mathlib.Core.List.{List, [], ◌∷◌}
use Prim.Native.Nat.{ℕ, suc, ◌<◌}
use lib.Dec.{lit<}
use Rattle.fields.specs.Bits.{bit}
use Rattle.fields.specs.Byte.{product, bytes}
use Rattle.fields.proofs.Fields.{byte_field}
use Rattle.sharing.proofs.Points.{Different}
use Rattle.comparison.specs.Local.{Local, on_shares, on_polynomials}
use Rattle.comparison.specs.Rounds.{differing, first_carry}
use Rattle.comparison.specs.Probe.{Each}
use Rattle.ways.specs.Way.{Way, chain, tree}
use Rattle.comparison.specs.Pairs.{Triple, Pair, Sides, public, later_pairs, first_pairs, sides, masked_sides, said_of, multiplied, products, merged}
use Rattle.comparison.proofs.Values.{Reads, reads_plus, reads_times, reads_shift, bit_byte}
use Rattle.comparison.proofs.Agreement.{Bytes, plus, times, shift}
use Rattle.comparison.proofs.Lists.{Pairs}

-- a relation that every local step on bytes keeps
pub record Keeps {X Y : Type 0} (L : Local X) (M : Local Y) (R : X → Y → Type 0) : Type 0 where
  pub plus : {a b : X} {c d : Y} → R a c → R b d → R (L.plus a b) (M.plus c d)
  pub times : (k : ℕ) → k < 256 → {a : X} {c : Y} → R a c → R (L.times k a) (M.times k c)
  pub shift : (k : ℕ) → k < 256 → {a : X} {c : Y} → R a c → R (L.shift k a) (M.shift k c)

-- a polynomial and its value at a point
pub keeps_reads : (t x : ℕ) → x < 256 → Keeps (on_polynomials bytes) (on_shares bytes) (Reads byte_field t x)
keeps_reads t x hx = record { plus = reads_plus hx; times = λ k hk. reads_times hx k hk; shift = λ k hk. reads_shift hx k hk }

-- two polynomials of which a pool has the same shares
pub keeps_alike : (t : ℕ) (xs : List ℕ) → Different xs → Keeps (on_polynomials bytes) (on_polynomials bytes) (Bytes t xs)
keeps_alike t xs D = record { plus = plus D; times = times D; shift = shift D }

-- D and E are bytes
abbrev pub ByteSides : Sides ℕ → Type 0
ByteSides o = (o.left < 256) × (o.right < 256)

module _ {X Y : Type 0} (R : X → Y → Type 0) where
  pub record OnPair (a : Pair X) (c : Pair Y) : Type 0 where
    pub top : R a.top c.top
    pub bottom : R a.bottom c.bottom

  pub record OnSides (a : Sides X) (c : Sides Y) : Type 0 where
    pub left : R a.left c.left
    pub right : R a.right c.right

  pub record OnTriple (a : Triple X) (c : Triple Y) : Type 0 where
    pub alpha : R a.alpha c.alpha
    pub beta : R a.beta c.beta
    pub gamma : R a.gamma c.gamma

module _ {X Y : Type 0} {L : Local X} {M : Local Y} {R : X → Y → Type 0} (K : Keeps L M R) where
  public_kept : (k : ℕ) → k < 256 → {a : X} {c : Y} → R a c → R (public L k a) (public M k c)
  unfolding public
  public_kept k hk r = K.shift k hk (K.times 0 (lit< tt) r)

  later_pairs_kept : (T i : ℕ) (bs : List X) (cs : List Y) → Pairs R bs cs → Pairs (OnPair R) (later_pairs L T i bs) (later_pairs M T i cs)
  unfolding later_pairs differing
  later_pairs_kept T i [] [] h = tt
  later_pairs_kept T i [] (c ∷ cs) h = absurd h
  later_pairs_kept T i (b ∷ bs) [] h = absurd h
  later_pairs_kept T i (b ∷ bs) (c ∷ cs) h = (
    record { top = K.shift (bit i T) (bit_byte i T) h.0; bottom = public_kept (bit i T) (bit_byte i T) h.0 },
    later_pairs_kept T (suc i) bs cs h.1,
  )

  pub first_pairs_kept : (T : ℕ) (bs : List X) (cs : List Y) → Pairs R bs cs → Pairs (OnPair R) (first_pairs L T bs) (first_pairs M T cs)
  unfolding first_pairs first_carry differing
  first_pairs_kept T [] [] h = tt
  first_pairs_kept T [] (c ∷ cs) h = absurd h
  first_pairs_kept T (b ∷ bs) [] h = absurd h
  first_pairs_kept T (b ∷ bs) (c ∷ cs) h = (
    record {
      top = public_kept 0 (lit< tt) h.0;
      bottom = K.shift (bit 1 T) (bit_byte 1 T) (K.times (bit 1 T) (bit_byte 1 T) (K.shift (bit 1 T) (bit_byte 1 T) h.0));
    },
    later_pairs_kept T 2 bs cs h.1,
  )

  pub sides_kept : (w : Way) (ps : List (Pair X)) (qs : List (Pair Y)) → Pairs (OnPair R) ps qs → Pairs (OnSides R) (sides L w ps) (sides M w qs)
  unfolding sides
  sides_kept chain [] [] h = tt
  sides_kept chain [] (c ∷ qs) h = absurd h
  sides_kept chain (a ∷ ps) [] h = absurd h
  sides_kept chain (a ∷ []) (c ∷ []) h = tt
  sides_kept chain (a ∷ []) (c ∷ d ∷ qs) h = absurd h.1
  sides_kept chain (a ∷ b ∷ ps) (c ∷ []) h = absurd h.1
  sides_kept chain (a ∷ b ∷ ps) (c ∷ d ∷ qs) h = (record { left = h.1.0.top; right = K.plus h.0.bottom h.1.0.bottom }, tt)
  sides_kept tree [] [] h = tt
  sides_kept tree [] (c ∷ qs) h = absurd h
  sides_kept tree (a ∷ ps) [] h = absurd h
  sides_kept tree (a ∷ []) (c ∷ []) h = tt
  sides_kept tree (a ∷ []) (c ∷ d ∷ qs) h = absurd h.1
  sides_kept tree (a ∷ b ∷ ps) (c ∷ []) h = absurd h.1
  sides_kept tree (a ∷ b ∷ ps) (c ∷ d ∷ qs) h = (
    record { left = h.0.top; right = h.1.0.top },
    (record { left = h.1.0.top; right = K.plus h.0.bottom h.1.0.bottom }, sides_kept tree ps qs h.1.1),
  )

  pub masked_kept : {s : Sides X} {r : Sides Y} {t : Triple X} {u : Triple Y} → OnSides R s r → OnTriple R t u
      → OnSides R (masked_sides L s t) (masked_sides M r u)
  masked_kept h k = record { left = K.plus h.left k.alpha; right = K.plus h.right k.beta }

  pub said_kept : (ss : List (Sides X)) (rs : List (Sides Y)) (ts : List (Triple X)) (us : List (Triple Y))
      → Pairs (OnSides R) ss rs → Pairs (OnTriple R) ts us → Pairs (OnSides R) (said_of L ss ts) (said_of M rs us)
  unfolding said_of
  said_kept [] [] ts us h k = tt
  said_kept [] (r ∷ rs) ts us h k = absurd h
  said_kept (s ∷ ss) [] ts us h k = absurd h
  said_kept (s ∷ ss) (r ∷ rs) [] [] h k = tt
  said_kept (s ∷ ss) (r ∷ rs) [] (u ∷ us) h k = absurd k
  said_kept (s ∷ ss) (r ∷ rs) (t ∷ ts) [] h k = absurd k
  said_kept (s ∷ ss) (r ∷ rs) (t ∷ ts) (u ∷ us) h k = (masked_kept h.0 k.0, said_kept ss rs ts us h.1 k.1)

  multiplied_kept : (o : Sides ℕ) → ByteSides o → {t : Triple X} {u : Triple Y} → OnTriple R t u → R (multiplied L o t) (multiplied M o u)
  unfolding multiplied
  multiplied_kept o ho k =
      K.shift (product o.left o.right) (byte_field.ring.mul_lt o.left o.right ho.0 ho.1)
      (K.plus (K.plus k.gamma (K.times o.left ho.0 k.beta)) (K.times o.right ho.1 k.alpha))

  -- of the same D and E
  pub products_kept : (os : List (Sides ℕ)) (ts : List (Triple X)) (us : List (Triple Y)) → Each ByteSides os → Pairs (OnTriple R) ts us
      → Pairs R (products L os ts) (products M os us)
  unfolding products
  products_kept [] ts us h k = tt
  products_kept (o ∷ os) [] [] h k = tt
  products_kept (o ∷ os) [] (u ∷ us) h k = absurd k
  products_kept (o ∷ os) (t ∷ ts) [] h k = absurd k
  products_kept (o ∷ os) (t ∷ ts) (u ∷ us) h k = (multiplied_kept o h.0 k.0, products_kept os ts us h.1 k.1)

  pub merged_kept : (w : Way) (ps : List (Pair X)) (qs : List (Pair Y)) (ms : List X) (ns : List Y) → Pairs (OnPair R) ps qs → Pairs R ms ns
      → Pairs (OnPair R) (merged L w ps ms) (merged M w qs ns)
  unfolding merged
  merged_kept chain [] [] ms ns h k = tt
  merged_kept chain [] (c ∷ qs) ms ns h k = absurd h
  merged_kept chain (a ∷ ps) [] ms ns h k = absurd h
  merged_kept chain (a ∷ []) (c ∷ []) ms ns h k = h
  merged_kept chain (a ∷ []) (c ∷ d ∷ qs) ms ns h k = absurd h.1
  merged_kept chain (a ∷ b ∷ ps) (c ∷ []) ms ns h k = absurd h.1
  merged_kept chain (a ∷ b ∷ ps) (c ∷ d ∷ qs) [] [] h k = tt
  merged_kept chain (a ∷ b ∷ ps) (c ∷ d ∷ qs) [] (n ∷ ns) h k = absurd k
  merged_kept chain (a ∷ b ∷ ps) (c ∷ d ∷ qs) (m ∷ ms) [] h k = absurd k
  merged_kept chain (a ∷ b ∷ ps) (c ∷ d ∷ qs) (m ∷ ms) (n ∷ ns) h k =
      (record { top = h.0.top; bottom = K.plus k.0 h.1.0.bottom }, h.1.1)
  merged_kept tree [] [] ms ns h k = tt
  merged_kept tree [] (c ∷ qs) ms ns h k = absurd h
  merged_kept tree (a ∷ ps) [] ms ns h k = absurd h
  merged_kept tree (a ∷ []) (c ∷ []) ms ns h k = h
  merged_kept tree (a ∷ []) (c ∷ d ∷ qs) ms ns h k = absurd h.1
  merged_kept tree (a ∷ b ∷ ps) (c ∷ []) ms ns h k = absurd h.1
  merged_kept tree (a ∷ b ∷ ps) (c ∷ d ∷ qs) [] [] h k = tt
  merged_kept tree (a ∷ b ∷ ps) (c ∷ d ∷ qs) [] (n ∷ ns) h k = absurd k
  merged_kept tree (a ∷ b ∷ ps) (c ∷ d ∷ qs) (m ∷ ms) [] h k = absurd k
  merged_kept tree (a ∷ b ∷ ps) (c ∷ d ∷ qs) (m ∷ []) (n ∷ []) h k = tt
  merged_kept tree (a ∷ b ∷ ps) (c ∷ d ∷ qs) (m ∷ []) (n ∷ n' ∷ ns) h k = absurd k.1
  merged_kept tree (a ∷ b ∷ ps) (c ∷ d ∷ qs) (m ∷ m' ∷ ms) (n ∷ []) h k = absurd k.1
  merged_kept tree (a ∷ b ∷ ps) (c ∷ d ∷ qs) (m ∷ m' ∷ ms) (n ∷ n' ∷ ns) h k =
      (record { top = k.0; bottom = K.plus k.1.0 h.1.0.bottom }, merged_kept tree ps qs ms ns h.1.1 k.1.1)
