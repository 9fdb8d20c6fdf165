-- What a party says and keeps are the values at its point of polynomials of degree at most t. Assumes nothing.
use mathlib.Core.Path.{◌≡◌, refl, ap, ap₂, subst}
use mathlib.Core.List.{List, [], ◌∷◌, ◌++◌, map}
use Prim.Native.Nat.{ℕ, zero, suc, ◌<◌}
use native.Mathlib.Omega.{arith}
use lib.ListN.{length, take, drop, get_or}
use Rattle.fields.specs.Ring.{Ops, Ring}
use Rattle.fields.specs.Amount.{amounts}
use Rattle.fields.specs.Byte.{bytes}
use Rattle.fields.proofs.Fields.{byte_field}
use Rattle.fields.proofs.Below.{Below, ring}
use Rattle.fields.proofs.Ring.{semi}
use Rattle.sharing.specs.Polynomial.{value}
use Rattle.sharing.proofs.Laws.{value_lt}
use Rattle.comparison.specs.Local.{on_shares, on_polynomials}
use Rattle.comparison.specs.Rounds.{masked, last, both}
use Rattle.ways.specs.Way.{Way, uses, levels_of}
use Rattle.comparison.specs.Probe.{Each, Probe, sum_polynomial, opened_sum, opened, said, next, levels, pairs_after, started, last_pair, last_polynomial, probe_messages}
use Rattle.comparison.specs.Pairs.{Triple, Pair, Sides, unused, public, first_pairs, sides, said_of, products, merged, spoken, remaining}
use Rattle.comparison.proofs.Values.{Shared, Reads, reads_value, secret_value, masked_value, last_reads}
use Rattle.comparison.proofs.Dealt.{ProbeShared}
use Rattle.comparison.proofs.Lists.{Pairs, each_at, each_take, pairs_at, pairs_length, pairs_drop, pairs_map}
use Rattle.comparison.proofs.Counts.{all_levels}
use Rattle.comparison.proofs.Steps.{keeps_reads, ByteSides, OnPair, OnSides, OnTriple, first_pairs_kept, sides_kept, said_kept, products_kept, merged_kept}

-- what each level leaves is the same for both, where their pairs are equally many
pub unused_pairs : (w : Way) {A B X Y : Type 0} (R : A → B → Type 0) (S : X → Y → Type 0) (ps : List (Pair X)) (qs : List (Pair Y)) (as' : List A) (bs : List B)
    → Pairs (OnPair S) ps qs → Pairs R as' bs → Pairs R (unused w ps as') (unused w qs bs)
unused_pairs w R S ps qs as' bs k h =
    subst (λ (n : ℕ). Pairs R (unused w ps as') (drop (uses w n) bs)) (pairs_length (OnPair S) ps qs k)
    (pairs_drop R (uses w (length ps)) as' bs h)

-- ---- one level and all levels, read at a point

abbrev pub At : (t x : ℕ) → List ℕ → ℕ → Type 0
At t x = Reads byte_field t x

-- what is said opens to bytes
pub opened_bytes : {Y : Type 0} (t : ℕ) (R : List ℕ → Y → Type 0) → ((cs : List ℕ) (y : Y) → R cs y → Shared 256 t cs)
    → (ss : List (Sides (List ℕ))) (rs : List (Sides Y)) → Pairs (OnSides R) ss rs → Each ByteSides (map opened ss)
opened_bytes t R law [] [] h = tt
opened_bytes t R law [] (r ∷ rs) h = absurd h
opened_bytes t R law (s ∷ ss) [] h = absurd h
opened_bytes t R law (s ∷ ss) (r ∷ rs) h = (
  (
    secret_value 256 t s.left (law s.left r.left h.0.left),
    secret_value 256 t s.right (law s.right r.right h.0.right),
  ),
  opened_bytes t R law ss rs h.1,
)

module _ (w : Way) (t x : ℕ) (hx : x < 256) where
  module _ (ps : List (Pair (List ℕ))) (qs : List (Pair ℕ)) (ts : List (Triple (List ℕ))) (us : List (Triple ℕ))
      (h : Pairs (OnPair (At t x)) ps qs) (k : Pairs (OnTriple (At t x)) ts us) where
    pub said_reads : Pairs (OnSides (At t x)) (said w ps ts) (said_of (on_shares bytes) (sides (on_shares bytes) w qs) us)
    unfolding said
    said_reads =
        said_kept (keeps_reads t x hx) (sides (on_polynomials bytes) w ps) (sides (on_shares bytes) w qs) ts us (sides_kept (keeps_reads t x hx) w ps qs h) k

    pub said_bytes : Each ByteSides (map opened (said w ps ts))
    said_bytes = opened_bytes t (At t x) (λ cs y r. r.shared) (said w ps ts) (said_of (on_shares bytes) (sides (on_shares bytes) w qs) us) said_reads

    pub next_reads : Pairs (OnPair (At t x)) (next w ps ts) (merged (on_shares bytes) w qs (products (on_shares bytes) (map opened (said w ps ts)) us))
    unfolding next
    next_reads =
        let os : List (Sides ℕ) = map opened (said w ps ts) in
        merged_kept (keeps_reads t x hx) w ps qs (products (on_polynomials bytes) os ts) (products (on_shares bytes) os us) h
        (products_kept (keeps_reads t x hx) os ts us said_bytes k)

  -- what is said in n levels, and the pairs that are kept after them
  pub levels_read : (n : ℕ) (ps : List (Pair (List ℕ))) (qs : List (Pair ℕ)) (ts : List (Triple (List ℕ))) (us : List (Triple ℕ))
      → Pairs (OnPair (At t x)) ps qs → Pairs (OnTriple (At t x)) ts us
      → Pairs (Pairs (OnSides (At t x))) (levels w n ps ts) (spoken (on_shares bytes) w (map (map opened) (levels w n ps ts)) qs us)
      × Pairs (OnPair (At t x)) (pairs_after w n ps ts) (remaining (on_shares bytes) w (map (map opened) (levels w n ps ts)) qs us)
  unfolding levels pairs_after spoken remaining
  levels_read zero ps qs ts us h k = (tt, h)
  levels_read (suc n) ps qs ts us h k =
      let r : Pairs (Pairs (OnSides (At t x))) (levels w n (next w ps ts) (unused w ps ts)) (spoken (on_shares bytes) w (map (map opened) (levels w n (next w ps ts) (unused w ps ts)))
      (merged (on_shares bytes) w qs (products (on_shares bytes) (map opened (said w ps ts)) us)) (unused w qs us))
      × Pairs (OnPair (At t x)) (pairs_after w n (next w ps ts) (unused w ps ts)) (remaining (on_shares bytes) w (map (map opened) (levels w n (next w ps ts) (unused w ps ts)))
      (merged (on_shares bytes) w qs (products (on_shares bytes) (map opened (said w ps ts)) us)) (unused w qs us)) =
      levels_read n (next w ps ts) (merged (on_shares bytes) w qs (products (on_shares bytes) (map opened (said w ps ts)) us)) (unused w ps ts) (unused w qs us)
      (next_reads ps qs ts us h k) (unused_pairs w (OnTriple (At t x)) (At t x) ps qs ts us h k) in
      ((said_reads ps qs ts us h k, r.0), r.1)

  -- shares are bytes
  pub pairs_bytes : (ps : List (Pair (List ℕ))) (qs : List (Pair ℕ)) → Pairs (OnPair (At t x)) ps qs
      → Each (λ a. (a.top < 256) × (a.bottom < 256)) qs
  pairs_bytes [] [] h = tt
  pairs_bytes [] (c ∷ qs) h = absurd h
  pairs_bytes (a ∷ ps) [] h = absurd h
  pairs_bytes (a ∷ ps) (c ∷ qs) h = (
    (
      rw h.0.top.read at (value_lt byte_field a.top x h.0.top.shared.1 hx),
      rw h.0.bottom.read at (value_lt byte_field a.bottom x h.0.bottom.shared.1 hx),
    ),
    pairs_bytes ps qs h.1,
  )

-- ---- a party

plus_none : {A : Type 0} {O : Ops A} → Ring O → (k b : A) → O.add k (O.mul O.zero b) ≡ k
plus_none R k b = simp (semi, R)

-- a public number is held as it is: the 0 of the first pair, and every T_i
pub public_share : (k b : ℕ) → k < 256 → b < 256 → public (on_shares bytes) k b ≡ k
unfolding public
public_share k b hk hb = ap (λ (z : Below 256). z.0) (plus_none (ring byte_field.ring) (k, hk) (b, hb))

-- the values at x of what is sheet-polynomials
abbrev pub triple_at : ℕ → Triple (List ℕ) → Triple ℕ
triple_at x t = record { alpha = value bytes t.alpha x; beta = value bytes t.beta x; gamma = value bytes t.gamma x }

-- What party j does on its shares in the first k levels: the pairs that it starts from, what it says, the pairs that it then keeps.
module _ (w : Way) (q : Probe) (j : ℕ) where
  abbrev pub shares_triples : List (Triple ℕ)
  shares_triples = map (triple_at j) q.sheet.triples

  abbrev pub shares_started : List (Pair ℕ)
  shares_started = first_pairs (on_shares bytes) (opened_sum q) (map (λ b. value bytes b j) (take 32 q.sheet.bits))

  -- what the levels open to
  abbrev pub openings : ℕ → List (List (Sides ℕ))
  openings k = map (map opened) (levels w k (started q) q.sheet.triples)

  abbrev pub shares_said : ℕ → List (List (Sides ℕ))
  shares_said k = spoken (on_shares bytes) w (openings k) shares_started shares_triples

  abbrev pub shares_kept : ℕ → List (Pair ℕ)
  shares_kept k = remaining (on_shares bytes) w (openings k) shares_started shares_triples

module _ (w : Way) (t : ℕ) (q : Probe) (S : ProbeShared w t q) (j : ℕ) (hj : j < 10) where
  pub started_reads : Pairs (OnPair (At t j)) (started q) (shares_started w q j)
  unfolding started
  started_reads =
      first_pairs_kept (keeps_reads t j (omega arith)) (opened_sum q) (take 32 q.sheet.bits) (map (λ b. value bytes b j) (take 32 q.sheet.bits))
      (pairs_map (At t j) (λ b. value bytes b j) (λ b h. reads_value byte_field t j b h) (take 32 q.sheet.bits)
      (each_take (Shared 256 t) 32 q.sheet.bits S.sheet.bits))

  triples_read : Pairs (OnTriple (At t j)) q.sheet.triples (shares_triples w q j)
  triples_read =
      pairs_map (OnTriple (At t j)) (triple_at j)
      (λ s h.
      record {
        alpha = reads_value byte_field t j s.alpha h.alpha;
        beta = reads_value byte_field t j s.beta h.beta;
        gamma = reads_value byte_field t j s.gamma h.gamma;
      })
      q.sheet.triples S.sheet.triples

  -- what is said in the levels
  pub said_in_levels : (k : ℕ) → Pairs (Pairs (OnSides (At t j))) (levels w k (started q) q.sheet.triples) (shares_said w q j k)
  said_in_levels k = (levels_read w t j (omega arith) k (started q) (shares_started w q j) q.sheet.triples (shares_triples w q j) started_reads triples_read).0

  -- the pair shares that are kept after them
  pub kept_reads : (k : ℕ) → Pairs (OnPair (At t j)) (pairs_after w k (started q) q.sheet.triples) (shares_kept w q j k)
  kept_reads k = (levels_read w t j (omega arith) k (started q) (shares_started w q j) q.sheet.triples (shares_triples w q j) started_reads triples_read).1

  pub kept_bytes : (k : ℕ) → Each (λ a. (a.top < 256) × (a.bottom < 256)) (shares_kept w q j k)
  kept_bytes k = pairs_bytes w t j (omega arith) (pairs_after w k (started q) q.sheet.triples) (shares_kept w q j k) (kept_reads k)

  abbrev none : Pair ℕ
  none = record { top = 0; bottom = 0 }

  -- the last one
  pub last_pair_value : OnPair (At t j) (last_pair w q) (get_or (shares_kept w q j (levels_of w)) 0 none)
  last_pair_value =
      pairs_at (OnPair (At t j)) (pairs_after w (levels_of w) (started q) q.sheet.triples) (shares_kept w q j (levels_of w)) 0 (record { top = []; bottom = [] }) none (kept_reads (levels_of w))
      (omega (arith, all_levels w q S.sheet.bits_long S.sheet.triples_long))

  words_of : (ls : List (Sides (List ℕ))) (rs : List (Sides ℕ)) → Pairs (OnSides (At t j)) ls rs
      → map (λ s. both (value bytes s.left j) (value bytes s.right j)) ls ≡ map (λ r. both r.left r.right) rs
  words_of [] [] h = refl
  words_of [] (r ∷ rs) h = absurd h
  words_of (l ∷ ls) [] h = absurd h
  words_of (l ∷ ls) (r ∷ rs) h =
      ap₂ (λ (z : ℕ) (zs : List ℕ). z ∷ zs) (ap₂ both h.0.left.read h.0.right.read) (words_of ls rs h.1)

  all_words : (lss : List (List (Sides (List ℕ)))) (rss : List (List (Sides ℕ))) → Pairs (Pairs (OnSides (At t j))) lss rss
      → map (map (λ s. both (value bytes s.left j) (value bytes s.right j))) lss ≡ map (map (λ r. both r.left r.right)) rss
  all_words [] [] h = refl
  all_words [] (rs ∷ rss) h = absurd h
  all_words (ls ∷ lss) [] h = absurd h
  all_words (ls ∷ lss) (rs ∷ rss) h = ap₂ (λ (z : List ℕ) (zs : List (List ℕ)). z ∷ zs) (words_of ls rs h.0) (all_words lss rss h.1)

  -- what party j says in all rounds, by its own shares and what was opened
  pub messages_law : probe_messages w q j
      ≡ (masked (on_shares amounts) (value amounts q.sheet.mask j) (value amounts q.demand j) (value amounts q.supply j) ∷ [])
      ∷ (map (map (λ r. both r.left r.right)) (shares_said w q j (levels_of w))
      ++ ((last (on_shares bytes) (opened_sum q) (value bytes (get_or q.sheet.bits 32 []) j) (get_or (shares_kept w q j (levels_of w)) 0 none).bottom ∷ []) ∷ []))
  unfolding probe_messages sum_polynomial last_polynomial
  messages_law =
      ap₂ (λ (z : ℕ) (zs : List (List ℕ)). (z ∷ []) ∷ zs)
      (masked_value t j q.sheet.mask q.demand q.supply S.sheet.mask S.demand S.supply hj)
      (ap₂ (λ (zs : List (List ℕ)) (z : ℕ). zs ++ ((z ∷ []) ∷ []))
      (all_words (levels w (levels_of w) (started q) q.sheet.triples) (shares_said w q j (levels_of w)) (said_in_levels (levels_of w)))
      (last_reads (opened_sum q) t j (omega arith)
      (reads_value byte_field t j (get_or q.sheet.bits 32 []) (each_at (Shared 256 t) q.sheet.bits 32 [] S.sheet.bits (omega (arith, S.sheet.bits_long))))
      last_pair_value.bottom).read)
