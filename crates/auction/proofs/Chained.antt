-- Of 33 rounds: the carry, round by round, and what is said of it. Assumes nothing.
use mathlib.Core.Path.{◌≡◌, refl, sym, ap, ap₂, ◌∙◌}
use mathlib.Core.List.{List, [], ◌∷◌, map}
use Prim.Native.Nat.{ℕ, zero, suc, ◌+◌, ◌≤◌, ◌<◌}
use native.Mathlib.Omega.{arith}
use lib.ListN.{length, take, drop, get_or, length-map, length-take, get_or-map}
use lib.Seq.{get_or-take}
use Rattle.fields.specs.Bits.{bit}
use Rattle.fields.specs.Byte.{xor, product, bytes}
use Rattle.fields.proofs.Fields.{byte_field}
use Rattle.sharing.specs.Polynomial.{value}
use Rattle.ways.specs.Way.{chain, levels_of, triples_of, width}
use Rattle.comparison.specs.Local.{on_shares}
use Rattle.comparison.specs.Rounds.{both, differing, first_carry, left, right, next_carry}
use Rattle.comparison.specs.Pairs.{Pair, Triple, Sides, public, later_pairs, first_pairs, sides, said_of, multiplied, products, merged, remaining}
use Rattle.comparison.specs.Probe.{Probe, secret, opened, opened_sum, levels, side_word}
use Rattle.comparison.proofs.Values.{secret_value}
use Rattle.comparison.proofs.Lists.{each_at}
use Rattle.comparison.proofs.Dealt.{ProbeShared, TripleShared, bit_at}
use Rattle.comparison.proofs.Levels.{triple_at, shares_triples, shares_kept, kept_bytes}
use Rattle.comparison.proofs.Chain.{chain_said, chain_merged}
use Rattle.comparison.proofs.Only.{SidesShared}
use Rattle.level.specs.Level.{no_pair}
use Rattle.auction.proofs.Closed.{carry_at}
use Rattle.auction.proofs.Sheets.{byte_below, no_triple}
use Rattle.auction.proofs.Kept.{drop_one, level_at, triples_kept, kept_next, level_shared, level_words_are, triples_dropped, level_long, level_width, chain_used}

one_only : {A : Type 0} (d : A) (xs : List A) → length xs ≡ 1 → xs ≡ get_or xs 0 d ∷ []
one_only d [] h = absurd (omega arith)
one_only d (x ∷ []) h = refl
one_only d (x ∷ y ∷ xs) h = absurd (omega arith)

xor_byte : (x y : ℕ) → x < 256 → y < 256 → xor x y < 256
xor_byte x y hx hy = byte_field.ring.add_lt x y hx hy

product_byte : (x y : ℕ) → x < 256 → y < 256 → product x y < 256
product_byte x y hx hy = byte_field.ring.mul_lt x y hx hy

multiplied_byte : (o : Sides ℕ) (t : Triple ℕ) → o.left < 256 → o.right < 256 → t.alpha < 256 → t.beta < 256 → t.gamma < 256
    → multiplied (on_shares bytes) o t < 256
unfolding multiplied
multiplied_byte o t hd he ha hb hg =
    xor_byte _ _ (product_byte _ _ hd he) (xor_byte _ _ (xor_byte _ _ hg (product_byte _ _ hd hb)) (product_byte _ _ he ha))

abbrev no_sides : Sides (List ℕ)
no_sides = record { left = []; right = [] }

abbrev no_words : Triple ℕ
no_words = record { alpha = 0; beta = 0; gamma = 0 }

-- round k + 2
module _ (q : Probe) where
  abbrev pub product_at : ℕ → Sides (List ℕ)
  product_at k = get_or (level_at chain q k) 0 no_sides

module _ (t : ℕ) (q : Probe) (S : ProbeShared chain t q) where
  abbrev T : ℕ
  T = opened_sum q

  pub one_product : (k : ℕ) → k < 31 → level_at chain q k ≡ product_at q k ∷ []
  unfolding levels_of width
  one_product k h = one_only no_sides (level_at chain q k) (level_long chain t q S k h ∙ level_width chain k h ∙ one_wide k)
    where
      one_wide : (k : ℕ) → width chain (k + 2) ≡ 1
      one_wide k = refl

  pub product_shared : (k : ℕ) → k < 31 → SidesShared t (product_at q k)
  unfolding levels_of
  product_shared k h =
      each_at (SidesShared t) (level_at chain q k) 0 no_sides (level_shared chain t q S k h) (omega (arith, ap length (one_product k h)))

  module _ (j : ℕ) (hj : j < 10) where
    -- party j's shares of the bits and of the triple of round k + 2
    abbrev bs : List ℕ
    bs = map (λ b. value bytes b j) (take 32 q.sheet.bits)

    bs_long : length bs ≡ 32
    bs_long = length-map (take 32 q.sheet.bits) (λ b. value bytes b j) ∙ simp length-take (omega (arith, S.sheet.bits_long))

    abbrev bit_here : ℕ → ℕ
    bit_here k = value bytes (get_or q.sheet.bits k []) j

    bit_is : (k : ℕ) → k < 32 → get_or bs k 0 ≡ bit_here k
    unfolding value
    bit_is k h = get_or-map (λ b. value bytes b j) (take 32 q.sheet.bits) k [] ∙ ap (λ (b : List ℕ). value bytes b j) (get_or-take 32 q.sheet.bits k [] h)

    bit_byte_here : (k : ℕ) → k < 32 → bit_here k < 256
    bit_byte_here k h = byte_below j hj (get_or q.sheet.bits k []) (bit_at chain t q S k (omega arith)).1

    abbrev triple_here : ℕ → Triple ℕ
    triple_here k = triple_at j (get_or q.sheet.triples k no_triple)

    triples_here : (k : ℕ) → k < 31 → triples_kept chain q j k ≡ triple_here k ∷ drop (suc k) (shares_triples chain q j)
    unfolding levels_of triples_of value
    triples_here k h =
        triples_dropped chain t q S j hj k (omega arith)
        ∙ ap (λ (n : ℕ). drop n (shares_triples chain q j)) (chain_used k (omega arith))
        ∙ drop_one no_words k (shares_triples chain q j) (omega (arith, length-map q.sheet.triples (triple_at j), S.sheet.triples_long))
        ∙ ap (λ (z : Triple ℕ). z ∷ drop (suc k) (shares_triples chain q j)) (get_or-map (triple_at j) q.sheet.triples k no_triple)

    abbrev pair_here : ℕ → Pair ℕ
    pair_here k = record { top = differing (on_shares bytes) T (k + 2) (bit_here (suc k)); bottom = public (on_shares bytes) (bit (k + 2) T) (bit_here (suc k)) }

    -- the pairs after the first
    later_here : (k : ℕ) → k < 31
        → later_pairs (on_shares bytes) T (k + 2) (drop (suc k) bs) ≡ pair_here k ∷ later_pairs (on_shares bytes) T (suc k + 2) (drop (suc (suc k)) bs)
    unfolding later_pairs
    later_here k h =
        let e : suc (k + 2) ≡ suc k + 2 = omega arith in
        ap (later_pairs (on_shares bytes) T (k + 2)) (drop_one 0 (suc k) bs (omega (arith, bs_long)) ∙ ap (λ (z : ℕ). z ∷ drop (suc (suc k)) bs) (bit_is (suc k) (omega arith)))
        ∙ ap (λ (i : ℕ). pair_here k ∷ later_pairs (on_shares bytes) T i (drop (suc (suc k)) bs)) e

    abbrev opened_here : ℕ → Sides ℕ
    opened_here k = opened (product_at q k)

    next_pair : (x : Pair ℕ) (k : ℕ) → k < 31 → shares_kept chain q j k ≡ x ∷ later_pairs (on_shares bytes) T (k + 2) (drop (suc k) bs)
        → shares_kept chain q j (suc k)
        ≡ merged (on_shares bytes) chain (x ∷ pair_here k ∷ later_pairs (on_shares bytes) T (suc k + 2) (drop (suc (suc k)) bs))
        (products (on_shares bytes) (opened_here k ∷ []) (triple_here k ∷ drop (suc k) (shares_triples chain q j)))
    unfolding levels_of
    next_pair x k h e =
        kept_next chain q j k h
        ∙ ap₂ (λ (ps : List (Pair ℕ)) (ms : List ℕ). merged (on_shares bytes) chain ps ms)
        (e ∙ ap (λ (z : List (Pair ℕ)). x ∷ z) (later_here k h))
        (ap₂ (products (on_shares bytes)) (ap (map opened) (one_product k h)) (triples_here k h))

    -- the first pair, then those of the bits that are still to come
    rows : (k : ℕ) → k ≤ 31 → (x : Pair ℕ) × (shares_kept chain q j k ≡ x ∷ later_pairs (on_shares bytes) T (k + 2) (drop (suc k) bs))
    unfolding remaining levels first_pairs merged products
    rows zero h = (record { top = public (on_shares bytes) 0 (get_or bs 0 0); bottom = first_carry (on_shares bytes) T (get_or bs 0 0) }, ap (first_pairs (on_shares bytes) T) (drop_one 0 0 bs (omega (arith, bs_long))))
    rows (suc k) h =
        let r = rows k (omega arith) in (
          record { top = r.0.top; bottom = xor (multiplied (on_shares bytes) (opened_here k) (triple_here k)) (pair_here k).bottom },
          next_pair r.0 k (omega arith) r.1,
        )

    abbrev row_top : (k : ℕ) → k ≤ 31 → ℕ
    row_top k h = (rows k h).0.top

    -- in round k + 2
    row : (k : ℕ) (h : k < 31) → shares_kept chain q j k
        ≡ record { top = row_top k (omega arith); bottom = carry_at chain q k j } ∷ pair_here k ∷ later_pairs (on_shares bytes) T (suc k + 2) (drop (suc (suc k)) bs)
    unfolding carry_at
    row k h =
        let r = rows k (omega arith) in
        r.1
        ∙ ap₂ (λ (c : ℕ) (z : List (Pair ℕ)). record { top = r.0.top; bottom = c } ∷ z)
        (ap (λ (z : List (Pair ℕ)). (get_or z 0 no_pair).bottom) (sym r.1)) (later_here k h)

    pub carry_byte : (k : ℕ) → k ≤ 31 → carry_at chain q k j < 256
    unfolding carry_at
    carry_byte k h =
        (each_at (λ a. (a.top < 256) × (a.bottom < 256)) (shares_kept chain q j k) 0 no_pair (kept_bytes chain t q S j hj k) (omega (arith, ap length (rows k h).1))).1

    pub carry_first : carry_at chain q 0 j ≡ first_carry (on_shares bytes) T (bit_here 0)
    unfolding carry_at remaining levels first_pairs
    carry_first =
        ap (λ (z : List ℕ). (get_or (first_pairs (on_shares bytes) T z) 0 no_pair).bottom) (drop_one 0 0 bs (omega (arith, bs_long)))
        ∙ ap (first_carry (on_shares bytes) T) (bit_is 0 (omega arith))

    -- "u = c_i by v = C_(i-1) + T_i"
    pub product_words : (k : ℕ) (h : k < 31)
        → map (side_word j) (level_at chain q k)
        ≡ both (left (on_shares bytes) T (k + 2) (bit_here (suc k)) (triple_here k).alpha) (right (on_shares bytes) T (k + 2) (carry_at chain q k j) (triple_here k).beta) ∷ []
    unfolding levels_of
    product_words k h =
        level_words_are chain t q S j hj k h
        ∙ ap₂ (λ (ps : List (Pair ℕ)) (us : List (Triple ℕ)). map (λ r. both r.left r.right) (said_of (on_shares bytes) (sides (on_shares bytes) chain ps) us)) (row k h) (triples_here k h)
        ∙ ap (map (λ r. both r.left r.right))
        (chain_said T (k + 2) (carry_at chain q k j) (bit_here (suc k)) (row_top k (omega arith)) (carry_byte k (omega arith)) (bit_byte_here (suc k) (omega arith))
        (later_pairs (on_shares bytes) T (suc k + 2) (drop (suc (suc k)) bs)) (triple_here k) (drop (suc k) (shares_triples chain q j)))

    triple_shared : (k : ℕ) → k < 31 → TripleShared t (get_or q.sheet.triples k no_triple)
    unfolding triples_of
    triple_shared k h = each_at (TripleShared t) q.sheet.triples k no_triple S.sheet.triples (omega (arith, S.sheet.triples_long))

    -- and C_i
    pub carry_next : (k : ℕ) (h : k < 31)
        → carry_at chain q (suc k) j
        ≡ next_carry (on_shares bytes) T (k + 2) (secret (product_at q k).left) (secret (product_at q k).right) (triple_here k).alpha (triple_here k).beta (triple_here k).gamma
    unfolding carry_at levels_of
    carry_next k h =
        let s = triple_shared k h in
        ap (λ (z : List (Pair ℕ)). (get_or z 0 no_pair).bottom)
        (kept_next chain q j k h
        ∙ ap₂ (λ (ps : List (Pair ℕ)) (ms : List ℕ). merged (on_shares bytes) chain ps ms) (row k h)
        (ap₂ (products (on_shares bytes)) (ap (map opened) (one_product k h)) (triples_here k h))
        ∙ chain_merged T (k + 2) (carry_at chain q k j) (bit_here (suc k)) (row_top k (omega arith)) (carry_byte k (omega arith)) (bit_byte_here (suc k) (omega arith))
        (later_pairs (on_shares bytes) T (suc k + 2) (drop (suc (suc k)) bs)) (opened_here k) [] (triple_here k) (drop (suc k) (shares_triples chain q j))
        (multiplied_byte (opened_here k) (triple_here k)
        (secret_value 256 t (product_at q k).left (product_shared k h).left) (secret_value 256 t (product_at q k).right (product_shared k h).right)
        (byte_below j hj _ s.alpha.1) (byte_below j hj _ s.beta.1) (byte_below j hj _ s.gamma.1)))
