-- What each party keeps from level to level, one level after another, and what it says of it. Assumes nothing.
use mathlib.Core.Path.{◌≡◌, refl, sym, ap, ap₂, ◌∙◌}
use mathlib.Core.List.{List, [], ◌∷◌, ◌++◌, map}
use mathlib.Core.Bool.{Bool, true, false, ◌||◌, true≢false}
use lib.Dec.{eqb}
use native.Mathlib.Decide.{ℕ_discrete}
use borrow.Author.Tests.{eqb-true, ne_eqb}
use Prim.Native.Nat.{◌/◌}
use Rattle.ways.specs.Way.{is_way, way_of, last_round}
use Rattle.ways.proofs.Laws.{way_tree, way_chain}
use Rattle.comparison.specs.Rounds.{last}
use Rattle.comparison.specs.Probe.{opened_sum}
use Rattle.level.specs.Level.{no_pair}
use Prim.Native.Nat.{ℕ, zero, suc, ◌+◌, ◌-◌, ◌*◌, ◌≤◌, ◌<◌}
use native.Mathlib.Nat.{le_of_suc-le-suc}
use native.Mathlib.Omega.{arith}
use lib.ListN.{length, take, drop, get_or, length-map, length-drop, get_or-append, get_or-map}
use lib.Seq.{drop-drop, get_or-append_seam}
use Rattle.fields.specs.Byte.{bytes}
use Rattle.sharing.specs.Polynomial.{value}
use Rattle.ways.specs.Way.{Way, chain, tree, uses, leaves, levels_of, width}
use Rattle.comparison.specs.Local.{Local, on_shares}
use Rattle.comparison.specs.Rounds.{both}
use Rattle.comparison.specs.Pairs.{Pair, Triple, Sides, unused, sides, said_of, products, merged, spoken, remaining}
use Rattle.comparison.specs.Probe.{Each, Probe, opened, said, next, levels, pairs_after, started, side_word, product_levels, last_polynomial, probe_messages}
use Rattle.comparison.proofs.Lists.{each_at, pairs_length}
use Rattle.comparison.proofs.Dealt.{ProbeShared}
use Rattle.comparison.proofs.Steps.{OnPair}
use Rattle.comparison.proofs.Counts.{sides_length, said_of_length, used, left_of, used_all, used_most, started_length, pairs_after_length}
use Rattle.comparison.proofs.Levels.{At, triple_at, shares_triples, shares_started, openings, shares_said, shares_kept, said_in_levels, kept_reads, messages_law}
use Rattle.comparison.proofs.Only.{SidesShared, read_shared}

-- ---- lists

pub drop_one : {A : Type 0} (d : A) (k : ℕ) (xs : List A) → k < length xs → drop k xs ≡ get_or xs k d ∷ drop (suc k) xs
drop_one d k [] h = absurd (omega arith)
drop_one d zero (x ∷ xs) h = refl
drop_one d (suc k) (x ∷ xs) h = drop_one d k xs (le_of_suc-le-suc h)

take_one : {A : Type 0} (d : A) (k : ℕ) (xs : List A) → k < length xs → take (suc k) xs ≡ take k xs ++ (get_or xs k d ∷ [])
take_one d k [] h = absurd (omega arith)
take_one d zero (x ∷ xs) h = refl
take_one {A} d (suc k) (x ∷ xs) h = ap (λ (z : List A). x ∷ z) (take_one d k xs (le_of_suc-le-suc h))

map-append : {A B : Type 0} (f : A → B) (xs ys : List A) → map f (xs ++ ys) ≡ map f xs ++ map f ys
map-append f [] ys = refl
map-append {A} {B} f (x ∷ xs) ys = ap (λ (z : List B). f x ∷ z) (map-append f xs ys)

map_take : {A B : Type 0} (f : A → B) (k : ℕ) (xs : List A) → map f (take k xs) ≡ take k (map f xs)
map_take f zero xs = refl
map_take f (suc k) [] = refl
map_take {A} {B} f (suc k) (x ∷ xs) = ap (λ (z : List B). f x ∷ z) (map_take f k xs)

-- ---- one level more

module _ {X : Type 0} (L : Local X) (w : Way) where
  -- the triples that are left after levels that open to these
  unfoldable pub left_triples : List (List (Sides ℕ)) → List (Pair X) → List (Triple X) → List (Triple X)
  left_triples [] ps ts = ts
  left_triples (os ∷ oss) ps ts = left_triples oss (merged L w ps (products L os ts)) (unused w ps ts)

  remaining_more : (oss : List (List (Sides ℕ))) (os : List (Sides ℕ)) (ps : List (Pair X)) (ts : List (Triple X))
      → remaining L w (oss ++ (os ∷ [])) ps ts ≡ merged L w (remaining L w oss ps ts) (products L os (left_triples oss ps ts))
  unfolding remaining left_triples
  remaining_more [] os ps ts = refl
  remaining_more (o ∷ oss) os ps ts = remaining_more oss os (merged L w ps (products L o ts)) (unused w ps ts)

  left_more : (oss : List (List (Sides ℕ))) (os : List (Sides ℕ)) (ps : List (Pair X)) (ts : List (Triple X))
      → left_triples (oss ++ (os ∷ [])) ps ts ≡ unused w (remaining L w oss ps ts) (left_triples oss ps ts)
  unfolding remaining left_triples
  left_more [] os ps ts = refl
  left_more (o ∷ oss) os ps ts = left_more oss os (merged L w ps (products L o ts)) (unused w ps ts)

  spoken_at : (oss : List (List (Sides ℕ))) (k : ℕ) (ps : List (Pair X)) (ts : List (Triple X)) → k < length oss
      → get_or (spoken L w oss ps ts) k [] ≡ said_of L (sides L w (remaining L w (take k oss) ps ts)) (left_triples (take k oss) ps ts)
  unfolding spoken remaining left_triples
  spoken_at [] k ps ts h = absurd (omega arith)
  spoken_at (o ∷ oss) zero ps ts h = refl
  spoken_at (o ∷ oss) (suc k) ps ts h = spoken_at oss k (merged L w ps (products L o ts)) (unused w ps ts) (le_of_suc-le-suc h)

module _ (w : Way) where
  levels_length : (n : ℕ) (ps : List (Pair (List ℕ))) (ts : List (Triple (List ℕ))) → length (levels w n ps ts) ≡ n
  unfolding levels
  levels_length zero ps ts = refl
  levels_length (suc n) ps ts = ap suc (levels_length n (next w ps ts) (unused w ps ts))

  levels_take : (n k : ℕ) (ps : List (Pair (List ℕ))) (ts : List (Triple (List ℕ))) → k ≤ n → take k (levels w n ps ts) ≡ levels w k ps ts
  unfolding levels
  levels_take n zero ps ts h = refl
  levels_take zero (suc k) ps ts h = absurd (omega arith)
  levels_take (suc n) (suc k) ps ts h = ap (λ (z : List (List (Sides (List ℕ)))). said w ps ts ∷ z) (levels_take n k (next w ps ts) (unused w ps ts) (le_of_suc-le-suc h))

  used_more : (k m : ℕ) → used w (suc k) m ≡ used w k m + uses w (left_of w k m)
  unfolding used left_of
  used_more zero m = omega arith
  used_more (suc k) m = omega (arith, used_more k (leaves w m))

-- ---- a probe

module _ (w : Way) (q : Probe) where
  abbrev ps : List (Pair (List ℕ))
  ps = started q

  abbrev ts : List (Triple (List ℕ))
  ts = q.sheet.triples

  -- what is said in level k, on polynomials
  unfoldable pub level_at : ℕ → List (Sides (List ℕ))
  level_at k = get_or (product_levels w q) k []

  pub all_long : length (product_levels w q) ≡ levels_of w
  all_long = levels_length w (levels_of w) ps ts

  openings_more : (k : ℕ) → k < levels_of w → openings w q 0 (suc k) ≡ openings w q 0 k ++ (map opened (level_at k) ∷ [])
  unfolding level_at
  openings_more k h =
      ap (map (map opened))
      (sym (levels_take w (levels_of w) (suc k) ps ts h) ∙ take_one [] k (product_levels w q) (omega (arith, all_long))
      ∙ ap (λ (z : List (List (Sides (List ℕ)))). z ++ (get_or (product_levels w q) k [] ∷ [])) (levels_take w (levels_of w) k ps ts (omega arith)))
      ∙ map-append (map opened) (levels w k ps ts) (get_or (product_levels w q) k [] ∷ [])

  openings_take : (k : ℕ) → k ≤ levels_of w → take k (openings w q 0 (levels_of w)) ≡ openings w q 0 k
  openings_take k h = sym (map_take (map opened) k (product_levels w q)) ∙ ap (map (map opened)) (levels_take w (levels_of w) k ps ts h)

  openings_long : length (openings w q 0 (levels_of w)) ≡ levels_of w
  openings_long = length-map (product_levels w q) (map opened) ∙ all_long

  module _ (j : ℕ) where
    -- party j's shares of the triples that are left
    unfoldable pub triples_kept : ℕ → List (Triple ℕ)
    triples_kept k = left_triples (on_shares bytes) w (openings w q j k) (shares_started w q j) (shares_triples w q j)

    pub kept_next : (k : ℕ) → k < levels_of w
        → shares_kept w q j (suc k) ≡ merged (on_shares bytes) w (shares_kept w q j k) (products (on_shares bytes) (map opened (level_at k)) (triples_kept k))
    unfolding triples_kept
    kept_next k h =
        ap (λ (oss : List (List (Sides ℕ))). remaining (on_shares bytes) w oss (shares_started w q j) (shares_triples w q j)) (openings_more k h)
        ∙ remaining_more (on_shares bytes) w (openings w q j k) (map opened (level_at k)) (shares_started w q j) (shares_triples w q j)

    triples_next : (k : ℕ) → k < levels_of w → triples_kept (suc k) ≡ unused w (shares_kept w q j k) (triples_kept k)
    unfolding triples_kept
    triples_next k h =
        ap (λ (oss : List (List (Sides ℕ))). left_triples (on_shares bytes) w oss (shares_started w q j) (shares_triples w q j)) (openings_more k h)
        ∙ left_more (on_shares bytes) w (openings w q j k) (map opened (level_at k)) (shares_started w q j) (shares_triples w q j)

    -- what is said of them
    shares_said_at : (k : ℕ) → k < levels_of w
        → get_or (shares_said w q j (levels_of w)) k [] ≡ said_of (on_shares bytes) (sides (on_shares bytes) w (shares_kept w q j k)) (triples_kept k)
    unfolding triples_kept
    shares_said_at k h =
        spoken_at (on_shares bytes) w (openings w q j (levels_of w)) k (shares_started w q j) (shares_triples w q j) (omega (arith, openings_long))
        ∙ ap (λ (oss : List (List (Sides ℕ))). said_of (on_shares bytes) (sides (on_shares bytes) w (remaining (on_shares bytes) w oss (shares_started w q j) (shares_triples w q j))) (left_triples (on_shares bytes) w oss (shares_started w q j) (shares_triples w q j)))
        (openings_take k (omega arith))

module _ (w : Way) (t : ℕ) (q : Probe) (S : ProbeShared w t q) where
  -- the words of level k, by the polynomials
  pub level_said : (j k : ℕ) → k < levels_of w → get_or (probe_messages w q j) (suc k) [] ≡ map (side_word j) (level_at w q k)
  unfolding probe_messages level_at
  level_said j k h =
      get_or-append (map (map (side_word j)) (product_levels w q)) ((value bytes (last_polynomial w q) j ∷ []) ∷ []) [] k
      (omega (arith, length-map (product_levels w q) (map (side_word j)), all_long w q))
      ∙ get_or-map (map (side_word j)) (product_levels w q) k []

  -- and those of the last round
  pub last_said : (j : ℕ) → get_or (probe_messages w q j) (suc (levels_of w)) [] ≡ value bytes (last_polynomial w q) j ∷ []
  unfolding probe_messages
  last_said j =
      let e : levels_of w ≡ length (map (map (side_word j)) (product_levels w q)) = omega (arith, length-map (product_levels w q) (map (side_word j)), all_long w q) in
      ap (λ (k : ℕ). get_or (map (map (side_word j)) (product_levels w q) ++ ((value bytes (last_polynomial w q) j ∷ []) ∷ [])) k []) e
      ∙ get_or-append_seam (map (map (side_word j)) (product_levels w q)) (value bytes (last_polynomial w q) j ∷ []) [] []

  pub level_shared : (k : ℕ) → k < levels_of w → Each (SidesShared t) (level_at w q k)
  unfolding level_at
  level_shared k h =
      each_at (Each (SidesShared t)) (product_levels w q) k []
      (read_shared t 1 (product_levels w q) (shares_said w q 1 (levels_of w)) (said_in_levels w t q S 1 (omega arith) (levels_of w))) (omega (arith, all_long w q))

  module _ (j : ℕ) (hj : j < 10) where
    abbrev share_word : Sides ℕ → ℕ
    share_word r = both r.left r.right

    said_long : length (shares_said w q j (levels_of w)) ≡ levels_of w
    said_long = sym (pairs_length _ (product_levels w q) (shares_said w q j (levels_of w)) (said_in_levels w t q S j hj (levels_of w))) ∙ all_long w q

    -- the words of level k, by the party's own shares
    pub level_words_are : (k : ℕ) → k < levels_of w
        → map (side_word j) (level_at w q k) ≡ map share_word (said_of (on_shares bytes) (sides (on_shares bytes) w (shares_kept w q j k)) (triples_kept w q j k))
    level_words_are k h =
        sym (level_said j k h) ∙ ap (λ (wss : List (List ℕ)). get_or wss (suc k) []) (messages_law w t q S j hj)
        ∙ get_or-append (map (map share_word) (shares_said w q j (levels_of w))) _ [] k
        (omega (arith, length-map (shares_said w q j (levels_of w)) (map share_word), said_long))
        ∙ get_or-map (map share_word) (shares_said w q j (levels_of w)) k []
        ∙ ap (map share_word) (shares_said_at w q j k h)

    -- how many pairs and triples there are
    pub kept_long : (k : ℕ) → k ≤ levels_of w → length (shares_kept w q j k) ≡ left_of w k 32
    kept_long k h =
        sym (pairs_length (OnPair (At t j)) (pairs_after w k (started q) q.sheet.triples) (shares_kept w q j k) (kept_reads w t q S j hj k))
        ∙ pairs_after_length w k 32 (started q) q.sheet.triples (started_length q S.sheet.bits_long)
        (omega (arith, used_most w k (levels_of w) 32 h, used_all w, S.sheet.triples_long))

    pub triples_dropped : (k : ℕ) → k ≤ levels_of w → triples_kept w q j k ≡ drop (used w k 32) (shares_triples w q j)
    unfolding triples_kept left_triples used levels
    triples_dropped zero h = refl
    triples_dropped (suc k) h =
        triples_next w q j k h
        ∙ ap₂ (λ (n : ℕ) (us : List (Triple ℕ)). drop (uses w n) us) (kept_long k (omega arith)) (triples_dropped k (omega arith))
        ∙ drop-drop (uses w (left_of w k 32)) (used w k 32) (shares_triples w q j)
        ∙ ap (λ (n : ℕ). drop n (shares_triples w q j)) (sym (used_more w k 32))

    pub triples_left : (k : ℕ) → k < levels_of w → uses w (left_of w k 32) ≤ length (triples_kept w q j k)
    triples_left k h =
        omega (
          arith,
          ap length (triples_dropped k (omega arith)) ∙ length-drop (used w k 32) (shares_triples w q j),
          length-map q.sheet.triples (triple_at j),
          S.sheet.triples_long,
          used_more w k 32,
          used_most w (suc k) (levels_of w) 32 h,
          used_all w,
        )

  -- as many words as the round has
  pub level_long : (k : ℕ) → k < levels_of w → length (level_at w q k) ≡ uses w (left_of w k 32)
  level_long k h =
      let one : 1 < 10 = omega arith in
      sym (length-map (level_at w q k) (side_word 1)) ∙ ap length (level_words_are 1 one k h)
      ∙ length-map (said_of (on_shares bytes) (sides (on_shares bytes) w (shares_kept w q 1 k)) (triples_kept w q 1 k)) (share_word 1 one)
      ∙ said_of_length (on_shares bytes) (sides (on_shares bytes) w (shares_kept w q 1 k)) (triples_kept w q 1 k)
      (omega (arith, sides_length (on_shares bytes) w (shares_kept w q 1 k), ap (uses w) (kept_long 1 one k (omega arith)), triples_left 1 one k h))
      ∙ sides_length (on_shares bytes) w (shares_kept w q 1 k) ∙ ap (uses w) (kept_long 1 one k (omega arith))

-- ---- by the way

chain_left : (k m : ℕ) → k < m → left_of chain k m ≡ m - k
unfolding left_of leaves uses
chain_left zero m h = omega arith
chain_left (suc k) zero h = absurd (omega arith)
chain_left (suc k) (suc zero) h = absurd (omega arith)
chain_left (suc k) (suc (suc m)) h = ap (left_of chain k) (omega arith) ∙ chain_left k (suc m) (omega arith) ∙ omega arith

chain_uses : (n : ℕ) → 2 ≤ n → uses chain n ≡ 1
unfolding uses
chain_uses zero h = absurd (omega arith)
chain_uses (suc zero) h = absurd (omega arith)
chain_uses (suc (suc n)) h = refl

pub chain_used : (k : ℕ) → k ≤ 31 → used chain k 32 ≡ k
unfolding used
chain_used zero h = refl
chain_used (suc k) h =
    used_more chain k 32
    ∙ ap₂ ◌+◌ (chain_used k (omega arith)) (chain_uses (left_of chain k 32) (omega (arith, chain_left k 32 (omega arith)))) ∙ omega arith

pub tree_left : (k : ℕ) → k < 5 → left_of tree k 32 ≡ width tree (k + 2)
unfolding left_of leaves uses width
tree_left zero h = refl
tree_left (suc zero) h = refl
tree_left (suc (suc zero)) h = refl
tree_left (suc (suc (suc zero))) h = refl
tree_left (suc (suc (suc (suc zero)))) h = refl
tree_left (suc (suc (suc (suc (suc k))))) h = absurd (omega arith)

pub tree_used : (k : ℕ) → k < 5 → used tree k 32 ≡ 64 - 2 * width tree (k + 2)
unfolding used leaves uses width
tree_used zero h = refl
tree_used (suc zero) h = refl
tree_used (suc (suc zero)) h = refl
tree_used (suc (suc (suc zero))) h = refl
tree_used (suc (suc (suc (suc zero)))) h = refl
tree_used (suc (suc (suc (suc (suc k))))) h = absurd (omega arith)

tree_uses : (k : ℕ) → k < 5 → uses tree (left_of tree k 32) ≡ width tree (k + 2)
unfolding left_of leaves uses width
tree_uses zero h = refl
tree_uses (suc zero) h = refl
tree_uses (suc (suc zero)) h = refl
tree_uses (suc (suc (suc zero))) h = refl
tree_uses (suc (suc (suc (suc zero)))) h = refl
tree_uses (suc (suc (suc (suc (suc k))))) h = absurd (omega arith)

pub tree_wide : (k : ℕ) → k < 5 → (1 ≤ width tree (k + 2)) × (width tree (k + 2) ≤ 32) × (1 ≤ k → width tree (k + 2) ≤ 16)
unfolding width
tree_wide zero h = (omega arith, omega arith, λ l. absurd (omega arith))
tree_wide (suc zero) h = (omega arith, omega arith, λ l. omega arith)
tree_wide (suc (suc zero)) h = (omega arith, omega arith, λ l. omega arith)
tree_wide (suc (suc (suc zero))) h = (omega arith, omega arith, λ l. omega arith)
tree_wide (suc (suc (suc (suc zero)))) h = (omega arith, omega arith, λ l. omega arith)
tree_wide (suc (suc (suc (suc (suc k))))) h = absurd (omega arith)

-- a level has as many products as its round has words
pub level_width : (w : Way) (k : ℕ) → k < levels_of w → uses w (left_of w k 32) ≡ width w (k + 2)
unfolding levels_of width
level_width chain k h = chain_uses (left_of chain k 32) (omega (arith, chain_left k 32 (omega arith)))
level_width tree k h = tree_uses k h

-- ---- the last round of a probe

pub last_is : (last : ℕ) → is_way last ≡ true → (v : Way) → way_of last ≡ v → last ≡ levels_of v + 2
unfolding is_way way_of levels_of
last_is last h v e =
    elim (ℕ_discrete last 7) [
      | yes seven ↦ seven ∙ ap (λ (w : Way). levels_of w + 2) (sym (way_tree last seven) ∙ e)
      | no n ↦ other n ∙ ap (λ (w : Way). levels_of w + 2) (sym (way_chain last n) ∙ e)
    ]
  where
    other : (last ≡ 7 → ⊥) → last ≡ 33
    other n = by (eqb last 33) refl
      where
        by : (b : Bool) → eqb last 33 ≡ b → last ≡ 33
        by true f = eqb-true last 33 f
        by false f = absurd (true≢false (sym h ∙ ap₂ ◌||◌ f (ne_eqb last 7 n)))

module _ (w : Way) (t : ℕ) (q : Probe) (S : ProbeShared w t q) (j : ℕ) (hj : j < 10) where
  -- what is said in it, by the party's own shares
  pub last_words : get_or (probe_messages w q j) (suc (levels_of w)) []
      ≡ last (on_shares bytes) (opened_sum q) (value bytes (get_or q.sheet.bits 32 []) j) (get_or (shares_kept w q j (levels_of w)) 0 no_pair).bottom ∷ []
  last_words =
      let wss : List (List ℕ) = map (map (share_word w t q S j hj)) (shares_said w q j (levels_of w)) in
      let e : levels_of w ≡ length wss = omega (arith, length-map (shares_said w q j (levels_of w)) (map (share_word w t q S j hj)), said_long w t q S j hj) in
      let z : List ℕ = last (on_shares bytes) (opened_sum q) (value bytes (get_or q.sheet.bits 32 []) j) (get_or (shares_kept w q j (levels_of w)) 0 no_pair).bottom ∷ [] in
      ap (λ (ms : List (List ℕ)). get_or ms (suc (levels_of w)) []) (messages_law w t q S j hj)
      ∙ ap (λ (k : ℕ). get_or (wss ++ (z ∷ [])) k []) e
      ∙ get_or-append_seam wss z [] []

-- ---- how many rounds a probe has

pub last_round_is : (v : Way) → last_round v ≡ levels_of v + 2
unfolding last_round levels_of
last_round_is chain = refl
last_round_is tree = refl

pub rounds_of : (last : ℕ) → is_way last ≡ true → last_round (way_of last) ≡ last
rounds_of last h = last_round_is (way_of last) ∙ sym (last_is last h (way_of last) refl)

pub last_round_range : (v : Way) → (1 ≤ last_round v) × (last_round v ≤ 33)
unfolding last_round
last_round_range chain = (omega arith, omega arith)
last_round_range tree = (omega arith, omega arith)

pub div_none : (v : Way) (m : ℕ) → m < last_round v → m / last_round v ≡ 0
unfolding last_round
div_none chain m h = omega arith
div_none tree m h = omega arith

pub div_more : (v : Way) (m : ℕ) → last_round v ≤ m → suc ((m - last_round v) / last_round v) ≡ m / last_round v
unfolding last_round
div_more chain m h = omega arith
div_more tree m h = omega arith

pub div_all : (v : Way) (m n : ℕ) → last_round v * n ≤ m → n ≤ m / last_round v
unfolding last_round
div_all chain m n h = omega arith
div_all tree m n h = omega arith

pub div_over : (v : Way) (n more : ℕ) → more ≤ 2 → (last_round v * n + more) / last_round v ≡ n
unfolding last_round
div_over chain n more h = omega arith
div_over tree n more h = omega arith
