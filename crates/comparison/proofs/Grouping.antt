-- On bits the pairs may be grouped anyhow: from the left, by halves, or by any brackets. Assumes nothing.
use mathlib.Core.Path.{◌≡◌, refl, sym, ap, ◌∙◌}
use mathlib.Core.Bool.{Bool}
use mathlib.Core.List.{List, [], ◌∷◌, ◌++◌}
use Prim.Native.Nat.{ℕ, zero, suc, ◌-◌, ◌*◌, ◌/◌, ◌%◌, ◌^◌, ◌≤◌, ◌<◌}
use native.Mathlib.Nat.{pow-succ'}
use native.Mathlib.Omega.{arith}
use lib.Dec.{T, eqb, eqb→eq, lit<}
use lib.ListN.{length, get_or}
use Rattle.fields.specs.Byte.{xor, xtimes, terms, product}
use Rattle.fields.proofs.Test.{below, at}
use Rattle.comparison.specs.Probe.{Each}
use Rattle.ways.specs.Way.{Way, chain, tree, uses, leaves}
use Rattle.comparison.specs.Pairs.{Pair, joined, Bits, folded, whole, Grouping, one, two, row, result}
use Rattle.comparison.proofs.Reduced.{halved, halvings, shortened, reduced, reductions}
use Rattle.comparison.proofs.Lists.{each_append_left, each_append_right}

-- ---- one join

-- y chooses between X and Y
abbrev pub chosen : (y X Y : ℕ) → ℕ
chosen y X Y = xor (product y (xor X Y)) Y

module _ (f g : ℕ → ℕ → ℕ → ℕ → ℕ → ℕ) where
  abbrev five : ℕ → ℕ → ℕ → ℕ → ℕ → Bool
  five v w x y z = eqb (f v w x y z) (g v w x y z)

  abbrev four : ℕ → ℕ → ℕ → ℕ → Bool
  four v w x y = below (five v w x y) 2

  abbrev three : ℕ → ℕ → ℕ → Bool
  three v w x = below (four v w x) 2

  abbrev pair : ℕ → ℕ → Bool
  pair v w = below (three v w) 2

  abbrev single : ℕ → Bool
  single v = below (pair v) 2

  -- two functions of five bits are the same when they are at each of the 32 places
  same_on_bits : T (below single 2) → (v w x y z : ℕ) → v < 2 → w < 2 → x < 2 → y < 2 → z < 2 → f v w x y z ≡ g v w x y z
  same_on_bits t v w x y z hv hw hx hy hz =
      eqb→eq (f v w x y z) (g v w x y z)
      (at (five v w x y) 2 (at (four v w x) 2 (at (three v w) 2 (at (pair v) 2 (at single 2 t v hv) w hw) x hx) y hy) z hz)

bottoms : (y z X Y Z : ℕ) → y < 2 → z < 2 → X < 2 → Y < 2 → Z < 2 → chosen z (chosen y X Y) Z ≡ chosen (product y z) X (chosen z Y Z)
unfolding product terms xtimes xor
bottoms = same_on_bits (λ y z X Y Z. chosen z (chosen y X Y) Z) (λ y z X Y Z. chosen (product y z) X (chosen z Y Z)) tt

tops : (x y z v w : ℕ) → x < 2 → y < 2 → z < 2 → v < 2 → w < 2 → product (product x y) z ≡ product x (product y z)
unfolding product terms xtimes xor
tops = same_on_bits (λ x y z v w. product (product x y) z) (λ x y z v w. product x (product y z)) tt

-- a bit is its own remainder
top_bit : (x y v w z : ℕ) → x < 2 → y < 2 → v < 2 → w < 2 → z < 2 → product x y ≡ product x y % 2
unfolding product terms xtimes xor
top_bit = same_on_bits (λ x y v w z. product x y) (λ x y v w z. product x y % 2) tt

bottom_bit : (y X Y v w : ℕ) → y < 2 → X < 2 → Y < 2 → v < 2 → w < 2 → chosen y X Y ≡ chosen y X Y % 2
unfolding product terms xtimes xor
bottom_bit = same_on_bits (λ y X Y v w. chosen y X Y) (λ y X Y v w. chosen y X Y % 2) tt

pub joined_bits : (a b : Pair ℕ) → Bits a → Bits b → Bits (joined a b)
unfolding joined
joined_bits a b ha hb = (
  omega (arith, top_bit a.top b.top 0 0 0 ha.0 hb.0 (lit< tt) (lit< tt) (lit< tt)),
  omega (arith, bottom_bit b.top a.bottom b.bottom 0 0 hb.0 ha.1 hb.1 (lit< tt) (lit< tt)),
)

-- the operator is associative on bits
pub joined_assoc : (a b c : Pair ℕ) → Bits a → Bits b → Bits c → joined (joined a b) c ≡ joined a (joined b c)
unfolding joined
joined_assoc a b c ha hb hc =
    let e : product (product a.top b.top) c.top ≡ product a.top (product b.top c.top) =
    tops a.top b.top c.top 0 0 ha.0 hb.0 hc.0 (lit< tt) (lit< tt) in
    let f : chosen c.top (chosen b.top a.bottom b.bottom) c.bottom
    ≡ chosen (product b.top c.top) a.bottom (chosen c.top b.bottom c.bottom) =
    bottoms b.top c.top a.bottom b.bottom c.bottom hb.0 hc.0 ha.1 hb.1 hc.1 in
    λ k. record { top = e k; bottom = f k }

-- and not on bytes: (1, 0), (1, 1), (2, 0)
pub not_on_bytes : ((a b c : Pair ℕ) → joined (joined a b) c ≡ joined a (joined b c)) → ⊥
unfolding joined product terms xtimes xor
not_on_bytes h =
    let e : ◌≡◌ {A = ℕ} 0 6 =
    ap (λ (z : Pair ℕ). z.bottom) (h (record { top = 1; bottom = 0 }) (record { top = 1; bottom = 1 }) (record { top = 2; bottom = 0 })) in
    omega arith

-- ---- lists

pub halved_bits : (ps : List (Pair ℕ)) → Each Bits ps → Each Bits (halved ps)
unfolding halved
halved_bits [] h = tt
halved_bits (a ∷ []) h = h
halved_bits (a ∷ b ∷ ps) h = (joined_bits a b h.0 h.1.0, halved_bits ps h.1.1)

pub halvings_bits : (n : ℕ) (ps : List (Pair ℕ)) → Each Bits ps → Each Bits (halvings n ps)
unfolding halvings
halvings_bits zero ps h = h
halvings_bits (suc n) ps h = halvings_bits n (halved ps) (halved_bits ps h)

folded_halved : (a : Pair ℕ) (ps : List (Pair ℕ)) → Bits a → Each Bits ps → folded a (halved ps) ≡ folded a ps
unfolding folded halved
folded_halved a [] ha h = refl
folded_halved a (b ∷ []) ha h = refl
folded_halved a (b ∷ c ∷ ps) ha h =
    folded_halved (joined a (joined b c)) ps (joined_bits a (joined b c) ha (joined_bits b c h.0 h.1.0)) h.1.1
    ∙ ap (λ (z : Pair ℕ). folded z ps) (sym (joined_assoc a b c ha h.0 h.1.0))

-- a level changes nothing
pub whole_halved : (ps : List (Pair ℕ)) → Each Bits ps → whole (halved ps) ≡ whole ps
unfolding whole halved folded
whole_halved [] h = refl
whole_halved (a ∷ []) h = refl
whole_halved (a ∷ b ∷ ps) h = folded_halved (joined a b) ps (joined_bits a b h.0 h.1.0) h.1.1

pub whole_halvings : (n : ℕ) (ps : List (Pair ℕ)) → Each Bits ps → whole (halvings n ps) ≡ whole ps
unfolding halvings
whole_halvings zero ps h = refl
whole_halvings (suc n) ps h = whole_halvings n (halved ps) (halved_bits ps h) ∙ whole_halved ps h

pub halved_length : (ps : List (Pair ℕ)) → length (halved ps) ≡ length ps - length ps / 2
unfolding halved
halved_length [] = refl
halved_length (a ∷ []) = refl
halved_length (a ∷ b ∷ ps) = omega (arith, halved_length ps)

-- enough levels leave one pair: the one from the left
pub only_pair : (ps : List (Pair ℕ)) → length ps ≤ 1 → get_or ps 0 (record { top = 0; bottom = 0 }) ≡ whole ps
unfolding whole folded
only_pair [] h = refl
only_pair (a ∷ []) h = refl
only_pair (a ∷ b ∷ ps) h = absurd (omega arith)

halvings_short : (n : ℕ) (ps : List (Pair ℕ)) → length ps ≤ 2 ^ n → length (halvings n ps) ≤ 1
unfolding halvings
halvings_short zero ps h = h
halvings_short (suc n) ps h =
    let l : length ps ≤ 2 * 2 ^ n = rw (pow-succ' 2 n) at h in
    halvings_short n (halved ps) (omega (arith, halved_length ps))

pub halvings_some : (n : ℕ) (ps : List (Pair ℕ)) → 1 ≤ length ps → 1 ≤ length (halvings n ps)
unfolding halvings
halvings_some zero ps h = h
halvings_some (suc n) ps h = halvings_some n (halved ps) (omega (arith, halved_length ps))

pub halvings_law : (n : ℕ) (ps : List (Pair ℕ)) → length ps ≤ 2 ^ n → Each Bits ps
    → get_or (halvings n ps) 0 (record { top = 0; bottom = 0 }) ≡ whole ps
halvings_law n ps l h = only_pair (halvings n ps) (halvings_short n ps l) ∙ whole_halvings n ps h

-- ---- one by one from the left, or neighbours at once: the bottom is that of the fold

-- a fold's bottom is made of its first pair's bottom alone
folded_bottom : (a c : Pair ℕ) (ps : List (Pair ℕ)) → a.bottom ≡ c.bottom → (folded a ps).bottom ≡ (folded c ps).bottom
unfolding folded joined
folded_bottom a c [] e = e
folded_bottom a c (b ∷ ps) e =
    folded_bottom (joined a b) (joined c b) ps (ap (λ (z : ℕ). chosen b.top z b.bottom) e)

pub reduced_bits : (w : Way) (ps : List (Pair ℕ)) → Each Bits ps → Each Bits (reduced w ps)
unfolding reduced shortened
reduced_bits chain [] h = tt
reduced_bits chain (a ∷ []) h = h
reduced_bits chain (a ∷ b ∷ ps) h = ((h.0.0, (joined_bits a b h.0 h.1.0).1), h.1.1)
reduced_bits tree ps h = halved_bits ps h

pub whole_reduced : (w : Way) (ps : List (Pair ℕ)) → Each Bits ps → (whole (reduced w ps)).bottom ≡ (whole ps).bottom
unfolding reduced shortened whole folded
whole_reduced chain [] h = refl
whole_reduced chain (a ∷ []) h = refl
whole_reduced chain (a ∷ b ∷ ps) h = folded_bottom (record { top = a.top; bottom = (joined a b).bottom }) (joined a b) ps refl
whole_reduced tree ps h = ap (λ (z : Pair ℕ). z.bottom) (whole_halved ps h)

pub reductions_bits : (w : Way) (n : ℕ) (ps : List (Pair ℕ)) → Each Bits ps → Each Bits (reductions w n ps)
unfolding reductions
reductions_bits w zero ps h = h
reductions_bits w (suc n) ps h = reductions_bits w n (reduced w ps) (reduced_bits w ps h)

pub whole_reductions : (w : Way) (n : ℕ) (ps : List (Pair ℕ)) → Each Bits ps → (whole (reductions w n ps)).bottom ≡ (whole ps).bottom
unfolding reductions
whole_reductions w zero ps h = refl
whole_reductions w (suc n) ps h = whole_reductions w n (reduced w ps) (reduced_bits w ps h) ∙ whole_reduced w ps h

pub reduced_length : (w : Way) (ps : List (Pair ℕ)) → length (reduced w ps) ≡ leaves w (length ps)
unfolding reduced shortened leaves uses
reduced_length chain [] = refl
reduced_length chain (a ∷ []) = refl
reduced_length chain (a ∷ b ∷ ps) = omega arith
reduced_length tree ps = halved_length ps

-- ---- any brackets

folded_append : (a : Pair ℕ) (ps qs : List (Pair ℕ)) → folded a (ps ++ qs) ≡ folded (folded a ps) qs
unfolding folded
folded_append a [] qs = refl
folded_append a (p ∷ ps) qs = folded_append (joined a p) ps qs

result_bits : (g : Grouping) → Each Bits (row g) → Bits (result g)
unfolding row result
result_bits (one a) h = h.0
result_bits (two g k) h =
    joined_bits (result g) (result k) (result_bits g (each_append_left Bits (row g) (row k) h)) (result_bits k (each_append_right Bits (row g) (row k) h))

folded_grouped : (a : Pair ℕ) (g : Grouping) → Bits a → Each Bits (row g) → folded a (row g) ≡ joined a (result g)
unfolding row result folded
folded_grouped a (one b) ha h = refl
folded_grouped a (two g k) ha h =
    let hg : Each Bits (row g) = each_append_left Bits (row g) (row k) h in
    let hk : Each Bits (row k) = each_append_right Bits (row g) (row k) h in
    folded_append a (row g) (row k) ∙ ap (λ (z : Pair ℕ). folded z (row k)) (folded_grouped a g ha hg)
    ∙ folded_grouped (joined a (result g)) k (joined_bits a (result g) ha (result_bits g hg)) hk
    ∙ joined_assoc a (result g) (result k) ha (result_bits g hg) (result_bits k hk)

whole_append : (ps qs : List (Pair ℕ)) → 1 ≤ length ps → whole (ps ++ qs) ≡ folded (whole ps) qs
unfolding whole
whole_append [] qs h = absurd (omega arith)
whole_append (p ∷ ps) qs h = folded_append p ps qs

length_row : (g : Grouping) → 1 ≤ length (row g)
unfolding row
length_row (one a) = omega arith
length_row (two g k) = go (row g) (row k) (length_row g)
  where
    go : (ps qs : List (Pair ℕ)) → 1 ≤ length ps → 1 ≤ length (ps ++ qs)
    go [] qs h = absurd (omega arith)
    go (p ∷ ps) qs h = omega arith

-- "As the operator is associative, we may apply it to the operands in any order"
pub grouped_anyhow : (g : Grouping) → Each Bits (row g) → result g ≡ whole (row g)
unfolding row result whole folded
grouped_anyhow (one a) h = refl
grouped_anyhow (two g k) h =
    let hg : Each Bits (row g) = each_append_left Bits (row g) (row k) h in
    let hk : Each Bits (row k) = each_append_right Bits (row g) (row k) h in
    sym
    (whole_append (row g) (row k) (length_row g) ∙ ap (λ (z : Pair ℕ). folded z (row k)) (sym (grouped_anyhow g hg))
    ∙ folded_grouped (result g) k (result_bits g hg) hk)
