-- The report's pair operator, on pairs of bits, top and bottom, which can be grouped anyhow; and the levels in which parties merge shared
-- pairs by it: the first two, or neighbours at once. Assumes nothing.
use Rattle.std.specs.Prelude.{List, [], ◌∷◌, ◌++◌, ℕ, suc, ◌<◌, length, drop}
use Rattle.fields.specs.Bits.{bit}
use Rattle.fields.specs.Byte.{xor, product}
use Rattle.comparison.specs.Local.{Local}
use Rattle.comparison.specs.Rounds.{differing, first_carry}
use Rattle.ways.specs.Way.{Way, chain, tree, uses}

pub record Pair (X : Type 0) : Type 0 where
  pub top : X
  pub bottom : X

pub record Triple (X : Type 0) : Type 0 where
  pub alpha : X
  pub beta : X
  pub gamma : X

-- ---- bytes

-- (x, X) with (y, Y): "(x and y, y and (X xor Y) xor Y)". On bits, where y is 1 the left pair, else the right one.
unfoldable pub joined : Pair ℕ → Pair ℕ → Pair ℕ
joined a b = record { top = product a.top b.top; bottom = xor (product b.top (xor a.bottom b.bottom)) b.bottom }

abbrev pub Bits : Pair ℕ → Type 0
Bits a = (a.top < 2) × (a.bottom < 2)

-- from the left, one by one
unfoldable pub folded : Pair ℕ → List (Pair ℕ) → Pair ℕ
folded a [] = a
folded a (b ∷ bs) = folded (joined a b) bs

-- the same of a list; no pair is pair 0
unfoldable pub whole : List (Pair ℕ) → Pair ℕ
whole [] = record { top = 0; bottom = 0 }
whole (a ∷ as') = folded a as'

-- any way to put brackets
pub data Grouping : Type 0 where
  one : Pair ℕ → Grouping
  two : Grouping → Grouping → Grouping

unfoldable pub row : Grouping → List (Pair ℕ)
row (one a) = a ∷ []
row (two g h) = row g ++ row h

unfoldable pub result : Grouping → Pair ℕ
result (one a) = a
result (two g h) = joined (result g) (result h)

-- ---- shares and polynomials

-- the two sides of a product, u and v; said, u + alpha and v + beta; opened, D and E
pub record Sides (X : Type 0) : Type 0 where
  pub left : X
  pub right : X

-- what a level leaves to the later ones: a triple goes to each product
abbrev pub unused : {X A : Type 0} → Way → List (Pair X) → List A → List A
unused w ps ts = drop (uses w (length ps)) ts

module _ {X : Type 0} (L : Local X) where
  -- a public number, as every party holds it; made of any shared value
  unfoldable pub public : ℕ → X → X
  public k b = L.shift k (L.times 0 b)

  -- the pairs (c_i, T_i) from i on
  unfoldable pub later_pairs : (T i : ℕ) (bit_shares : List X) → List (Pair X)
  later_pairs T i [] = []
  later_pairs T i (b ∷ bs) = record { top = differing L T i b; bottom = public (bit i T) b } ∷ later_pairs T (suc i) bs

  -- pair 0 is merged into the first: (0, C_1)
  unfoldable pub first_pairs : (T : ℕ) (bit_shares : List X) → List (Pair X)
  first_pairs T [] = []
  first_pairs T (b ∷ bs) = record { top = public 0 b; bottom = first_carry L T b } ∷ later_pairs T 2 bs

  -- of two pairs: "top product (u = x, v = y)", and "its bottom one (u = y, v = X + Y)"
  abbrev pub top_sides : Pair X → Pair X → Sides X
  top_sides a b = record { left = a.top; right = b.top }

  abbrev pub bottom_sides : Pair X → Pair X → Sides X
  bottom_sides a b = record { left = b.top; right = L.plus a.bottom b.bottom }

  -- A level's products, left first. One by one the first pair's top is 0 and stays it, so that there is the bottom product alone:
  -- "u = c_i by v = C_(i-1) + T_i".
  unfoldable pub sides : Way → List (Pair X) → List (Sides X)
  sides chain [] = []
  sides chain (a ∷ []) = []
  sides chain (a ∷ b ∷ ps) = bottom_sides a b ∷ []
  sides tree [] = []
  sides tree (a ∷ []) = []
  sides tree (a ∷ b ∷ ps) = top_sides a b ∷ bottom_sides a b ∷ sides tree ps

  abbrev pub masked_sides : Sides X → Triple X → Sides X
  masked_sides s t = record { left = L.plus s.left t.alpha; right = L.plus s.right t.beta }

  -- what is said, each product with the next triple
  unfoldable pub said_of : List (Sides X) → List (Triple X) → List (Sides X)
  said_of [] ts = []
  said_of (s ∷ ss) [] = []
  said_of (s ∷ ss) (t ∷ ts) = masked_sides s t ∷ said_of ss ts

  -- "gamma + D beta + E alpha + D E"
  unfoldable pub multiplied : Sides ℕ → Triple X → X
  multiplied o t =
      L.shift (product o.left o.right) (L.plus (L.plus t.gamma (L.times o.left t.beta)) (L.times o.right t.alpha))

  unfoldable pub products : List (Sides ℕ) → List (Triple X) → List X
  products [] ts = []
  products (o ∷ os) [] = []
  products (o ∷ os) (t ∷ ts) = multiplied o t ∷ products os ts

  -- "the bottom then adds Y"
  unfoldable pub merged : Way → List (Pair X) → List X → List (Pair X)
  merged chain [] ms = []
  merged chain (a ∷ []) ms = a ∷ []
  merged chain (a ∷ b ∷ ps) [] = []
  merged chain (a ∷ b ∷ ps) (n ∷ ms) = record { top = a.top; bottom = L.plus n b.bottom } ∷ ps
  merged tree [] ms = []
  merged tree (a ∷ []) ms = a ∷ []
  merged tree (a ∷ b ∷ ps) [] = []
  merged tree (a ∷ b ∷ ps) (m ∷ []) = []
  merged tree (a ∷ b ∷ ps) (m ∷ n ∷ ms) = record { top = m; bottom = L.plus n b.bottom } ∷ merged tree ps ms

  -- what a party says in the levels that open to these, and the pairs that it keeps after them
  unfoldable pub spoken : Way → List (List (Sides ℕ)) → List (Pair X) → List (Triple X) → List (List (Sides X))
  spoken w [] ps ts = []
  spoken w (os ∷ oss) ps ts = said_of (sides w ps) ts ∷ spoken w oss (merged w ps (products os ts)) (unused w ps ts)

  unfoldable pub remaining : Way → List (List (Sides ℕ)) → List (Pair X) → List (Triple X) → List (Pair X)
  remaining w [] ps ts = ps
  remaining w (os ∷ oss) ps ts = remaining w oss (merged w ps (products os ts)) (unused w ps ts)
