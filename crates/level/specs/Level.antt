-- A level of a probe in seven rounds, as a party makes it: of T, the pair shares that it keeps and the probe's sheet. Assumes nothing.
use Rattle.std.specs.Prelude.{◌≡◌, true, cond, List, [], ◌∷◌, ◌++◌, map, ℕ, ◌+◌, ◌-◌, ◌*◌, ◌%◌, ◌≤◌, ltb, eqb, length, take, drop, get_or, replicate}
use Rattle.fields.specs.Byte.{bytes}
use Rattle.ranges.specs.Lists.{every}
use Rattle.ways.specs.Way.{tree, width}
use Rattle.comparison.specs.Local.{on_shares}
use Rattle.comparison.specs.Rounds.{both}
use Rattle.comparison.specs.Pairs.{Pair, Triple, Sides, first_pairs, sides, said_of, multiplied, products, merged}

-- words that are pairs, top before bottom, and words that are triples: alpha, beta, gamma
unfoldable pub pairs_read : List ℕ → List (Pair ℕ)
pairs_read [] = []
pairs_read (x ∷ []) = []
pairs_read (x ∷ y ∷ ws) = record { top = x; bottom = y } ∷ pairs_read ws

unfoldable pub pair_words : List (Pair ℕ) → List ℕ
pair_words [] = []
pair_words (p ∷ ps) = p.top ∷ p.bottom ∷ pair_words ps

unfoldable pub triples_read : List ℕ → List (Triple ℕ)
triples_read [] = []
triples_read (a ∷ []) = []
triples_read (a ∷ b ∷ []) = []
triples_read (a ∷ b ∷ g ∷ ws) = record { alpha = a; beta = b; gamma = g } ∷ triples_read ws

-- The pairs that a level starts from: in round 2 the 32 that T and the mask's bits make, later those that are kept, as many as words are
-- said.
unfoldable pub level_pairs : (round sum : ℕ) (kept sheet : List ℕ) → List (Pair ℕ)
level_pairs round sum kept sheet =
    cond (eqb round 2) (first_pairs (on_shares bytes) sum (take 32 (drop 1 sheet))) (pairs_read (take (2 * width tree round) kept))

-- "triples go likewise": of 62 the levels before have used 64 less twice the words that are said
unfoldable pub level_triples : (round : ℕ) (sheet : List ℕ) → List (Triple ℕ)
level_triples round sheet = triples_read (drop (34 + 3 * (64 - 2 * width tree round)) sheet)

-- "the word is d plus 256 times e"
abbrev pub side_word : Sides ℕ → ℕ
side_word s = both s.left s.right

-- "a level's words are said together in list order"
unfoldable pub level_words : (round sum : ℕ) (kept sheet : List ℕ) → List ℕ
level_words round sum kept sheet =
    map side_word (said_of (on_shares bytes) (sides (on_shares bytes) tree (level_pairs round sum kept sheet)) (level_triples round sheet))

-- the pair shares that are kept after it, where it opens to these; 0 where there is none
unfoldable pub level_kept : (round sum : ℕ) (kept sheet : List ℕ) → List (Sides ℕ) → List ℕ
level_kept round sum kept sheet opened =
    take 32
    (pair_words (merged (on_shares bytes) tree (level_pairs round sum kept sheet) (products (on_shares bytes) opened (level_triples round sheet)))
    ++ replicate 32 0)

-- one of them, where its product is opened to d and e: after a top product the share of it, after a bottom one Y is added
abbrev pub no_pair : Pair ℕ
no_pair = record { top = 0; bottom = 0 }

abbrev pub no_triple : Triple ℕ
no_triple = record { alpha = 0; beta = 0; gamma = 0 }

unfoldable pub next_word : (round sum : ℕ) (kept sheet : List ℕ) (j d e : ℕ) → ℕ
next_word round sum kept sheet j d e =
    let product = multiplied (on_shares bytes) (record { left = d; right = e }) (get_or (level_triples round sheet) j no_triple) in
    cond (eqb (j % 2) 0) product (bytes.add product (get_or (level_pairs round sum kept sheet) j no_pair).bottom)

-- what a party has, once refusals 1, 2 and 8 are out
pub record Ready (round : ℕ) (kept sheet : List ℕ) : Type 0 where
  pub least : 2 ≤ round
  pub most : round ≤ 6
  pub kept_long : length kept ≡ 32
  pub kept_bytes : every (λ w. ltb w 256) kept ≡ true
  pub sheet_long : length sheet ≡ 220
  pub sheet_bytes : every (λ w. ltb w 256) (drop 1 sheet) ≡ true
