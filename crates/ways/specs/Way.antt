-- The two ways to a verdict, and what is counted by the way. Assumes nothing.
use Rattle.std.specs.Prelude.{Bool, ◌||◌, ◌&&◌, cond, ℕ, zero, suc, ◌+◌, ◌-◌, ◌*◌, ◌/◌, ◌^◌, eqb, leb}

-- "The session chooses 33 or 7 as the last round of its probes": the pairs merged one by one from the left, or neighbours at once
pub data Way : Type 0 where
  chain : Way
  tree : Way

-- "another .. is 1"
unfoldable pub is_way : ℕ → Bool
is_way last = eqb last 33 || eqb last 7

unfoldable pub way_of : ℕ → Way
way_of last = cond (eqb last 7) tree chain

unfoldable pub last_round : Way → ℕ
last_round chain = 33
last_round tree = 7

-- the rounds between the first and the last, in each of which the pairs become fewer
unfoldable pub levels_of : Way → ℕ
levels_of chain = 31
levels_of tree = 5

unfoldable pub triples_of : Way → ℕ
triples_of chain = 31
triples_of tree = 62

-- how many products a level of so many pairs has: one, or "two products to each pair operation"
unfoldable pub uses : Way → ℕ → ℕ
uses chain zero = 0
uses chain (suc zero) = 0
uses chain (suc (suc m)) = 1
uses tree m = m / 2 * 2

-- how many pairs it leaves
unfoldable pub leaves : Way → ℕ → ℕ
leaves chain m = m - uses chain m
leaves tree m = m - m / 2

-- "keeper j's sheet of 127 words", or "1 + 33 + 186 words"
unfoldable pub sheet_size : Way → ℕ
sheet_size w = 34 + 3 * triples_of w

-- "126t + 62 bytes", or "219t + 124 drawn bytes": t for each of 33 bits, and 2 + 3t for each triple
unfoldable pub drawn_size : Way → ℕ → ℕ
drawn_size w t = 33 * t + triples_of w * (2 + 3 * t)

-- how many words a party says in a round: 1, or 1, 32, 16, 8, 4, 2, 1
unfoldable pub width : Way → ℕ → ℕ
width chain i = 1
width tree i = cond (leb 2 i && leb i 7) (128 / 2 ^ i) 1
