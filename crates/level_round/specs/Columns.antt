-- What a level's messages open to, product by product: each is judged as a round 2 to 32. Assumes nothing.
use Rattle.std.specs.Prelude.{Bool, not, List, map, ℕ, ◌+◌, ◌*◌, get_or}
use Rattle.ranges.specs.Lists.{from, every}
use Rattle.ways.specs.Way.{tree, width}
use Rattle.comparison.specs.Pairs.{Sides}
use Rattle.round.specs.declared.Heard.{Heard}
use Rattle.round.specs.declared.Heard.TheVariants.{Sum, Factors, Verdict, Total, Unopened}
use Rattle.round.specs.Round.{heard, unopened}

-- "Heard words stand keeper by keeper", each one's w words together: the word that each of n says of product j, which counts from 0
unfoldable pub column : (n w j : ℕ) → List ℕ → List ℕ
column n w j messages = map (λ i. get_or messages (j + i * w) 0) (from 0 n)

unfoldable pub column_heard : (n round : ℕ) (present messages : List ℕ) (j : ℕ) → Heard
column_heard n round present messages j = heard n round present (column n (width tree round) j messages)

-- D and E; nothing else is opened in a level
abbrev pub heard_sides : Heard → Sides ℕ
heard_sides (Sum v) = record { left = 0; right = 0 }
heard_sides (Factors d e) = record { left = d; right = e }
heard_sides (Verdict v) = record { left = 0; right = 0 }
heard_sides (Total v) = record { left = 0; right = 0 }
heard_sides Unopened = record { left = 0; right = 0 }

-- whether every product opens, and what they open to
unfoldable pub level_opened : (n round : ℕ) (present messages : List ℕ) → Bool
level_opened n round present messages = every (λ j. not (unopened (column_heard n round present messages j))) (from 0 (width tree round))

unfoldable pub level_sides : (n round : ℕ) (present messages : List ℕ) → List (Sides ℕ)
level_sides n round present messages = map (λ j. heard_sides (column_heard n round present messages j)) (from 0 (width tree round))
