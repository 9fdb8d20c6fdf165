-- What a level's messages open to. Assumes nothing.
use mathlib.Core.Path.{◌≡◌, ap, ◌∙◌}
use mathlib.Core.List.{List}
use Prim.Native.Nat.{ℕ, ◌+◌, ◌*◌, ◌≤◌, ◌<◌}
use native.Mathlib.Omega.{arith}
use lib.ListN.{length, get_or, length-map}
use Rattle.ranges.specs.Lists.{from}
use Rattle.ranges.proofs.Loops.{length_from, map_from}
use Rattle.ways.specs.Way.{tree, width}
use Rattle.round.specs.declared.Heard.{Heard}
use Rattle.round.specs.declared.Heard.TheVariants.{Sum, Factors, Verdict, Total, Unopened}
use Rattle.round.specs.Round.{heard, Possible}
use Rattle.round.proofs.Opened.{heard_possible}
use Rattle.level_round.specs.Columns.{column, column_heard, heard_sides, level_sides}

pub column_length : (n w j : ℕ) (messages : List ℕ) → length (column n w j messages) ≡ n
unfolding column
column_length n w j messages = length-map (from 0 n) (λ i. get_or messages (j + i * w) 0) ∙ length_from 0 n

pub column_at : (n w j : ℕ) (messages : List ℕ) (i : ℕ) → i < n → get_or (column n w j messages) i 0 ≡ get_or messages (j + i * w) 0
unfolding column
column_at n w j messages i h =
    let z : 0 + i ≡ i = omega arith in
    map_from (λ k. get_or messages (j + k * w) 0) 0 0 n i h ∙ ap (λ (k : ℕ). get_or messages (j + k * w) 0) z

-- what a product opens to are bytes
sides_bytes : (round : ℕ) (h : Heard) → Possible round h → ((heard_sides h).left < 256) × ((heard_sides h).right < 256)
sides_bytes round (Sum v) p = (omega arith, omega arith)
sides_bytes round (Factors d e) p = (p.2, p.3)
sides_bytes round (Verdict v) p = (omega arith, omega arith)
sides_bytes round (Total v) p = (omega arith, omega arith)
sides_bytes round Unopened p = (omega arith, omega arith)

pub heard_bytes : (n round : ℕ) (present messages : List ℕ) → 1 ≤ round
    → ((heard_sides (heard n round present messages)).left < 256) × ((heard_sides (heard n round present messages)).right < 256)
heard_bytes n round present messages h = sides_bytes round (heard n round present messages) (heard_possible n round present messages h)

module _ (n round : ℕ) (present messages : List ℕ) where
  pub sides_length : length (level_sides n round present messages) ≡ width tree round
  unfolding level_sides
  sides_length =
      length-map (from 0 (width tree round)) (λ j. heard_sides (column_heard n round present messages j)) ∙ length_from 0 (width tree round)

  pub sides_at : (j : ℕ) → j < width tree round
      → get_or (level_sides n round present messages) j (record { left = 0; right = 0 }) ≡ heard_sides (heard n round present (column n (width tree round) j messages))
  unfolding level_sides column_heard
  sides_at j h =
      let z : 0 + j ≡ j = omega arith in
      map_from (λ k. heard_sides (column_heard n round present messages k)) (record { left = 0; right = 0 }) 0 (width tree round) j h
      ∙ ap (λ (k : ℕ). heard_sides (column_heard n round present messages k)) z
