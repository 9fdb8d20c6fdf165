-- In each field the weights of an opening: "The weights stand in rows, one for each keeper count." Assumes nothing.
use Rattle.std.specs.Prelude.{List, [], ◌∷◌, ℕ, ◌-◌, take, get_or}
use Rattle.fields.specs.Ring.{Ops}
use Rattle.fields.specs.Amount.{p, amounts}
use Rattle.fields.specs.Byte.{bytes}
use Rattle.fields.specs.Gap.{amount_gap, byte_gap}

-- a field to share in, with the weights of n parties in row n - 3
pub record Scheme : Type 0 where
  pub ops : Ops ℕ
  pub size : ℕ
  -- the inverse of a difference of points
  pub gap : ℕ → ℕ → ℕ
  pub rows : List (List ℕ)

abbrev pub weights : Scheme → ℕ → List ℕ
weights S n = take n (get_or S.rows (n - 3) [])

abbrev minus : ℕ → ℕ
minus k = p - k

-- modulo p: binomial coefficients with alternating signs, each row filled up with 0
abbrev pub amount_rows : List (List ℕ)
amount_rows =
    (3 ∷ minus 3 ∷ 1 ∷ 0 ∷ 0 ∷ 0 ∷ 0 ∷ 0 ∷ 0 ∷ [])
    ∷ (4 ∷ minus 6 ∷ 4 ∷ minus 1 ∷ 0 ∷ 0 ∷ 0 ∷ 0 ∷ 0 ∷ [])
    ∷ (5 ∷ minus 10 ∷ 10 ∷ minus 5 ∷ 1 ∷ 0 ∷ 0 ∷ 0 ∷ 0 ∷ [])
    ∷ (6 ∷ minus 15 ∷ 20 ∷ minus 15 ∷ 6 ∷ minus 1 ∷ 0 ∷ 0 ∷ 0 ∷ [])
    ∷ (7 ∷ minus 21 ∷ 35 ∷ minus 35 ∷ 21 ∷ minus 7 ∷ 1 ∷ 0 ∷ 0 ∷ [])
    ∷ (8 ∷ minus 28 ∷ 56 ∷ minus 70 ∷ 56 ∷ minus 28 ∷ 8 ∷ minus 1 ∷ 0 ∷ [])
    ∷ (9 ∷ minus 36 ∷ 84 ∷ minus 126 ∷ 126 ∷ minus 84 ∷ 36 ∷ minus 9 ∷ 1 ∷ [])
    ∷ []

abbrev pub byte_rows : List (List ℕ)
byte_rows =
    (1 ∷ 1 ∷ 1 ∷ 0 ∷ 0 ∷ 0 ∷ 0 ∷ 0 ∷ 0 ∷ [])
    ∷ (83 ∷ 247 ∷ 105 ∷ 204 ∷ 0 ∷ 0 ∷ 0 ∷ 0 ∷ 0 ∷ [])
    ∷ (1 ∷ 208 ∷ 208 ∷ 209 ∷ 209 ∷ 0 ∷ 0 ∷ 0 ∷ 0 ∷ [])
    ∷ (208 ∷ 184 ∷ 105 ∷ 104 ∷ 185 ∷ 209 ∷ 0 ∷ 0 ∷ 0 ∷ [])
    ∷ (1 ∷ 1 ∷ 1 ∷ 1 ∷ 1 ∷ 1 ∷ 1 ∷ 0 ∷ 0 ∷ [])
    ∷ (78 ∷ 83 ∷ 90 ∷ 247 ∷ 73 ∷ 105 ∷ 98 ∷ 243 ∷ 0 ∷ [])
    ∷ (1 ∷ 65 ∷ 65 ∷ 57 ∷ 57 ∷ 83 ∷ 83 ∷ 42 ∷ 42 ∷ [])
    ∷ []

abbrev pub amount_scheme : Scheme
amount_scheme = record { ops = amounts; size = p; gap = amount_gap; rows = amount_rows }

abbrev pub byte_scheme : Scheme
byte_scheme = record { ops = bytes; size = 256; gap = byte_gap; rows = byte_rows }
