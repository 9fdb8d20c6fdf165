-- The inverses of differences of points, which Fields tests. Assumes nothing.
use Rattle.std.specs.Prelude.{ℕ, ◌-◌, cond, List, [], ◌∷◌, nat_lt, slice_index}
use Rattle.fields.specs.Amount.{amounts}
use Rattle.fields.specs.Byte.{xor}

-- modulo p, of 1 to 9
abbrev pub amount_inverses : List ℕ
amount_inverses =
    0 ∷ 1 ∷ 1152921504606846976 ∷ 1537228672809129301 ∷ 576460752303423488 ∷ 1844674407370955161 ∷ 1921535841011411626
    ∷ 1976436865040309101 ∷ 288230376151711744 ∷ 2049638230412172401 ∷ []

-- the inverse of i - j: that of a small number, or its negative
unfoldable pub amount_gap : ℕ → ℕ → ℕ
amount_gap i j = cond (nat_lt j i) (slice_index amount_inverses (i - j)) (amounts.neg (slice_index amount_inverses (j - i)))

-- of the bytes 1 to 15
abbrev pub byte_inverses : List ℕ
byte_inverses = 0 ∷ 1 ∷ 141 ∷ 246 ∷ 203 ∷ 82 ∷ 123 ∷ 209 ∷ 232 ∷ 79 ∷ 41 ∷ 192 ∷ 176 ∷ 225 ∷ 229 ∷ 199 ∷ []

-- the inverse of i - j, which is the exclusive or of i and j, at most 15
unfoldable pub byte_gap : ℕ → ℕ → ℕ
byte_gap i j = slice_index byte_inverses (xor i j)
