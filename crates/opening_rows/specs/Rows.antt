-- What a party's byte brings to all sums of an opening of bytes, and rows of it. Assumes nothing.
use Rattle.std.specs.Prelude.{◌≡◌, List, [], ◌∷◌, ℕ, ◌+◌, ◌-◌, ◌*◌, ◌≤◌, ◌<◌, length, get_or}
use Rattle.fields.specs.Byte.{xor, bytes}
use Rattle.sharing.specs.Scheme.{threshold}
use Rattle.weights.specs.Rows.{byte_rows}
use Rattle.openings.specs.Opening.{moments}
use Rattle.openings.specs.Packed.{packed}

-- what a byte with its weight brings to so many sums, in one word
unfoldable pub terms : (weight point count byte : ℕ) → ℕ
terms weight point count byte = packed (moments bytes count (point ∷ []) (bytes.mul weight byte ∷ []))

-- what a byte of party i + 1 of n brings
abbrev pub brought : (n i byte : ℕ) → ℕ
brought n i byte = terms (get_or (get_or byte_rows (n - 3) []) i 0) (i + 1) (n - threshold n) byte

-- the first `size` entries of a row are what the bytes 0, unit, 2 unit, .. bring
pub record RowTo (size weight unit point count : ℕ) (row : List ℕ) : Type 0 where
  pub long : length row ≡ 16
  pub entries : (k : ℕ) → k < size → get_or row k 0 ≡ terms weight point count (unit * k)

-- for each of the first m of n parties two rows of 16: what 0, 1, .. 15 bring, and what 0, 16, .. 240 bring
pub record RowsTo (m n : ℕ) (rows : List ℕ) : Type 0 where
  pub least : 3 ≤ n
  pub most : n ≤ 9
  pub long : length rows ≡ 288
  pub low : (i k : ℕ) → i < m → k < 16 → get_or rows (32 * i + k) 0 ≡ brought n i k
  pub high : (i k : ℕ) → i < m → k < 16 → get_or rows (32 * i + 16 + k) 0 ≡ brought n i (16 * k)

abbrev pub RowsOf : ℕ → List ℕ → Type 0
RowsOf n rows = RowsTo n n rows

-- what is read from the rows of n parties, whatever n is
abbrev pub Brings : (rows : List ℕ) (i byte r : ℕ) → Type 0
Brings rows i byte r = (n : ℕ) → RowsOf n rows → i < n → r ≡ brought n i byte

-- entries 0 to size - 1 stay, and those after them are the same with the term added
pub record Doubled (size term : ℕ) (row made : List ℕ) : Type 0 where
  pub long : length made ≡ length row
  pub stays : (k : ℕ) → k < size → get_or made k 0 ≡ get_or row k 0
  pub added : (k : ℕ) → k < size → get_or made (size + k) 0 ≡ xor (get_or row k 0) term

-- a row's multiples: k unit and size unit have no bit in common
abbrev pub Apart : (unit size : ℕ) → Type 0
Apart unit size = (k : ℕ) → k < size → xor (unit * k) (unit * size) ≡ unit * (size + k)

abbrev pub Spread : ℕ → Type 0
Spread unit = Apart unit 1 × Apart unit 2 × Apart unit 4 × Apart unit 8
