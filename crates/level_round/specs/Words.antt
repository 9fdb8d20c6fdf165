-- One number for what a product opens to. Assumes nothing.
use Rattle.std.specs.Prelude.{List, map, ℕ, ◌+◌, ◌*◌, ◌/◌, ◌%◌, ◌<◌, None, Some}
use Rattle.ranges.specs.Lists.{from}
use Rattle.weights.specs.Rows.{byte_scheme}
use Rattle.openings.specs.Opening.{Opening}
use Rattle.present_openings.specs.Present.{opened_by}
use Rattle.comparison.specs.Pairs.{Sides}
use Rattle.level_round.specs.Columns.{column}

-- D plus 256 times E, or 65,536 where the low bytes or the high parts do not open
abbrev pub product_word : (low high : Opening) → ℕ
product_word (Some d) (Some e) = d + 256 * e
product_word (Some d) None = 65536
product_word None high = 65536

-- its two sides, where it is below that
abbrev pub word_sides : ℕ → Sides ℕ
word_sides v = record { left = v % 256; right = v / 256 }

-- a secret that is a byte
abbrev pub IsByte : Opening → Type 0
IsByte (Some v) = v < 256
IsByte None = Unit {0}

-- of one product, and of all w
unfoldable pub column_word : (n w : ℕ) (present messages : List ℕ) (j : ℕ) → ℕ
column_word n w present messages j =
    product_word (opened_by byte_scheme n present (map (λ v. v % 256) (column n w j messages)))
    (opened_by byte_scheme n present (map (λ v. v / 256) (column n w j messages)))

unfoldable pub column_words : (n w : ℕ) (present messages : List ℕ) → List ℕ
column_words n w present messages = map (column_word n w present messages) (from 0 w)
