-- Rows that products of bytes are read from. Assumes nothing.
use Rattle.std.specs.Prelude.{List, map, ℕ}
use Rattle.ranges.specs.Lists.{from}
use Rattle.fields.specs.Byte.{product}

-- every product of a byte, by 0 to 255 in turn
unfoldable pub multiples : ℕ → List ℕ
multiples a = map (product a) (from 0 256)
