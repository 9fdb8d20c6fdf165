-- `current` meets its contract. Assumes nothing.
use mathlib.Core.Path.{◌≡◌, ap₂, ◌∙◌}
use mathlib.Core.List.{List}
use Prim.Native.Nat.{ℕ, ◌+◌, ◌-◌, ◌*◌, ◌≤◌}
use native.Mathlib.Omega.{arith}
use lib.ListN.{take, drop}
use Rattle.ways.specs.Way.{Way, sheet_size}
use Rattle.saying.specs.Say.{current}
use Rattle.ways.proofs.Laws.{sheets_least}
use Rattle.saying.proofs.sheet.current.Goals as goal

-- a part of so many words
part : (from words : ℕ) (sheets : List ℕ) → take (from + words - from) (drop from sheets) ≡ take words (drop from sheets)
part from words sheets =
    let e : from + words - from ≡ words = omega arith in
    rw e

-- so many sheets stand before a part of the slice, and none is shorter than 127 words
least : (w : Way) (count words long : ℕ) → sheet_size w * count + words ≤ long → 127 * count ≤ long
least w count words long e = omega (arith, e, sheets_least w count)

pub sheets_words-from-requires : goal.sheets_words-from-requires
sheets_words-from-requires c = omega (arith, least _ _ _ _ c.requires)

pub returns : goal.returns
unfolding current
returns c =
    let a = c.args in
    part c.sheets_words-from.result c.sheet_words.result a.sheets.now
    ∙ ap₂ (λ (n m : ℕ). take n (drop m a.sheets.now)) c.sheet_words.ensures c.sheets_words-from.ensures
