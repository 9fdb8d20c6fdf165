-- The roll of bidders: "a roll of who is in". Assumes nothing.
use Rattle.std.specs.Prelude.{Bool, not, ◌&&◌, ◌∷◌, ℕ, ◌/◌, ◌%◌, ◌^◌, leb, eqb, get_or, set, replicate}
use Rattle.std.specs.Int.Bits.{bit_or}
use Rattle.ranges.specs.Lists.{from, every, count}
use Rattle.ranges.specs.Sizes.{long}
use Rattle.roll.specs.declared.Roll.{Roll}

-- "a bidder number, 1 to 1,000"
abbrev pub is_bidder : ℕ → Bool
is_bidder b = leb 1 b && leb b 1000

-- is bit i of a word set, the lowest being bit 0?
abbrev pub is_set : (word i : ℕ) → Bool
is_set word i = eqb (word / 2 ^ i % 2) 1

-- bidder b's mark is bit b % 64 of word b / 64
unfoldable pub marked : Roll → (b : ℕ) → Bool
marked roll b = is_set (get_or roll.words (b / 64) 0) (b % 64)

-- "the number of marks on the roll", which has 64 places a word
unfoldable pub marks : Roll → ℕ
marks roll = count (marked roll) 1024

-- A roll is 16 words and marks bidders alone: place 0 is nobody's, and so are the 23 places past bidder 1,000.
unfoldable pub proper : Roll → Bool
proper roll = long 16 roll.words && every (λ b. not (marked roll b)) (0 ∷ from 1001 23)

-- nobody is in
unfoldable pub empty : Roll
empty = record { words = replicate 16 0 }

-- one bidder more is in
unfoldable pub mark : Roll → (b : ℕ) → Roll
mark roll b = record { words = set roll.words (b / 64) (bit_or (get_or roll.words (b / 64) 0) (2 ^ (b % 64))) }
