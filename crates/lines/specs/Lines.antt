-- The lines of the input: "whole numbers, one a line ending in a newline, no leading zeros, at most 2^64 - 1". Assumes nothing.
use Rattle.std.specs.Prelude.{cond, List, [], ◌∷◌, ℕ, zero, suc, ◌+◌, ◌-◌, ◌*◌, ◌^◌, ltb, eqb, drop, Option, Some, None, unwrap_or, is_some}
use Rattle.decimal.specs.Decimal.{digit}
use Rattle.lines.specs.declared.line.Part.{Part}
use Rattle.lines.specs.declared.line.Part.TheVariants.{Empty, Digits, Bad}

abbrev pub newline : ℕ
newline = 10

-- A part of a line and one digit more: a part that is 0 stays alone ("no leading zeros"), and none grows past 2^64 - 1.
unfoldable pub with_digit : Part → ℕ → Part
with_digit Empty d = Digits d
with_digit (Digits v) d = cond (eqb v 0) Bad (cond (ltb (2 ^ 64 - 1) (10 * v + d)) Bad (Digits (10 * v + d)))
with_digit Bad d = Bad

unfoldable pub grown : Part → ℕ → Part
grown part b = cond (digit b) (with_digit part (b - 48)) Bad

-- a line: its number, or none where it is misshapen
abbrev pub Line : Type 0
Line = Option ℕ

-- the line, once its newline is read
abbrev pub ended : Part → Line
ended Empty = None
ended (Digits v) = Some v
ended Bad = None

-- The lines of the bytes that follow a part of a line. What no newline ends is a line too, and misshapen.
unfoldable pub lines_after : Part → List ℕ → List Line
lines_after Empty [] = []
lines_after (Digits v) [] = None ∷ []
lines_after Bad [] = None ∷ []
lines_after part (b ∷ bytes) = cond (eqb b newline) (ended part ∷ lines_after Empty bytes) (lines_after (grown part b) bytes)

abbrev pub lines : List ℕ → List Line
lines bytes = lines_after Empty bytes

-- ---- the same lines, one at a time, for reading again

-- the line that a part and the bytes after it make; no bytes are no number
unfoldable pub line_after : Part → List ℕ → Line
line_after part [] = None
line_after part (b ∷ bytes) = cond (eqb b newline) (ended part) (line_after (grown part b) bytes)

abbrev pub first_line : List ℕ → Line
first_line bytes = line_after Empty bytes

-- how many bytes it takes, with its newline
unfoldable pub line_length : List ℕ → ℕ
line_length [] = 0
line_length (b ∷ bytes) = suc (cond (eqb b newline) 0 (line_length bytes))

abbrev pub rest : List ℕ → List ℕ
rest bytes = drop (line_length bytes) bytes

-- the numbers of the first m lines, 0 for a misshapen one, how many bytes these take, and how many of them are numbers before the first that is not
unfoldable pub numbers : ℕ → List ℕ → List ℕ
numbers zero bytes = []
numbers (suc m) bytes = unwrap_or (first_line bytes) 0 ∷ numbers m (rest bytes)

unfoldable pub bytes_of : ℕ → List ℕ → ℕ
bytes_of zero bytes = 0
bytes_of (suc m) bytes = line_length bytes + bytes_of m (rest bytes)

unfoldable pub formed : ℕ → List ℕ → ℕ
formed zero bytes = 0
formed (suc m) bytes = cond (is_some (first_line bytes)) (suc (formed m (rest bytes))) 0

-- what follows the first m lines
abbrev pub past : ℕ → List ℕ → List ℕ
past m bytes = drop (bytes_of m bytes) bytes

-- the price of an index, counted from 1, in the bytes where the prices begin
abbrev pub price_of : (index : ℕ) → List ℕ → ℕ
price_of index bytes = unwrap_or (first_line (past (index - 1) bytes)) 0
