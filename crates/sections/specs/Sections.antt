-- The sections of the input: the first fault of each, from the numbers or the bytes that it is read from. Assumes nothing.
use Rattle.std.specs.Prelude.{Bool, cond, not, ◌&&◌, List, [], ◌∷◌, ℕ, zero, suc, ◌+◌, ◌*◌, leb, ltb, eqb, take, drop, Option, None, Some, Result, Ok, Err}
use Rattle.std.specs.Int.Bits.{bit_xor}
use Rattle.refusal.specs.declared.Refusal.{Refusal}
use Rattle.refusal.specs.declared.Refusal.TheVariants.{AmountTooLarge, NotMonotone, Malformed}
use Rattle.ranges.specs.Lists.{every}
use Rattle.ranges.specs.Sizes.{highest_price}
use Rattle.ranges.specs.Steps.{bend, never_rising, never_falling}
use Rattle.bid.specs.Table.{most}
use Rattle.lines.specs.Lines.{numbers, formed, past}
use Rattle.sections.specs.declared.table.Fault.{Fault}

-- ---- of numbers

-- "the seeds' exclusive or"
unfoldable pub xor_of : List ℕ → ℕ
xor_of [] = 0
xor_of (x ∷ xs) = bit_xor x (xor_of xs)

-- a price that is above the last one and "1 to 1,000,000 pence"; the first comes after 0
abbrev pub next_price : (last price : ℕ) → Bool
next_price last price = ltb last price && leb price highest_price

-- how many prices rise before the first that does not
unfoldable pub rising : (last : ℕ) → List ℕ → ℕ
rising last [] = 0
rising last (x ∷ xs) = cond (next_price last x) (suc (rising x xs)) 0

-- how many numbers pass a test before the first that does not
unfoldable pub passed : (ℕ → Bool) → List ℕ → ℕ
passed test [] = 0
passed test (x ∷ xs) = cond (test x) (suc (passed test xs)) 0

-- a refusal, and the line that it names
abbrev pub at_line : (why : Refusal) (line : ℕ) → Fault
at_line why line = record { refusal = why; line = line }

-- Of a bid that begins at a line and was "read whole before judging": 6 at the first amount that is too large, "then 7", at "the later
-- amount", of the demand and then of the supply.
unfoldable pub table_fault : (k line : ℕ) → List ℕ → Option Fault
table_fault k line table =
    cond (not (every (λ a. leb a most) table)) (Some (at_line AmountTooLarge (line + passed (λ a. leb a most) table)))
    (cond (not (never_rising (take k table))) (Some (at_line NotMonotone (line + bend (λ x y. leb y x) (take k table))))
    (cond (not (never_falling (drop k table))) (Some (at_line NotMonotone (line + (k + bend leb (drop k table)))))
    None))

-- ---- of bytes

-- how many of k prices that come after the last are good before the first that is not
abbrev pub good_prices : (k last : ℕ) → List ℕ → ℕ
good_prices k last bytes = rising last (take (formed k bytes) (numbers k bytes))

-- m tables, one after another
unfoldable pub tables : (k m : ℕ) → List ℕ → List (List ℕ)
tables k zero bytes = []
tables k (suc m) bytes = numbers (2 * k) bytes ∷ tables k m (past (2 * k) bytes)

-- the first fault of a bid, and of m bids
unfoldable pub bid_fault : (k line : ℕ) → List ℕ → Option Fault
bid_fault k line bytes =
    cond (eqb (formed (2 * k) bytes) (2 * k)) (table_fault k line (numbers (2 * k) bytes)) (Some (at_line Malformed (line + formed (2 * k) bytes)))

unfoldable pub or_else : Option Fault → Option Fault → Option Fault
or_else None next = next
or_else (Some fault) next = Some fault

unfoldable pub bids_fault : (k m line : ℕ) → List ℕ → Option Fault
bids_fault k zero line bytes = None
bids_fault k (suc m) line bytes = or_else (bid_fault k line bytes) (bids_fault k m (line + 2 * k) (past (2 * k) bytes))

-- what is found, unless there is a fault
abbrev pub unless : {A : Type 0} → Option Fault → A → Result A Fault
unless None x = Ok x
unless (Some fault) x = Err fault
