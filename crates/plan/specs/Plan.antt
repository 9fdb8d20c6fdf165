-- What the lines say: the sections in order, or the first fault. "All input is judged, in line order, before the first probe."
-- Assumes nothing.
use Rattle.std.specs.Prelude.{Bool, cond, ◌&&◌, List, [], ◌∷◌, ℕ, zero, suc, ◌+◌, ◌*◌, leb, Option, None, Some}
use Rattle.refusal.specs.declared.Refusal.{Refusal}
use Rattle.refusal.specs.declared.Refusal.TheVariants.{OutOfRange, TooManyBids, Malformed}
use Rattle.lines.specs.Lines.{Line}
use Rattle.sections.specs.declared.table.Fault.{Fault}
use Rattle.sections.specs.Sections.{next_price, table_fault}

-- "Sections, each after its count: n, then n seeds; k .., then k strictly rising prices ..; the count of bids, then 2k amounts each."
pub record Plan : Type 0 where
  pub n : ℕ
  pub seeds : List ℕ
  pub k : ℕ
  pub prices : List ℕ
  pub bids : List (List ℕ)

-- the plan, or a refusal with "the first faulty line's number"
pub data Reading : Type 0 where
  faulty : (why : Refusal) (line : ℕ) → Reading
  accepted : Plan → Reading

-- a test of a line, with the refusal where it fails
abbrev pub check : Bool → (why : Refusal) (line : ℕ) → Reading → Reading
check test why line go = cond test go (faulty why line)

-- A line that has to be there: "A misshapen, missing or extra line .. is 13", and a missing line's number is "one past the end".
unfoldable pub needed : (at : ℕ) → List Line → (ℕ → List Line → Reading) → Reading
needed at [] go = faulty Malformed at
needed at (None ∷ ls) go = faulty Malformed at
needed at (Some v ∷ ls) go = go v ls

-- m such lines
unfoldable pub many : (m at : ℕ) → List Line → (List ℕ → List Line → Reading) → Reading
many zero at ls go = go [] ls
many (suc m) at ls go = needed at ls (λ v ls. many m (at + 1) ls (λ vs ls. go (v ∷ vs) ls))

-- k prices: "a bad price, is 13"
unfoldable pub prices : (k last at : ℕ) → List Line → (List ℕ → List Line → Reading) → Reading
prices zero last at ls go = go [] ls
prices (suc k) last at ls go =
    needed at ls (λ v ls. check (next_price last v) Malformed at (prices k v (at + 1) ls (λ vs ls. go (v ∷ vs) ls)))

unfoldable pub or_fault : Option Fault → Reading → Reading
or_fault None go = go
or_fault (Some fault) go = faulty fault.refusal fault.line

-- the bids: "within it 13 comes first, then 6, then 7"
unfoldable pub bids : (k m at : ℕ) → List Line → (List (List ℕ) → List Line → Reading) → Reading
bids k zero at ls go = go [] ls
bids k (suc m) at ls go =
    many (2 * k) at ls
    (λ table ls. or_fault (table_fault k at table) (bids k m (at + 2 * k) ls (λ tables ls. go (table ∷ tables) ls)))

-- no line is left
unfoldable pub ending : (at : ℕ) → List Line → Reading → Reading
ending at [] go = go
ending at (l ∷ ls) go = faulty Malformed at

-- the count of bids, "above 1,000 is 4 at its line", and all that follows it
unfoldable pub read_bids : (n : ℕ) (seeds : List ℕ) (k : ℕ) (prices : List ℕ) → List Line → Reading
read_bids n seeds k prices ls =
    needed (n + k + 3) ls (λ m ls.
    check (leb m 1000) TooManyBids (n + k + 3)
    (bids k m (n + k + 4) ls (λ tables ls.
    ending (n + k + 4 + m * (2 * k)) ls
    (accepted (record { n = n; seeds = seeds; k = k; prices = prices; bids = tables })))))

-- "k (here at most 256)", and all that follows it
unfoldable pub read_prices : (n : ℕ) (seeds : List ℕ) → List Line → Reading
read_prices n seeds ls =
    needed (n + 2) ls (λ k ls.
    check (leb 1 k && leb k 256) OutOfRange (n + 2)
    (prices k 0 (n + 3) ls (λ prices ls.
    read_bids n seeds k prices ls)))

-- "n is 3 to 9"
unfoldable pub read : List Line → Reading
read ls =
    needed 1 ls (λ n ls.
    check (leb 3 n && leb n 9) OutOfRange 1
    (many n 2 ls (λ seeds ls.
    read_prices n seeds ls)))
