-- What judging the bytes of the input finds. Assumes nothing.
use Rattle.std.specs.Prelude.{List, ℕ, ◌+◌, length, Result, Ok, Err}
use Rattle.plan.specs.declared.judging.Shape.{Shape}
use Rattle.lines.specs.Lines.{lines, numbers, bytes_of, past}
use Rattle.sections.specs.declared.table.Fault.{Fault}
use Rattle.sections.specs.Sections.{at_line, xor_of}
use Rattle.plan.specs.Plan.{Plan, Reading, faulty, accepted, read}

-- an accepted plan: its counts, the seeds' exclusive or, and how many bytes stand before its prices and before its bids
abbrev pub shape_of : List ℕ → Plan → Shape
shape_of bytes p = record {
  n = p.n;
  seed = xor_of p.seeds;
  k = p.k;
  bids = length p.bids;
  prices_at = bytes_of (p.n + 2) bytes;
  bids_at = bytes_of (p.n + p.k + 3) bytes;
}

unfoldable pub as_judged : List ℕ → Reading → Result Shape Fault
as_judged bytes (faulty why line) = Err (at_line why line)
as_judged bytes (accepted p) = Ok (shape_of bytes p)

abbrev pub judged_as : List ℕ → Result Shape Fault
judged_as bytes = as_judged bytes (read (lines bytes))

-- ---- the sections of an input, read again

abbrev pub seeds_of : ℕ → List ℕ → List ℕ
seeds_of n bytes = numbers n (past 1 bytes)

abbrev pub prices_of : (n k : ℕ) → List ℕ → List ℕ
prices_of n k bytes = numbers k (past (n + 2) bytes)
