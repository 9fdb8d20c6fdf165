-- The current sheet is there, and it is whole. Assumes nothing.
use mathlib.Core.Path.{◌≡◌}
use mathlib.Core.Bool.{false}
use mathlib.Core.List.{List}
use Prim.Native.Nat.{ℕ, ◌+◌, ◌*◌, ◌≤◌, ◌<◌}
use native.Mathlib.Omega.{arith}
use native.Mathlib.Decide.{dec_le}
use native.Mathlib.Nat.{mul-le-mul_left}
use lib.ListN.{length, drop, length-drop}
use lib.Seq.{length-take-le}
use borrow.Author.Tests.{le-leb, lt-leb}
use Rattle.ways.specs.Way.{Way, way_of, sheet_size}
use Rattle.search.specs.Limit.{most_probes}
use Rattle.search.proofs.Bounds.{probing, probes_few}
use Rattle.record.specs.declared.Party.{Party}
use Rattle.record.specs.Record.{ended}
use Rattle.record.proofs.Soundness.{Sound, probe_on}
use Rattle.message.specs.Message.{sheet_words}
use Rattle.saying.specs.Say.{sheets_long, current}

-- sheets in a row
module _ (w : Way) (probes most : ℕ) (sheets : List ℕ) where
  one_more : probes < most → length sheets ≡ sheet_size w * most → sheet_size w * probes + sheet_size w ≤ length sheets
  one_more h e = omega (arith, mul-le-mul_left (sheet_size w) h)

  no_more : probes ≤ most → length sheets ≡ sheet_size w * most → sheet_size w * probes + 0 ≤ length sheets
  no_more h e = omega (arith, mul-le-mul_left (sheet_size w) h)

-- until the session is over
module _ (q : Party) (s : Sound q) (on : ended q ≡ false) where
  module _ (sheets : List ℕ) (long : length sheets ≡ sheets_long q.k q.last) where
    pub current_there : sheet_size (way_of q.last) * q.search.probes + sheet_words q ≤ length sheets
    unfolding sheet_words
    current_there =
        elim (dec_le q.round 33) [
          | yes le ↦ rw (le-leb q.round 33 le) (one_more (way_of q.last) q.search.probes (most_probes q.k) sheets (probing q.k q.search s.search (probe_on q s on le)).sheet_left long)
          | no gt ↦ rw (lt-leb q.round 33 (omega arith)) (no_more (way_of q.last) q.search.probes (most_probes q.k) sheets (probes_few q.k q.search s.search) long)
        ]

    pub current_long : length (current q sheets) ≡ sheet_words q
    unfolding current
    current_long =
        length-take-le (sheet_words q) (drop (sheet_size (way_of q.last) * q.search.probes) sheets)
        (omega (arith, current_there, length-drop (sheet_size (way_of q.last) * q.search.probes) sheets))
