-- What holds at each turn of the loops of `open_by_rows`. Assumes nothing.
use mathlib.Core.Path.{◌≡◌}
use lib.Dec.{ltb}
use Rattle.level_round.proofs.Words.{low_from, high_from, small_from}
use Rattle.level_round.proofs.Messages.open_by_rows.Given as goal

abbrev pub invariant-loop-i : goal.invariant-loop-i
invariant-loop-i l =
    (l.low ≡ low_from l.self.n l.self.w l.j l.self.words.now l.i) × (l.high ≡ high_from l.self.n l.self.w l.j l.self.words.now l.i)
    × (ltb l.bits 65536 ≡ small_from l.self.n l.self.w l.j l.self.words.now l.i)
