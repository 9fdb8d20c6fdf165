-- What holds at each turn of the loops of `open_column`. Assumes nothing.
use mathlib.Core.Path.{◌≡◌}
use lib.ListN.{length, take}
use Rattle.level_round.specs.Columns.{column}
use Rattle.level_round.proofs.Messages.open_column.Given as goal

abbrev pub invariant-loop-i : goal.invariant-loop-i
invariant-loop-i l = (length l.word-items ≡ l.self.n) × (take l.i l.word-items ≡ take l.i (column l.self.n l.self.w l.j l.self.words.now))
