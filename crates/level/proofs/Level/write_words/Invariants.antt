-- What holds at each turn of the loops of `write_words`. Assumes nothing.
use mathlib.Core.Path.{◌≡◌}
use lib.ListN.{length, take}
use Rattle.ways.specs.Way.{tree, width}
use Rattle.level.specs.Level.{level_words}
use Rattle.level.proofs.Level.write_words.Given as goal

abbrev pub invariant-loop-j : goal.invariant-loop-j
invariant-loop-j l =
    (length l.said ≡ width tree l.self.round) × (take l.j l.said ≡ take l.j (level_words l.self.round l.self.sum l.self.kept.now l.self.sheet.now))
