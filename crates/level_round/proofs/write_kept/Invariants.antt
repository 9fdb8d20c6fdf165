-- What holds at each turn of the loops of `write_kept`. Assumes nothing.
use mathlib.Core.Path.{◌≡◌}
use mathlib.Core.List.{map}
use lib.ListN.{length, take}
use Rattle.ways.specs.Way.{tree, width}
use Rattle.level.specs.Level.{level_kept}
use Rattle.level_round.specs.Words.{word_sides}
use Rattle.level_round.proofs.write_kept.Given as goal

abbrev pub invariant-loop-j : goal.invariant-loop-j
invariant-loop-j l =
    (length l.words ≡ width tree l.level.round)
    × (take l.j l.words ≡ take l.j (level_kept l.level.round l.level.sum l.level.kept.now l.level.sheet.now (map word_sides l.products)))
