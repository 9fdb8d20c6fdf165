-- What holds at each turn of the loops of `open_all`. Assumes nothing.
use mathlib.Core.Path.{◌≡◌}
use lib.ListN.{length, take}
use Rattle.presence.specs.Presence.{everyone}
use Rattle.level_round.specs.Words.{column_words}
use Rattle.level_round.proofs.Messages.open_all.Given as goal

abbrev pub invariant-loop-j : goal.invariant-loop-j
invariant-loop-j l =
    (length l.products ≡ l.self.w) × (take l.j l.products ≡ take l.j (column_words l.self.n l.self.w (everyone l.self.n) l.self.words.now))
