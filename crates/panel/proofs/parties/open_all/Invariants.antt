-- What holds at each turn of the loops of `open_all`. Assumes nothing.
use Prim.Native.Nat.{◌+◌, ◌*◌}
use Rattle.record.specs.Record.{blank}
use Rattle.session.specs.Open.{open_reply, open_left}
use Rattle.panel.specs.Parties.{part}
use Rattle.panel.proofs.Parts.{Spread, Rowed}
use Rattle.panel.proofs.parties.open_all.Given as goal

abbrev pub invariant-loop-i : goal.invariant-loop-i
invariant-loop-i l =
    Spread (2 * l.k) l.n (λ j. open_left l.n (j + 1) l.k l.last (part (2 * l.k) j l.initial.totals)) l.initial.totals l.totals l.i
    × Rowed blank l.n (λ j. (open_reply l.n (j + 1) l.k l.last (part (2 * l.k) j l.initial.totals)).party) l.initial.parties l.parties l.i
