-- What holds at each turn of the loops of `add_all`. Assumes nothing.
use Prim.Native.Nat.{◌*◌}
use Rattle.record.specs.Record.{blank}
use Rattle.panel.specs.Parties.{party_added, totals_added}
use Rattle.panel.proofs.Parts.{Spread, Rowed}
use Rattle.panel.proofs.adding.add_all.Given as goal

abbrev pub invariant-loop-i : goal.invariant-loop-i
invariant-loop-i l =
    Spread (2 * l.k) l.n (totals_added l.n l.k l.bidder l.table l.coins l.parties l.initial.totals) l.initial.totals l.totals l.i
    × Rowed blank l.n (party_added l.n l.k l.bidder l.table l.coins l.parties l.initial.totals) l.parties l.after l.i
