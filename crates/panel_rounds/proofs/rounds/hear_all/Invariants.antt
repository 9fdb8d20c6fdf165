-- What holds at each turn of the loops of `hear_all`. Assumes nothing.
use Rattle.record.specs.Record.{blank}
use Rattle.panel_rounds.specs.Round.{heard_by}
use Rattle.panel.proofs.Parts.{Rowed}
use Rattle.panel_rounds.proofs.rounds.hear_all.Given as goal

abbrev pub invariant-loop-i : goal.invariant-loop-i
invariant-loop-i l = Rowed blank l.n (heard_by l.k l.lent l.parties l.totals l.sheets l.messages l.present) l.parties l.after l.i
