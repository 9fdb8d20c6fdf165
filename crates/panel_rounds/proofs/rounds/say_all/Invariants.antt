-- What holds at each turn of the loops of `say_all`. Assumes nothing.
use Rattle.panel.specs.Parties.{part}
use Rattle.panel_rounds.specs.Round.{said_by}
use Rattle.panel.proofs.Parts.{Spread}
use Rattle.panel_rounds.proofs.rounds.say_all.Given as goal

abbrev pub invariant-loop-i : goal.invariant-loop-i
invariant-loop-i l =
    Spread l.width l.n (λ j. said_by l.k l.lent l.parties l.totals l.sheets j (part l.width j l.initial.messages)) l.initial.messages l.messages l.i
