-- What holds at each turn of the loops of `deal_each`. Assumes nothing.
use Prim.Native.Nat.{◌+◌}
use Rattle.panel.specs.Parties.{part, sheet_dealt}
use Rattle.panel.proofs.Parts.{Spread}
use Rattle.panel.proofs.dealing.deal_each.Given as goal

abbrev pub invariant-loop-i : goal.invariant-loop-i
invariant-loop-i l =
    Spread l.width l.n (λ j. sheet_dealt l.n (j + 1) l.last l.words l.bytes l.at (part l.width j l.initial.sheets)) l.initial.sheets l.sheets l.i
