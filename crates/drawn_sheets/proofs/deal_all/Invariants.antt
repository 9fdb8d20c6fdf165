-- What holds at each turn of the loops of `deal_all`. Assumes nothing.
use mathlib.Core.Path.{◌≡◌}
use mathlib.Core.List.{◌++◌}
use Prim.Native.Nat.{◌+◌, ◌-◌, ◌*◌}
use lib.ListN.{take}
use Rattle.sharing.specs.Scheme.{threshold}
use Rattle.search.specs.Limit.{most_probes}
use Rattle.draws.specs.Draws.{all_sheets}
use Rattle.panel.specs.Parties.{All, part}
use Rattle.drawn_sheets.specs.Dealt.{sheets_of}
use Rattle.draws.proofs.Drawn.{Word}
use Rattle.drawn_sheets.proofs.deal_all.Given as goal

abbrev pub invariant-loop-i : goal.invariant-loop-i
invariant-loop-i l =
    Word l.last
    × (l.most ≡ most_probes l.k)
    × All l.n
    (λ j. take (127 * l.i) (part (127 * l.most) j l.sheets) ++ sheets_of (j + 1) (all_sheets (threshold l.n) (l.most - l.i) l.last)
    ≡ sheets_of (j + 1) (all_sheets (threshold l.n) l.most l.state))
