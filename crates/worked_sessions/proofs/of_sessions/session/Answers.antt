-- `session` lends parts that are there. Assumes nothing.
use mathlib.Core.Path.{sym, ap, ◌∙◌}
use Prim.Native.Nat.{ℕ, ◌*◌, ◌≤◌}
use native.Mathlib.Nat.{mul-le-mul_right}
use native.Mathlib.Omega.{arith}
use lib.Seq.{length-take-le}
use Rattle.ways.specs.Way.{way_of}
use Rattle.ways.proofs.Laws.{sheet_some}
use borrow.Author.Rules.{rules}
use Rattle.worked_sessions.proofs.of_sessions.session.Goals as goal
use Rattle.worked_sessions.proofs.of_sessions.session.Goals.{After-sheets_words}

-- there is room for the sheets of either way
lent : (c : After-sheets_words) → c.args.n * c.sheets_words.result ≤ 11880
lent c =
    omega (arith, mul-le-mul_right c.sheets_words.result c.requires.1, c.sheets_words.ensures, (sheet_some (way_of c.args.kind.last)).1)

pub overflow_mul-lent : goal.overflow_mul-lent
overflow_mul-lent c = omega (arith, lent c)

pub slice_bounds-hold-end : goal.slice_bounds-hold-end
slice_bounds-hold-end c = sym (length-take-le _ _ (search rules))

pub slice_bounds-sheets-end : goal.slice_bounds-sheets-end
slice_bounds-sheets-end c = search (rules, lent (goal.at.slice_bounds-sheets-end c).After-sheets_words)

pub slice_bounds-hold-end-2 : goal.slice_bounds-hold-end-2
slice_bounds-hold-end-2 c = sym (length-take-le _ _ (search (rules, lent (goal.at.slice_bounds-hold-end-2 c).After-sheets_words)))

pub hold-requires : goal.hold-requires
hold-requires c =
    let p = c.requires in
    (p.0, p.1, p.2, length-take-le _ _ (search rules), length-take-le _ _ (search (rules, lent (goal.at.hold-requires c).After-sheets_words)) ∙ ap (λ (m : ℕ). c.args.n * m) c.sheets_words.ensures)
