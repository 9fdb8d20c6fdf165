-- `round` lends parts that are there. Assumes nothing.
use mathlib.Core.Path.{◌≡◌, sym, ap, ◌∙◌}
use Prim.Native.Nat.{ℕ, ◌*◌, ◌≤◌}
use native.Mathlib.Nat.{mul-le-mul_right}
use native.Mathlib.Omega.{arith}
use lib.ListN.{length}
use lib.Seq.{length-take-le}
use borrow.Author.Rules.{rules}
use Rattle.worked_sessions.proofs.of_sessions.round.Goals as goal
use Rattle.worked_sessions.proofs.of_sessions.round.Goals.{After-sheets_words-lent, Start}

-- the parties' sheets are as long as stated
lent_is : (c : After-sheets_words-lent) → length c.args.sheets.now ≡ c.args.n * c.sheets_words-lent.result
lent_is c =
    c.requires.2 ∙ ap (λ (m : ℕ). c.args.n * m) (sym c.sheets_words-lent.ensures)

-- no more is spoken than there is room for
few : (c : Start) → c.args.there * c.args.said ≤ length c.args.messages.now
few c = omega (arith, mul-le-mul_right c.args.said c.requires.3, c.requires.4)

pub say_all-requires : goal.say_all-requires
say_all-requires c =
    let p = c.requires in
    (p.0, omega arith, p.1, lent_is (goal.at.say_all-requires c).After-sheets_words-lent, p.4)

pub overflow_mul-spoken : goal.overflow_mul-spoken
overflow_mul-spoken c =
    omega (arith, few (goal.at.overflow_mul-spoken c).Start, c.well_formed)

pub slice_bounds-digested-end : goal.slice_bounds-digested-end
slice_bounds-digested-end c =
    omega (arith, c.messages-2-1.given, c.messages-1.given, few (goal.at.slice_bounds-digested-end c).Start)

pub slice_bounds-digested-end-2 : goal.slice_bounds-digested-end-2
slice_bounds-digested-end-2 c =
    sym (length-take-le _ _ (omega (arith, c.messages-2-1.given, c.messages-1.given, few (goal.at.slice_bounds-digested-end-2 c).Start)))

pub slice_bounds-hear_all-end : goal.slice_bounds-hear_all-end
slice_bounds-hear_all-end c =
    sym (length-take-le _ _ (search rules))

pub hear_all-requires : goal.hear_all-requires
hear_all-requires c =
    let p = c.requires in
    (p.0, omega arith, p.1, lent_is (goal.at.hear_all-requires c).After-sheets_words-lent)
