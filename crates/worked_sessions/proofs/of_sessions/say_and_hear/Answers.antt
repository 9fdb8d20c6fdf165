-- `say_and_hear` lends a part that is there. Assumes nothing.
use mathlib.Core.Path.{sym}
use Prim.Native.Nat.{◌*◌, ◌≤◌}
use native.Mathlib.Nat.{mul-le-mul_right}
use native.Mathlib.Omega.{arith}
use lib.Seq.{length-take-le}
use Rattle.worked_sessions.proofs.of_sessions.say_and_hear.Goals as goal
use Rattle.worked_sessions.proofs.of_sessions.say_and_hear.Goals.{After-words_of-said}

-- there is room for the words
few : (c : After-words_of-said) → c.args.n * c.words_of-said.result ≤ 288
few c = omega (arith, mul-le-mul_right c.words_of-said.result c.requires.1, c.words_of-said.ensures)

pub overflow_mul-all : goal.overflow_mul-all
overflow_mul-all c = omega (arith, few (goal.at.overflow_mul-all c).After-words_of-said)

pub slice_bounds-messages-end : goal.slice_bounds-messages-end
slice_bounds-messages-end c = few (goal.at.slice_bounds-messages-end c).After-words_of-said

pub slice_bounds-round-end : goal.slice_bounds-round-end
slice_bounds-round-end c = sym (length-take-le _ _ (few (goal.at.slice_bounds-round-end c).After-words_of-said))

pub round-requires : goal.round-requires
round-requires c =
    let p = c.requires in
    (p.1, p.2, p.3, c.who_is_there-there.ensures, length-take-le _ _ (few (goal.at.round-requires c).After-words_of-said))
