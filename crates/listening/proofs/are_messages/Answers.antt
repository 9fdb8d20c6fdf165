-- `are_messages` meets its contract. Assumes nothing.
use mathlib.Core.Path.{sym, ap, ◌∙◌}
use mathlib.Core.Bool.{◌&&◌}
use Prim.Native.Nat.{ℕ, ◌*◌, ◌≤◌}
use native.Mathlib.Omega.{arith}
use native.Mathlib.Nat.{mul-le-mul_right}
use borrow.Author.Tests.{le-leb, lt-leb}
use Rattle.ranges.specs.Sizes.{long}
use Rattle.listening.proofs.Laws.{width_most}
use Rattle.listening.proofs.are_messages.Goals as goal
use Rattle.listening.proofs.are_messages.Goals.{After-width}

few : (c : After-width) → c.args.q.n ≤ 9
few c = omega arith

pub returns-then-q-gt9 : goal.returns-then-q-gt9
returns-then-q-gt9 c = rw (lt-leb c.args.q.n 9 (omega arith))

pub overflow_mul-result : goal.overflow_mul-result
overflow_mul-result c =
    omega (arith, mul-le-mul_right c.width.result (few c), c.width.ensures, width_most c.args.q)

pub returns : goal.returns
returns c =
    let a = c.args in
    ap (λ (w : ℕ). long (a.q.n * w) a.messages.now && long a.q.n a.present.now) c.width.ensures
    ∙ sym (rw (le-leb a.q.n 9 (few c)))
