-- `triple_shares` meets its contract. Assumes nothing.
use mathlib.Core.Path.{◌≡◌, ap, ◌∙◌}
use Prim.Native.Nat.{ℕ, ◌+◌, ◌-◌, ◌*◌}
use native.Mathlib.Omega.{arith}
use lib.ListN.{get_or}
use Rattle.message.proofs.sheet.Sheet.triple_shares.Goals as goal

pub returns-clause-alpha : goal.returns-clause-alpha
returns-clause-alpha c =
    let place : 34 + 3 * (c.args.i - 2) ≡ 34 + 3 * (c.args.i - 2) + 0 = omega arith in
    c.byte_share.ensures ∙ ap (λ (k : ℕ). get_or c.args.self.now.words.now k 0) place
