-- `share_from` meets its contract. Assumes nothing.
use mathlib.Core.Path.{◌≡◌, ap, ◌∙◌}
use mathlib.Core.List.{◌∷◌}
use Prim.Native.Nat.{ℕ, ◌+◌, ◌-◌}
use native.Mathlib.Omega.{arith}
use lib.ListN.{take, drop}
use Rattle.fields.specs.Byte.{bytes}
use Rattle.sharing.specs.Polynomial.{value}
use Rattle.dealer.proofs.share_from.Goals as goal

pub returns : goal.returns
returns c =
    let a = c.args in
    let long : a.from + a.t - a.from ≡ a.t = omega arith in
    c.share_by.ensures ∙ ap (λ (m : ℕ). value bytes (a.secret ∷ take m (drop a.from a.drawn.now)) a.row.now.byte) long
