-- `say_one` meets its contract. Assumes nothing.
use mathlib.Core.Path.{◌≡◌, refl, ap₂, ◌∙◌}
use mathlib.Core.List.{List}
use Prim.Native.Nat.{ℕ, ◌+◌, ◌-◌, ◌*◌}
use native.Mathlib.Omega.{arith}
use Rattle.saying.specs.Say.{say_left}
use Rattle.panel.proofs.Parts.{part_read}
use Rattle.panel_rounds.proofs.turns.say_one.Goals as goal

pub returns : goal.returns
returns c =
    let a = c.args in
    let v : a.i * (2 * a.k) + 2 * a.k - a.i * (2 * a.k) ≡ 2 * a.k = omega arith in
    let w : a.i * a.lent + a.lent - a.i * a.lent ≡ a.lent = omega arith in
    c.say.ensures.1
    ∙ ap₂ (λ (x y : List ℕ). say_left a.q x y a.said.now)
    (part_read (2 * a.k) a.i (a.i * (2 * a.k)) _ a.totals.now refl v) (part_read a.lent a.i (a.i * a.lent) _ a.sheets.now refl w)
