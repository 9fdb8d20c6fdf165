-- `marked` meets its contract: past the last word nobody is marked. Assumes nothing.
use mathlib.Core.Path.{◌≡◌, refl, sym}
use native.Mathlib.Omega.{arith}
use lib.ListN.{length}
use borrow.Author.Rules.{rules}
use Rattle.roll.specs.Marks.{marked}
use Rattle.roll.proofs.Laws.{nobody_past}
use Rattle.roll.proofs.Roll.marked.Goals as goal

pub returns-then-number-ge1024 : goal.returns-then-number-ge1024
returns-then-number-ge1024 c =
    let roll = c.args.self in
    let long : length roll.words ≡ 16 = search rules in
    sym (nobody_past roll _ (omega (arith, c.if-number-ge1024.true)))

pub returns : goal.returns
unfolding marked
returns c = refl
