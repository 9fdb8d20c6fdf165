-- `open_pair_by` meets its contract: the lowest bytes can always be read, those above them where they are bytes. Assumes nothing.
use Rattle.std.specs.Prelude.{None, Some}
use mathlib.Core.Path.{sym, ap, ◌∙◌}
use mathlib.Core.Bool.{Bool, cond, ◌&&◌}
use Prim.Native.Nat.{◌/◌, ◌%◌}
use lib.Dec.{ltb}
use Rattle.openings.proofs.Settled.{Counted, count}
use Rattle.openings.proofs.Weighted.{uncounted, low_read, high_read}
use Rattle.openings.proofs.byte.open_pair_by.Goals as goal
use Rattle.openings.proofs.byte.open_pair_by.Goals.{Else-not-counted}

pub returns-then-not-counted : goal.returns-then-not-counted
returns-then-not-counted c =
    let a = c.args in
    let none = sym c.counted.ensures ∙ c.if-not-counted.true in
    (sym (uncounted a.n a.words.now none (λ w. w % 256)), sym (uncounted a.n a.words.now none (λ w. w / 256)))

-- as many words as parties
passed : (c : Else-not-counted) → Counted c.args.n c.args.words.now
passed c =
    count c.args.n c.args.words.now
    (sym c.counted.ensures ∙ c.if-not-counted.false)

pub sums-all-requires : goal.sums-all-requires
sums-all-requires c = passed c

pub returns : goal.returns
returns c =
    let a = c.args in
    let C = passed (goal.at.returns c).Else-not-counted in (
      c.secret_of.ensures ∙ low_read a.n a.words.now C _ c.sums-all.ensures.0,
      c.secret_of-2.ensures ∙ ap (λ (t : Bool). cond (t && ltb c.sums-all.result.high 256) (Some c.sums-all.result.high) None) c.all_below.ensures
          ∙ high_read a.n a.words.now C _ c.sums-all.ensures.1,
    )
