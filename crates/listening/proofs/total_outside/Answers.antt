-- `total_outside` meets its contract: the total that is opened stands beside the record's other one. Assumes nothing.
use mathlib.Core.Path.{◌≡◌, ap}
use mathlib.Core.Bool.{Bool, not}
use Prim.Native.Nat.{ℕ}
use borrow.Author.Tests.{eq-eqb, ne_eqb}
use Rattle.record.specs.Record.{are_totals}
use Rattle.round.specs.declared.Heard.{Heard}
use Rattle.round.specs.declared.Heard.TheVariants.{Total}
use Rattle.listening.specs.Listen.{total_outside}
use Rattle.listening.proofs.total_outside.Goals as goal

module _ (round demand supply v : ℕ) (opened : Heard) (e : opened ≡ Total v) where
  as_demand : (b : Bool) → b ≡ are_totals v supply → round ≡ 34 → not b ≡ total_outside round demand supply opened
  as_demand b h r = rw (e, eq-eqb round 34 r) (ap not h)

  as_supply : (b : Bool) → b ≡ are_totals demand v → (round ≡ 34 → ⊥) → not b ≡ total_outside round demand supply opened
  as_supply b h r = rw (e, ne_eqb round 34 r) (ap not h)

pub returns-then-round-eq34 : goal.returns-then-round-eq34
returns-then-round-eq34 c = as_demand _ _ _ _ _ c.in-Total.is _ c.are_totals.ensures c.if-round-eq34.true

pub returns-else-round-eq34 : goal.returns-else-round-eq34
returns-else-round-eq34 c = as_supply _ _ _ _ _ c.in-Total.is _ c.are_totals-in-Total.ensures c.if-round-eq34.false
