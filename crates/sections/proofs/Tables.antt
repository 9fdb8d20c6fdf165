-- The first fault of a bid's table, test by test. Assumes nothing.
use Rattle.std.specs.Prelude.{Option, None, Some}
use mathlib.Core.Path.{◌≡◌, refl, ap₂}
use mathlib.Core.Bool.{Bool, true, false, cond, not, ◌&&◌}
use mathlib.Core.Logic.{⊎_elim}
use mathlib.Core.List.{List}
use Prim.Native.Nat.{ℕ, ◌+◌}
use native.Mathlib.Omega.{arith}
use lib.Dec.{leb}
use lib.ListN.{length, take, drop}
use Rattle.ranges.specs.Lists.{every}
use Rattle.ranges.specs.Steps.{steps, bend}
use Rattle.ranges.proofs.Bends.{bend_steps, steps_bend}
use Rattle.bid.specs.Table.{most, monotone}
use Rattle.refusal.specs.declared.Refusal.TheVariants.{AmountTooLarge, NotMonotone}
use Rattle.sections.specs.declared.table.Fault.{Fault}
use Rattle.sections.specs.Sections.{at_line, passed, table_fault}
use Rattle.lines.proofs.Reading.{either}
use Rattle.sections.proofs.Counts.{passed_every, every_passed}

not_every : (test : ℕ → Bool) (xs : List ℕ) → (passed test xs ≡ length xs → ⊥) → every test xs ≡ false
not_every test xs h = ⊎_elim (λ e. absurd (h (every_passed test xs e))) (λ e. e) (either (every test xs))

not_steps : (test : ℕ → ℕ → Bool) (xs : List ℕ) → (bend test xs ≡ length xs → ⊥) → steps test xs ≡ false
not_steps test xs h = ⊎_elim (λ e. absurd (h (steps_bend test xs e))) (λ e. e) (either (steps test xs))

abbrev Small : List ℕ → ℕ
Small table = passed (λ a. leb a most) table

abbrev Demand : ℕ → List ℕ → ℕ
Demand k table = bend (λ x y. leb y x) (take k table)

abbrev Supply : ℕ → List ℕ → ℕ
Supply k table = bend leb (drop k table)

-- a test that is passed
passes_on : (t : Bool) (fault : Fault) (f : Option Fault) → cond (not t) (Some fault) f ≡ None → (t ≡ true) × (f ≡ None)
passes_on true fault f e = (refl, e)
passes_on false fault f e = absurd (let z : ◌≡◌ {A = ℕ} 0 1 = cc in omega arith)

module _ (k line : ℕ) (table : List ℕ) where
  pub large : (Small table ≡ length table → ⊥) → table_fault k line table ≡ Some (at_line AmountTooLarge (line + Small table))
  unfolding table_fault
  large h = simp (not_every (λ a. leb a most) table h)

  pub rises : Small table ≡ length table → (Demand k table ≡ length (take k table) → ⊥) → table_fault k line table ≡ Some (at_line NotMonotone (line + Demand k table))
  unfolding table_fault
  rises s h = simp (passed_every (λ a. leb a most) table s, not_steps (λ x y. leb y x) (take k table) h)

  pub falls : Small table ≡ length table → Demand k table ≡ length (take k table) → (Supply k table ≡ length (drop k table) → ⊥)
      → table_fault k line table ≡ Some (at_line NotMonotone (line + (k + Supply k table)))
  unfolding table_fault
  falls s d h =
      simp (passed_every (λ a. leb a most) table s, bend_steps (λ x y. leb y x) (take k table) d, not_steps leb (drop k table) h)

  pub formed_table : Small table ≡ length table → Demand k table ≡ length (take k table) → Supply k table ≡ length (drop k table)
      → table_fault k line table ≡ None
  unfolding table_fault
  formed_table s d h =
      simp (passed_every (λ a. leb a most) table s, bend_steps (λ x y. leb y x) (take k table) d, bend_steps leb (drop k table) h)

  -- a table without a fault
  pub faultless : table_fault k line table ≡ None → (every (λ a. leb a most) table ≡ true) × (monotone k table ≡ true)
  unfolding table_fault monotone
  faultless e =
      let s = passes_on (every (λ a. leb a most) table) _ _ e in
      let d = passes_on (steps (λ x y. leb y x) (take k table)) _ _ s.1 in
      let h = passes_on (steps leb (drop k table)) _ _ d.1 in
      (s.0, ap₂ ◌&&◌ d.0 h.0)
