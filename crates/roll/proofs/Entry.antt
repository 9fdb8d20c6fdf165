-- Bidders who enter one after the other: they are marked and nobody else, and as many as they are. Assumes nothing.
use mathlib.Core.Path.{◌≡◌, refl, sym, ap, ◌∙◌}
use mathlib.Core.Bool.{Bool, true, false, true≢false, ◌||◌}
use mathlib.Core.List.{List, [], ◌∷◌}
use Prim.Native.Nat.{ℕ, ◌+◌, ◌≤◌}
use native.Mathlib.Omega.{arith}
use lib.Dec.{eqb}
use lib.ListN.{length}
use borrow.Author.Tests.{eq-eqb, ne_eqb}
use Rattle.ranges.specs.Distinct.{Distinct}
use Rattle.ranges.specs.Lists.{member}
use Rattle.ranges.proofs.Distinct.{apart_member}
use Rattle.roll.specs.declared.Roll.{Roll}
use Rattle.roll.specs.Marks.{marked, marks, empty, mark}
use Rattle.roll.proofs.Laws.{Proper, Free, proper_mark, proper_empty, nobody_in, marks_empty, marks_most, marked_mark, marked_other, marks_mark}

-- the roll after they entered
unfoldable pub enter : Roll → List ℕ → Roll
enter roll [] = roll
enter roll (b ∷ bs) = enter (mark roll b) bs

-- one after the other can
abbrev pub Enters : Roll → List ℕ → Type 0
Enters roll [] = Unit {0}
Enters roll (b ∷ bs) = Free roll b × Enters (mark roll b) bs

pub can_enter : (roll : Roll) (bs : List ℕ) → Proper roll → Distinct 1000 bs → ((c : ℕ) → member c bs ≡ true → marked roll c ≡ false) → Enters roll bs
unfolding member
can_enter roll [] P D absent = tt
can_enter roll (b ∷ bs) P D absent =
    let F : Free roll b = record { least = D.0; most = D.1; new = absent b (rw (eq-eqb b b refl)) } in
    let still : (c : ℕ) → member c bs ≡ true → marked (mark roll b) c ≡ false =
    λ c e.
    let other : c ≡ b → ⊥ = λ s. true≢false (sym e ∙ ap (λ (x : ℕ). member x bs) s ∙ apart_member b bs D.2) in
    marked_other roll P b F c other ∙ absent c (rw (ne_eqb c b other, e)) in
    (F, can_enter (mark roll b) bs (proper_mark roll P b F) D.3 still)

pub enter_proper : (roll : Roll) (bs : List ℕ) → Proper roll → Enters roll bs → Proper (enter roll bs)
unfolding enter
enter_proper roll [] P E = P
enter_proper roll (b ∷ bs) P E = enter_proper (mark roll b) bs (proper_mark roll P b E.0) E.1

pub enter_marks : (roll : Roll) (bs : List ℕ) → Proper roll → Enters roll bs → marks (enter roll bs) ≡ marks roll + length bs
unfolding enter
enter_marks roll [] P E = omega arith
enter_marks roll (b ∷ bs) P E =
    enter_marks (mark roll b) bs (proper_mark roll P b E.0) E.1
    ∙ omega (arith, marks_mark roll P b E.0)

-- an order of three tests
turned : (a b c : Bool) → a || (b || c) ≡ (b || a) || c
turned true true c = refl
turned true false c = refl
turned false true c = refl
turned false false c = refl

pub enter_marked : (roll : Roll) (bs : List ℕ) → Proper roll → Enters roll bs → (c : ℕ) → marked (enter roll bs) c ≡ member c bs || marked roll c
unfolding enter member
enter_marked roll [] P E c = refl
enter_marked roll (b ∷ bs) P E c =
    enter_marked (mark roll b) bs (proper_mark roll P b E.0) E.1 c
    ∙ ap (λ (t : Bool). member c bs || t) (marked_mark roll P b E.0 c)
    ∙ turned (member c bs) (eqb c b) (marked roll c)

-- ---- from the start

module _ (bs : List ℕ) (D : Distinct 1000 bs) where
  pub all_enter : Enters empty bs
  all_enter = can_enter empty bs proper_empty D (λ c e. nobody_in c)

  pub entered_proper : Proper (enter empty bs)
  entered_proper = enter_proper empty bs proper_empty all_enter

  pub entered_marks : marks (enter empty bs) ≡ length bs
  entered_marks = enter_marks empty bs proper_empty all_enter ∙ omega (arith, marks_empty)

  -- they are marked, and nobody else
  pub entered_marked : (c : ℕ) → marked (enter empty bs) c ≡ member c bs
  entered_marked c = enter_marked empty bs proper_empty all_enter c ∙ or_nobody (member c bs) (nobody_in c)
    where
      or_nobody : (t : Bool) {u : Bool} → u ≡ false → t || u ≡ t
      or_nobody true e = refl
      or_nobody false e = e

  -- so there are at most 1,000 different bidders
  pub bidders_few : length bs ≤ 1000
  bidders_few = omega (arith, entered_marks, marks_most (enter empty bs) entered_proper)
