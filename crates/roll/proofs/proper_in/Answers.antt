-- `proper_in` meets its contract: the first place, and those of the last word past bidder 1,000's. Assumes nothing.
use mathlib.Core.Path.{◌≡◌, refl, sym, ap, ap₂, ◌∙◌}
use mathlib.Core.Bool.{Bool, true, false, not, ◌&&◌}
use Prim.Native.Nat.{ℕ, zero, suc, ◌+◌, ◌/◌, ◌%◌, ◌<◌}
use native.Mathlib.Omega.{arith}
use lib.Dec.{eqb}
use lib.ListN.{length, get_or}
use borrow.Author.Tests.{eqb-true, eqb-false, eq-eqb, ne_eqb}
use Rattle.ranges.specs.Lists.{from, every}
use Rattle.roll.specs.declared.Roll.{Roll}
use Rattle.roll.specs.Marks.{is_set, marked, proper}
use Rattle.roll.proofs.Bits.{lowest}
use Rattle.roll.proofs.proper_in.Goals as goal

-- two rows of places, of which each passes where the other does
same_places : (f g : ℕ → Bool) (a b m : ℕ) → ((i : ℕ) → i < m → f (a + i) ≡ g (b + i)) → every f (from a m) ≡ every g (from b m)
unfolding from every
same_places f g a b zero h = refl
same_places f g a b (suc m) h =
    ap₂ ◌&&◌ (ap f (omega arith) ∙ h 0 (omega arith) ∙ ap g (omega arith))
    (same_places f g (suc a) (suc b) m (λ i l. ap f (omega arith) ∙ h (suc i) (omega arith) ∙ ap g (omega arith)))

-- the first place
even : (w : ℕ) → not (is_set w 0) ≡ eqb (w % 2) 0
even w = ap not (lowest w) ∙ split (eqb (w % 2) 1) refl
  where
    split : (t : Bool) → eqb (w % 2) 1 ≡ t → not t ≡ eqb (w % 2) 0
    split true e = sym (ne_eqb (w % 2) 0 (λ z. omega (arith, eqb-true (w % 2) 1 e)))
    split false e = sym (eq-eqb (w % 2) 0 (omega (arith, eqb-false (w % 2) 1 e)))

-- places 1,001 to 1,023 are bits 41 to 63 of word 15
past : (roll : Roll) → every (λ b. not (marked roll b)) (from 1001 23) ≡ every (λ i. not (is_set (get_or roll.words 15 0) i)) (from 41 23)
unfolding marked
past roll =
    same_places (λ b. not (marked roll b)) (λ i. not (is_set (get_or roll.words 15 0) i)) 1001 41 23
    (λ i l.
    let at : (1001 + i) / 64 ≡ 15 = omega arith in
    let place : (1001 + i) % 64 ≡ 41 + i = omega arith in
    rw (at, place))

pub returns : goal.returns
unfolding proper every marked
returns c =
    let words = c.args.words.now in
    rw (eq-eqb (length words) 16 c.requires, even (get_or words 0 0), past (record { words = words }), ← c.none_above_40.ensures)
