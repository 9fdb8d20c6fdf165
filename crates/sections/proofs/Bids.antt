-- The first fault of bids, one after another. Assumes nothing.
use Rattle.std.specs.Prelude.{Option, None, Some, Ok, Err}
use mathlib.Core.Path.{◌≡◌, refl, sym, ap, ap₂, ◌∙◌}
use mathlib.Core.List.{List}
use Prim.Native.Nat.{ℕ, zero, suc, ◌+◌, ◌-◌, ◌*◌, ◌<◌}
use native.Mathlib.Omega.{arith}
use lib.ListN.{length, drop}
use borrow.Author.Tests.{eq-eqb, ne_eqb}
use Rattle.refusal.specs.declared.Refusal.TheVariants.{Malformed}
use Rattle.sections.specs.declared.table.Fault.{Fault}
use Rattle.lines.specs.Lines.{numbers, bytes_of, formed, past}
use Rattle.sections.specs.Sections.{at_line, table_fault, tables, bid_fault, bids_fault, or_else, unless}
use Rattle.lines.proofs.Again.{bytes_add, here}

-- what `unless` was given
pub sound : {A : Type 0} (f : Option Fault) (x y : A) → unless f x ≡ Ok y → (f ≡ None) × (x ≡ y)
sound None x y e = (refl, cc)
sound (Some fault) x y e = (cc, cc)

pub faulty : {A : Type 0} (f : Option Fault) (x : A) (fault : Fault) → unless f x ≡ Err fault → f ≡ Some fault
faulty None x fault e = cc
faulty (Some other) x fault e = cc

-- ---- one bid

module _ (k line : ℕ) (bytes : List ℕ) where
  pub torn : formed (2 * k) bytes < 2 * k → bid_fault k line bytes ≡ Some (at_line Malformed (line + formed (2 * k) bytes))
  unfolding bid_fault
  torn h = rw (ne_eqb (formed (2 * k) bytes) (2 * k) (λ e. omega arith))

  pub whole : formed (2 * k) bytes ≡ 2 * k → bid_fault k line bytes ≡ table_fault k line (numbers (2 * k) bytes)
  unfolding bid_fault
  whole h = rw (eq-eqb (formed (2 * k) bytes) (2 * k) h)

-- one bid less
module _ (k m line : ℕ) (bytes : List ℕ) (left : 0 < m) where
  next_bid : bids_fault k m line bytes ≡ or_else (bid_fault k line bytes) (bids_fault k (m - 1) (line + 2 * k) (past (2 * k) bytes))
  unfolding bids_fault
  next_bid = cases m left
    where
      cases : (j : ℕ) → 0 < j → bids_fault k j line bytes ≡ or_else (bid_fault k line bytes) (bids_fault k (j - 1) (line + 2 * k) (past (2 * k) bytes))
      cases zero h = absurd (omega arith)
      cases (suc j) h = let e : j ≡ suc j - 1 = omega arith in ap (λ (i : ℕ). or_else (bid_fault k line bytes) (bids_fault k i (line + 2 * k) (past (2 * k) bytes))) e

  pub good_bid : bid_fault k line bytes ≡ None → bids_fault k m line bytes ≡ bids_fault k (m - 1) (line + 2 * k) (past (2 * k) bytes)
  unfolding or_else
  good_bid e = next_bid ∙ ap (λ (f : Option Fault). or_else f (bids_fault k (m - 1) (line + 2 * k) (past (2 * k) bytes))) e

  pub bad_bid : (fault : Fault) → bid_fault k line bytes ≡ Some fault → bids_fault k m line bytes ≡ Some fault
  unfolding or_else
  bad_bid fault e = next_bid ∙ ap (λ (f : Option Fault). or_else f (bids_fault k (m - 1) (line + 2 * k) (past (2 * k) bytes))) e

-- a place of the input that bids have led to
module _ (input : List ℕ) (at k i next r : ℕ) (led : next ≡ at + bytes_of (i * (2 * k)) (drop at input)) (then : r ≡ next + bytes_of (2 * k) (drop next input)) where
  pub led_bid : r ≡ at + bytes_of ((i + 1) * (2 * k)) (drop at input)
  led_bid =
      let e : (i + 1) * (2 * k) ≡ i * (2 * k) + 2 * k = omega arith in
      let f = ap (λ (j : ℕ). bytes_of j (drop at input)) e ∙ bytes_add (i * (2 * k)) (2 * k) (drop at input) in
      let g : bytes_of (2 * k) (drop next input) ≡ bytes_of (2 * k) (past (i * (2 * k)) (drop at input)) = ap (bytes_of (2 * k)) (here input at (i * (2 * k)) next led) in
      omega (arith, f)

  pub good_bids : (m line first : ℕ) → i < m → bids_fault k m line (drop at input) ≡ bids_fault k (m - i) first (drop next input)
      → bid_fault k first (drop next input) ≡ None → bids_fault k m line (drop at input) ≡ bids_fault k (m - (i + 1)) (first + 2 * k) (drop r input)
  good_bids m line first h e f =
      let d : m - i - 1 ≡ m - (i + 1) = omega arith in
      e ∙ good_bid k (m - i) first (drop next input) (omega arith) f
      ∙ ap₂ (λ (j : ℕ) (l : List ℕ). bids_fault k j (first + 2 * k) l) d (sym (here input next (2 * k) r then))

pub length_tables : (k m : ℕ) (bytes : List ℕ) → length (tables k m bytes) ≡ m
unfolding tables
length_tables k zero bytes = refl
length_tables k (suc m) bytes = ap suc (length_tables k m (past (2 * k) bytes))
