-- The bids of the input, from the bytes that they are read from. Assumes nothing.
use Rattle.std.specs.Prelude.{Option, None, Some}
use mathlib.Core.Path.{◌≡◌, refl, sym, ap, ◌∙◌}
use mathlib.Core.Logic.{⊎_elim}
use mathlib.Core.List.{List, [], ◌∷◌}
use Prim.Native.Nat.{ℕ, zero, suc, ◌+◌, ◌*◌, ◌<◌}
use native.Mathlib.Nat.{zero-mul}
use native.Mathlib.Omega.{arith}
use lib.Dec.{eqb}
use borrow.Author.Tests.{eqb-true, eqb-false}
use Rattle.sections.specs.declared.table.Fault.{Fault}
use Rattle.lines.specs.Lines.{Line, lines, numbers, bytes_of, formed, past}
use Rattle.plan.specs.Plan.{Reading, many, or_fault, bids}
use Rattle.sections.specs.Sections.{table_fault, tables, bid_fault, bids_fault, or_else}
use Rattle.lines.proofs.Again.{after_add, formed_most}
use Rattle.lines.proofs.Reading.{either}
use Rattle.sections.proofs.Bids.{torn, whole}
use Rattle.plan.proofs.Sections.{many_all, many_torn}

-- ---- one bid

module _ (k line : ℕ) (bytes : List ℕ) where
  -- what the lines of a bid lead to
  pub one_bid : (go : List ℕ → List Line → Reading)
      → many (2 * k) line (lines bytes) (λ table ls. or_fault (table_fault k line table) (go table ls))
      ≡ or_fault (bid_fault k line bytes) (go (numbers (2 * k) bytes) (lines (past (2 * k) bytes)))
  unfolding or_fault
  one_bid go =
      let next : List ℕ → List Line → Reading = λ table ls. or_fault (table_fault k line table) (go table ls) in
      ⊎_elim
      (λ e. let h = eqb-true (formed (2 * k) bytes) (2 * k) e in
      many_all (2 * k) line bytes next h
      ∙ ap (λ (f : Option Fault). or_fault f (go (numbers (2 * k) bytes) (lines (past (2 * k) bytes)))) (sym (whole k line bytes h)))
      (λ e. let h : formed (2 * k) bytes < 2 * k = omega (arith, formed_most (2 * k) bytes, eqb-false (formed (2 * k) bytes) (2 * k) e) in
      many_torn (2 * k) line bytes next h
      ∙ ap (λ (f : Option Fault). or_fault f (go (numbers (2 * k) bytes) (lines (past (2 * k) bytes)))) (sym (torn k line bytes h)))
      (either (eqb (formed (2 * k) bytes) (2 * k)))

-- ---- the bids

pub all_bids : (k m line : ℕ) (bytes : List ℕ) (go : List (List ℕ) → List Line → Reading)
    → bids k m line (lines bytes) go ≡ or_fault (bids_fault k m line bytes) (go (tables k m bytes) (lines (past (m * (2 * k)) bytes)))
unfolding bids bids_fault tables or_fault or_else bytes_of
all_bids k zero line bytes go = ap (λ (j : ℕ). go [] (lines (past j bytes))) (sym (zero-mul (2 * k)))
all_bids k (suc m) line bytes go =
    let e : 2 * k + m * (2 * k) ≡ suc m * (2 * k) = omega arith in
    one_bid k line bytes (λ table ls. bids k m (line + 2 * k) ls (λ rest ls. go (table ∷ rest) ls))
    ∙ ap (or_fault (bid_fault k line bytes))
    (all_bids k m (line + 2 * k) (past (2 * k) bytes) (λ rest ls. go (numbers (2 * k) bytes ∷ rest) ls)
    ∙ ap (λ (bs : List ℕ). or_fault (bids_fault k m (line + 2 * k) (past (2 * k) bytes)) (go (numbers (2 * k) bytes ∷ tables k m (past (2 * k) bytes)) (lines bs)))
    (after_add (2 * k) (m * (2 * k)) bytes ∙ ap (λ (j : ℕ). past j bytes) e))
    ∙ sym (both (bid_fault k line bytes) (bids_fault k m (line + 2 * k) (past (2 * k) bytes)) (go (tables k (suc m) bytes) (lines (past (suc m * (2 * k)) bytes))))
  where
    both : (f g : Option Fault) (r : Reading) → or_fault (or_else f g) r ≡ or_fault f (or_fault g r)
    both None g r = refl
    both (Some fault) g r = refl
