-- `are_long` meets its contract. Assumes nothing.
use mathlib.Core.Path.{◌≡◌, refl, sym, ap, ap₂, ◌∙◌}
use mathlib.Core.Bool.{Bool, true, false, ◌&&◌}
use Prim.Native.Nat.{ℕ, ◌*◌, ◌/◌, ◌%◌}
use native.Mathlib.Omega.{arith}
use lib.Dec.{eqb}
use lib.ListN.{length}
use borrow.Author.Tests.{eqb-true, eqb-false, eq-eqb, ne_eqb}
use Rattle.ways.specs.Way.{way_of, sheet_size}
use Rattle.search.specs.Limit.{most_probes}
use Rattle.search.proofs.Logarithm.{limit_least}
use Rattle.saying.proofs.are_long.Goals as goal

halved : (m k : ℕ) → eqb (m % 2) 0 && eqb (m / 2) k ≡ eqb m (2 * k)
halved m k = by (eqb (m % 2) 0) (eqb (m / 2) k) refl refl
  where
    by : (a b : Bool) → eqb (m % 2) 0 ≡ a → eqb (m / 2) k ≡ b → a && b ≡ eqb m (2 * k)
    by true true e f = sym (eq-eqb m (2 * k) (omega (arith, eqb-true (m % 2) 0 e, eqb-true (m / 2) k f)))
    by true false e f = let d = eqb-false (m / 2) k f in sym (ne_eqb m (2 * k) (λ h. omega (arith, d, h)))
    by false b e f = let d = eqb-false (m % 2) 0 e in sym (ne_eqb m (2 * k) (λ h. omega (arith, d, h)))

pub sheets_words-requires : goal.sheets_words-requires
unfolding most_probes
sheets_words-requires c = omega (arith, c.most_probes-most.ensures, limit_least c.args.k 64 (omega arith))

pub returns : goal.returns
returns c =
    let a = c.args in
    ap₂ (λ (b : Bool) (n : ℕ). b && eqb (length a.sheets.now) n) (halved (length a.totals.now) a.k)
    (c.sheets_words.ensures ∙ ap (λ (m : ℕ). sheet_size (way_of a.last) * m) c.most_probes-most.ensures)
