-- `is_small` meets its contract: of a table in order the two ends tell. Assumes nothing.
use mathlib.Core.Path.{◌≡◌, refl, sym, ap, ap₂, ◌∙◌}
use mathlib.Core.Bool.{Bool, true, false, true≢false, ◌&&◌}
use mathlib.Core.List.{List, [], ◌∷◌}
use Prim.Native.Nat.{ℕ, zero, suc, ◌+◌, ◌-◌, ◌*◌, ◌≤◌}
use native.Mathlib.Omega.{arith}
use lib.Dec.{leb}
use lib.ListN.{length, take, drop, get_or, length-drop}
use lib.Seq.{drop-cons, get_or-drop}
use borrow.Author.Tests.{leb-true}
use Rattle.ranges.specs.Lists.{every}
use Rattle.ranges.specs.Steps.{never_rising, never_falling}
use Rattle.ranges.proofs.Ends.{first_largest, last_largest, every_parts}
use Rattle.ranges.proofs.Loops.{and-true, every_at}
use Rattle.bid.specs.Table.{most}
use Rattle.bid.proofs.Laws.{at_most}
use Rattle.bid.proofs.is_small.Goals as goal

-- the first half's largest amount is its first, the second's its last
within : (k : ℕ) (table : List ℕ) → 1 ≤ k → length table ≡ 2 * k → never_rising (take k table) && never_falling (drop k table) ≡ true
    → get_or table 0 0 ≤ most → get_or table (2 * k - 1) 0 ≤ most → every (λ a. leb a most) table ≡ true
within zero table h l e f g = absurd (omega arith)
within (suc k) [] h l e f g = absurd (omega arith)
within (suc k) (x ∷ xs) h l e f g =
    let w = and-true (never_rising (x ∷ take k xs)) (never_falling (drop k xs)) e in
    let rest : drop k xs ≡ get_or xs k 0 ∷ drop (suc k) xs = drop-cons xs k 0 (omega (arith, l)) in
    let last : suc (k + length (drop (suc k) xs)) ≡ 2 * suc k - 1 = omega (arith, l, length-drop (suc k) xs) in
    let end : get_or (get_or xs k 0 ∷ drop (suc k) xs) (length (drop (suc k) xs)) 0 ≡ get_or (x ∷ xs) (2 * suc k - 1) 0 =
    ap (λ (ys : List ℕ). get_or ys (length (drop (suc k) xs)) 0) (sym rest)
    ∙ get_or-drop k xs (length (drop (suc k) xs)) 0
    ∙ ap (λ (i : ℕ). get_or (x ∷ xs) i 0) last in
    every_parts (λ a. leb a most) (suc k) (x ∷ xs) (first_largest most x (take k xs) w.0 f)
    (rw rest (last_largest most (get_or xs k 0) (drop (suc k) xs) (rw (sym rest) w.1) (omega (arith, end, g))))

ends_tell : (k : ℕ) (table : List ℕ) → 1 ≤ k → length table ≡ 2 * k → never_rising (take k table) && never_falling (drop k table) ≡ true
    → leb (get_or table 0 0) most && leb (get_or table (2 * k - 1) 0) most ≡ every (λ a. leb a most) table
ends_tell k table h l e = cases (every (λ a. leb a most) table) refl
  where
    ends : Bool
    ends = leb (get_or table 0 0) most && leb (get_or table (2 * k - 1) 0) most

    cases : (b : Bool) → every (λ a. leb a most) table ≡ b → ends ≡ b
    cases true f = ap₂ ◌&&◌ (every_at _ table 0 f (omega arith)) (every_at _ table (2 * k - 1) f (omega arith))
    cases false f = decide ends refl
      where
        decide : (b : Bool) → ends ≡ b → b ≡ false
        decide true g =
            let w = and-true _ _ g in
            absurd (true≢false (sym (within k table h l e (leb-true _ _ w.0) (leb-true _ _ w.1)) ∙ f))
        decide false g = refl

pub overflow_mul-result : goal.overflow_mul-result
overflow_mul-result c = omega (arith, c.well_formed.0.0, c.requires.1)

pub returns-then-in_order : goal.returns-then-in_order
returns-then-in_order c =
    ends_tell c.args.half c.args.table.now c.requires.0 c.requires.1 (sym c.requires.2 ∙ c.if-in_order.true)

pub returns : goal.returns
returns c = c.all_below.ensures ∙ sym (at_most _)
