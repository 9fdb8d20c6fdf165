-- `read_prices` meets its contract: the prices that were read are counted. Assumes nothing.
use mathlib.Core.Path.{◌≡◌, sym, ap, ap₂, ◌∙◌}
use mathlib.Core.List.{List}
use Prim.Native.Nat.{ℕ, ◌≤◌}
use native.Mathlib.Omega.{arith}
use lib.ListN.{length, take, drop}
use lib.Seq.{length-take-le}
use Rattle.lines.specs.Lines.{numbers, formed}
use Rattle.sections.specs.Sections.{rising}
use Rattle.lines.proofs.Again.{formed_most, length_numbers}
use Rattle.sections.proofs.reading.read_prices.Goals as goal

-- no more lines are formed than were read
formed_fits : (xs : List ℕ) (m : ℕ) (bytes : List ℕ) (s : ℕ) → xs ≡ numbers m bytes → s ≡ formed m bytes → s ≤ length xs
formed_fits xs m bytes s e f = omega (arith, ap length e ∙ length_numbers m bytes, formed_most m bytes)

pub slice_bounds-rising-end : goal.slice_bounds-rising-end
slice_bounds-rising-end c =
    let r = c.read_numbers-read in
    let a = c.args in
    formed_fits _ (length a.prices.now) (drop a.at a.input.now) _ r.ensures.0 r.ensures.2

pub slice_bounds-rising-end-2 : goal.slice_bounds-rising-end-2
slice_bounds-rising-end-2 c =
    let r = c.read_numbers-read in
    let a = c.args in
    sym (length-take-le _ _ (formed_fits _ (length a.prices.now) (drop a.at a.input.now) _ r.ensures.0 r.ensures.2))

pub returns : goal.returns
returns c =
    let r = c.read_numbers-read in
    (c.rising.ensures ∙ ap₂ (λ (s : ℕ) (vs : List ℕ). rising 0 (take s vs)) r.ensures.2 r.ensures.0, r.ensures.1)
