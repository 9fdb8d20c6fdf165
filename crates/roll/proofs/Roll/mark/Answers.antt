-- `mark` meets its contract: one bit of one word, and a number past the last word marks nothing. Assumes nothing.
use mathlib.Core.Path.{◌≡◌, sym, ap, ◌∙◌}
use mathlib.Core.List.{List}
use Prim.Native.Nat.{ℕ, ◌*◌, ◌/◌, ◌%◌, ◌^◌, ◌≤◌}
use native.Mathlib.Nat.{mod-lt, mod-eq_of_lt, one-mul}
use native.Mathlib.Omega.{arith}
use lib.Bits.{bit_or}
use lib.ListN.{length, get_or, set}
use lib.Pow.{pow-lt}
use lib.Seq.{set_out}
use borrow.Author.Rules.{rules}
use Rattle.roll.specs.Marks.{mark}
use Rattle.roll.proofs.Roll.mark.Goals as goal

pub returns-then-number-ge1024 : goal.returns-then-number-ge1024
unfolding mark
returns-then-number-ge1024 c =
    let words = c.args.self.words in
    let long : length words ≡ 16 = search rules in
    let past : length words ≤ c.args.number / 64 = omega (arith, c.if-number-ge1024.true) in
    ap (λ (ws : List ℕ). record { words = ws }) (sym (set_out words _ _ past))

-- the bit fits the word
one_bit : (b : ℕ) → 1 * 2 ^ (b % 64) % 2 ^ 64 ≡ 2 ^ (b % 64)
one_bit b = ap (λ (x : ℕ). x % 2 ^ 64) (one-mul (2 ^ (b % 64))) ∙ mod-eq_of_lt (pow-lt (mod-lt b (omega arith)))

pub returns : goal.returns
unfolding mark
returns c =
    let words = c.args.self.words in
    let at = c.args.number / 64 in
    ap (λ (bit : ℕ). record { words = set words at (bit_or (get_or words at 0) bit) }) (one_bit c.args.number)
