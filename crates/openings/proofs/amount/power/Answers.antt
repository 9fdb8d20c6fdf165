-- `power` meets its contract. Assumes nothing.
use mathlib.Core.Path.{◌≡◌, sym, ap, ◌∙◌}
use Prim.Native.Nat.{ℕ, ◌*◌, ◌^◌, ◌≤◌}
use native.Mathlib.Nat.{pow-zero, pow-suc, one-mul, mul_assoc, mul-le-mul}
use native.Mathlib.Omega.{arith}
use Rattle.openings.proofs.amount.power.Goals as goal

one : (x : ℕ) → x ^ 1 ≡ x
one x = pow-suc x 0 ∙ ap (λ (n : ℕ). n * x) (pow-zero x) ∙ one-mul x

two : (x : ℕ) → x ^ 2 ≡ x * x
two x = pow-suc x 1 ∙ ap (λ (n : ℕ). n * x) (one x)

three : (x : ℕ) → x ^ 3 ≡ x * x * x
three x = pow-suc x 2 ∙ ap (λ (n : ℕ). n * x) (two x)

four : (x : ℕ) → x ^ 4 ≡ x * x * (x * x)
four x = pow-suc x 3 ∙ ap (λ (n : ℕ). n * x) (three x) ∙ mul_assoc (x * x) x x

square_most : (x : ℕ) → x ≤ 9 → x * x ≤ 81
square_most x h = mul-le-mul h h

cube_most : (x : ℕ) → x ≤ 9 → x * x * x ≤ 729
cube_most x h = mul-le-mul (square_most x h) h

fourth_most : (x : ℕ) → x ≤ 9 → x * x * (x * x) ≤ 6561
fourth_most x h = mul-le-mul (square_most x h) (square_most x h)

pub overflow_mul-square : goal.overflow_mul-square
overflow_mul-square c = omega (arith, square_most c.args.point c.requires.0)

pub overflow_mul-result : goal.overflow_mul-result
overflow_mul-result c = omega (arith, cube_most c.args.point c.requires.0)

pub overflow_mul-result-in_default : goal.overflow_mul-result-in_default
overflow_mul-result-in_default c = omega (arith, fourth_most c.args.point c.requires.0)

-- the power, of a j that the match found
at : (x v i j : ℕ) → x ^ i ≡ v → j ≡ i → v ≡ x ^ j
at x v i j e f = sym e ∙ ap (λ (k : ℕ). x ^ k) (sym f)

pub returns-in-0 : goal.returns-in-0
returns-in-0 c = let x = c.args.point in (at x 1 0 c.args.j (pow-zero x) (omega arith), omega arith)

pub returns-in-1 : goal.returns-in-1
returns-in-1 c = let x = c.args.point in (at x x 1 c.args.j (one x) (omega arith), omega (arith, c.requires.0))

pub returns-in-2 : goal.returns-in-2
returns-in-2 c =
    let x = c.args.point in (at x (x * x) 2 c.args.j (two x) (omega arith), omega (arith, square_most x c.requires.0))

pub returns-in-3 : goal.returns-in-3
returns-in-3 c =
    let x = c.args.point in
    (at x (x * x * x) 3 c.args.j (three x) (omega arith), omega (arith, cube_most x c.requires.0))

pub returns-in_default : goal.returns-in_default
returns-in_default c =
    let x = c.args.point in
    (at x (x * x * (x * x)) 4 c.args.j (four x) (omega (arith, c.requires.1)), fourth_most x c.requires.0)
