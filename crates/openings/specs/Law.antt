-- What the laws of opening say of words at any points, and of n words. Assumes nothing.
use Rattle.std.specs.Prelude.{◌≡◌, List, ◌∷◌, ℕ, ◌≤◌, ◌<◌, length}
use Rattle.fields.specs.Field.{Field}
use Rattle.ranges.specs.Below.{AllBelow}
use Rattle.sharing.specs.Polynomial.{shares}
use Rattle.sharing.specs.Scheme.{threshold, points}

-- a polynomial of degree at most t passes through the words at the points xs, and its value at 0 is s
pub record Passes (F : Field) (t : ℕ) (xs : List ℕ) (s : ℕ) (words : List ℕ) : Type 0 where
  pub secret_lt : s < F.size
  pub coefficients : List ℕ
  pub coefficients_lt : AllBelow F.size coefficients
  pub degree : length coefficients ≡ t
  pub through : shares F.ops (s ∷ coefficients) xs ≡ words

-- a polynomial of degree at most t passes through the words of 3 to 9 parties, and its value at 0 is s
pub record OnPolynomial (F : Field) (n s : ℕ) (words : List ℕ) : Type 0 where
  pub at_least : 3 ≤ n
  pub at_most : n ≤ 9
  pub passes : Passes F (threshold n) (points n) s words
