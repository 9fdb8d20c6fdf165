-- Lowering the degree of a polynomial by lines through its words. Assumes nothing.
use Rattle.std.specs.Prelude.{List, [], ◌∷◌, ℕ, zero, suc, ◌+◌, ◌*◌, ◌/◌, ◌%◌, ◌≤◌, ◌<◌}
use Rattle.fields.specs.Ring.{Ops, sub}
use Rattle.fields.specs.Amount.{amounts}
use Rattle.fields.specs.Byte.{bytes}
use Rattle.fields.specs.Gap.{amount_gap, byte_gap}

-- the value at 0 of the line through y at r and z at x, where s is r / (x - r)
abbrev pub along : {A : Type 0} → Ops A → A → A → A → A
along O s y z = O.add y (O.mul (sub O y z) s)

-- `gap x r` is the inverse of x - r
module _ {A : Type 0} (O : Ops A) (gap : A → A → A) where
  -- r / (x - r)
  abbrev pub step : A → A → A
  step r x = O.mul r (gap x r)

  -- the value at 0 of the line through y at r and z at x
  abbrev pub line : A → A → A → A → A
  line r y x z = along O (step r x) y z

  -- Of each word, that of the line through it and y at r. Where the words are those of a polynomial f with f(r) = y, these are the
  -- words of a polynomial of one degree less with the same value at 0.
  unfoldable pub lowered : A → A → List A → List A → List A
  lowered r y [] zs = []
  lowered r y (x ∷ xs) [] = []
  lowered r y (x ∷ xs) (z ∷ zs) = line r y x z ∷ lowered r y xs zs

  -- t times, each time by the first of the words that are left
  unfoldable pub descended : ℕ → List A → List A → List A
  descended zero xs ys = ys
  descended (suc t) [] ys = []
  descended (suc t) (x ∷ xs) [] = []
  descended (suc t) (x ∷ xs) (y ∷ ys) = descended t xs (lowered x y xs ys)

-- the same of numbers, by any lines: `draw r y x z` is the value at 0 of the line through y at r and z at x
module _ (draw : ℕ → ℕ → ℕ → ℕ → ℕ) where
  unfoldable pub lowered_by : ℕ → ℕ → List ℕ → List ℕ → List ℕ
  lowered_by r y [] zs = []
  lowered_by r y (x ∷ xs) [] = []
  lowered_by r y (x ∷ xs) (z ∷ zs) = draw r y x z ∷ lowered_by r y xs zs

  unfoldable pub descended_by : ℕ → List ℕ → List ℕ → List ℕ
  descended_by zero xs ys = ys
  descended_by (suc t) [] ys = []
  descended_by (suc t) (x ∷ xs) [] = []
  descended_by (suc t) (x ∷ xs) (y ∷ ys) = descended_by t xs (lowered_by x y xs ys)

-- amounts
abbrev pub amount_line : ℕ → ℕ → ℕ → ℕ → ℕ
amount_line = line amounts amount_gap

-- words of two bytes: the line through the low ones, and that through the high ones
abbrev pub pair_line : ℕ → ℕ → ℕ → ℕ → ℕ
pair_line r y x z =
    line bytes byte_gap r (y % 256) x (z % 256) + 256 * line bytes byte_gap r (y / 256 % 256) x (z / 256 % 256)

-- points after r and at most 9, each after the one before it
abbrev pub Rising : ℕ → List ℕ → Type 0
Rising r [] = Unit {0}
Rising r (x ∷ xs) = (r < x) × (x ≤ 9) × Rising x xs
