-- Columns that are filled in two parts: the first few, then the rest. Assumes nothing.
use mathlib.Core.Path.{◌≡◌, ap, ap₂, ◌∙◌}
use mathlib.Core.List.{List, ◌++◌, append-nil}
use Prim.Native.Nat.{ℕ, ◌+◌, ◌-◌, ◌≤◌}
use native.Mathlib.Omega.{arith}
use lib.ListN.{length, take, drop, length-append, length-drop, drop_of_length-le}
use lib.Seq.{length-take-le, take_at, drop-drop}
use borrow.Rule.Slice.PartMut.{put_mid}

module _ (u : ℕ) (xs front : List ℕ) (h : u ≤ length xs) (size : length front ≡ u) where
  abbrev begun : List ℕ
  begun = front ++ drop u xs

  pub length_begun : length begun ≡ length xs
  length_begun = length-append front (drop u xs) ∙ omega (arith, length-drop u xs)

  -- the part that is lent for the rest
  pub length_rest : length (take (length begun - u) (drop u begun)) ≡ length xs - u
  length_rest = length-take-le (length begun - u) (drop u begun) (omega (arith, length-drop u begun)) ∙ ap (λ (m : ℕ). m - u) length_begun

  pub joined : (rest : List ℕ) → put_mid u (length begun - u) begun rest ≡ front ++ rest
  joined rest =
      let past : length begun ≤ u + (length begun - u) = omega arith in
      ap₂ (λ (a b : List ℕ). a ++ (rest ++ b)) (take_at front (drop u xs) u size)
      (drop-drop (length begun - u) u begun ∙ drop_of_length-le begun past)
      ∙ ap (λ (l : List ℕ). front ++ l) (append-nil rest)
