-- Lines one after another: the numbers, the bytes and the soundness of one line more, and lines after lines. Assumes nothing.
use Rattle.std.specs.Prelude.{unwrap_or, is_some}
use mathlib.Core.Path.{◌≡◌, refl, sym, ap, ap₂, ◌∙◌}
use mathlib.Core.Bool.{Bool, true, false, cond, ◌&&◌}
use mathlib.Core.List.{List, [], ◌∷◌, ◌++◌}
use Prim.Native.Nat.{ℕ, zero, suc, ◌+◌, ◌≤◌, ◌<◌}
use native.Mathlib.Nat.{add-zero, zero-add, suc-add}
use native.Mathlib.Numerals.{add-one}
use native.Mathlib.Omega.{arith}
use lib.Dec.{eqb, eqb-suc-suc, eqb-zero-suc}
use lib.ListN.{length, take, drop, set, get_or}
use lib.Seq.{drop-drop, take-suc-set}
use Rattle.lines.specs.Lines.{first_line, line_length, rest, numbers, bytes_of, formed, past}

-- lines after lines
pub bytes_add : (a b : ℕ) (bytes : List ℕ) → bytes_of (a + b) bytes ≡ bytes_of a bytes + bytes_of b (past a bytes)
unfolding bytes_of
bytes_add zero b bytes = rw (zero-add b) (sym (zero-add _))
bytes_add (suc a) b bytes =
    ap (λ (m : ℕ). bytes_of m bytes) (suc-add a b)
    ∙ ap (λ (m : ℕ). line_length bytes + m) (bytes_add a b (rest bytes))
    ∙ ap (λ (l : List ℕ). line_length bytes + (bytes_of a (rest bytes) + bytes_of b l)) (drop-drop (bytes_of a (rest bytes)) (line_length bytes) bytes)
    ∙ omega arith

pub after_add : (a b : ℕ) (bytes : List ℕ) → past b (past a bytes) ≡ past (a + b) bytes
after_add a b bytes =
    drop-drop (bytes_of b (past a bytes)) (bytes_of a bytes) bytes ∙ ap (λ (m : ℕ). drop m bytes) (sym (bytes_add a b bytes))

-- the lines after the first
pub after_rest : (m : ℕ) (bytes : List ℕ) → past m (rest bytes) ≡ past (suc m) bytes
unfolding bytes_of
after_rest m bytes = drop-drop (bytes_of m (rest bytes)) (line_length bytes) bytes

pub bytes_one : (bytes : List ℕ) → bytes_of 1 bytes ≡ line_length bytes
unfolding bytes_of
bytes_one bytes = add-zero _

pub past_one : (bytes : List ℕ) → past 1 bytes ≡ rest bytes
past_one bytes = ap (λ (j : ℕ). drop j bytes) (bytes_one bytes)

pub bytes_first : (m : ℕ) (bytes : List ℕ) → line_length bytes + bytes_of m (rest bytes) ≡ bytes_of (m + 1) bytes
unfolding bytes_of
bytes_first m bytes = sym (ap (λ (j : ℕ). bytes_of j bytes) (add-one m))

-- one line more
pub bytes_more : (i : ℕ) (bytes : List ℕ) → bytes_of (i + 1) bytes ≡ bytes_of i bytes + line_length (past i bytes)
bytes_more i bytes = bytes_add i 1 bytes ∙ ap (λ (m : ℕ). bytes_of i bytes + m) (bytes_one (past i bytes))

pub line_more : (bytes : List ℕ) (at m : ℕ) → at ≡ bytes_of m bytes → at + line_length (drop at bytes) ≡ bytes_of (m + 1) bytes
line_more bytes at m e = ap (λ (j : ℕ). j + line_length (drop j bytes)) e ∙ sym (bytes_more m bytes)

pub numbers_more : (i : ℕ) (bytes : List ℕ) → numbers (suc i) bytes ≡ numbers i bytes ++ (unwrap_or (first_line (past i bytes)) 0 ∷ [])
unfolding numbers bytes_of
numbers_more zero bytes = refl
numbers_more (suc i) bytes =
    ap (λ (l : List ℕ). unwrap_or (first_line bytes) 0 ∷ l)
    (numbers_more i (rest bytes) ∙ ap (λ (l : List ℕ). numbers i (rest bytes) ++ (unwrap_or (first_line l) 0 ∷ [])) (after_rest i bytes))

pub formed_more : (i : ℕ) (bytes : List ℕ)
    → formed (suc i) bytes ≡ cond (eqb (formed i bytes) i && is_some (first_line (past i bytes))) (suc i) (formed i bytes)
unfolding formed bytes_of
formed_more zero bytes = refl
formed_more (suc i) bytes =
    ap (λ (s : ℕ). cond (is_some (first_line bytes)) (suc s) 0)
    (formed_more i (rest bytes)
    ∙ ap (λ (l : List ℕ). cond (eqb (formed i (rest bytes)) i && is_some (first_line l)) (suc i) (formed i (rest bytes))) (after_rest i bytes))
    ∙ cases (is_some (first_line bytes)) (is_some (first_line (past (suc i) bytes))) (formed i (rest bytes))
  where
    cases : (a b : Bool) (s : ℕ)
        → cond a (suc (cond (eqb s i && b) (suc i) s)) 0 ≡ cond (eqb (cond a (suc s) 0) (suc i) && b) (suc (suc i)) (cond a (suc s) 0)
    cases false b s = sym (ap (λ (t : Bool). cond (t && b) (suc (suc i)) 0) (eqb-zero-suc i))
    cases true b s = out (eqb s i && b) ∙ sym (ap (λ (t : Bool). cond (t && b) (suc (suc i)) (suc s)) (eqb-suc-suc s i))
      where
        out : (t : Bool) → suc (cond t (suc i) s) ≡ cond t (suc (suc i)) (suc s)
        out true = refl
        out false = refl

-- counted from the left until one fails
pub counted_most : (t : Bool) {r m : ℕ} → r ≤ m → cond t (suc r) 0 ≤ suc m
counted_most true h = omega arith
counted_most false h = omega arith

pub formed_most : (m : ℕ) (bytes : List ℕ) → formed m bytes ≤ m
unfolding formed
formed_most zero bytes = omega arith
formed_most (suc m) bytes = counted_most (is_some (first_line bytes)) (formed_most m (rest bytes))

pub length_numbers : (m : ℕ) (bytes : List ℕ) → length (numbers m bytes) ≡ m
unfolding numbers
length_numbers zero bytes = refl
length_numbers (suc m) bytes = ap suc (length_numbers m (rest bytes))

-- the number of a line, out of those of several
pub number_at : (m i : ℕ) (bytes : List ℕ) → i < m → get_or (numbers m bytes) i 0 ≡ unwrap_or (first_line (past i bytes)) 0
unfolding numbers bytes_of
number_at zero i bytes h = absurd (omega arith)
number_at (suc m) zero bytes h = refl
number_at (suc m) (suc i) bytes h = number_at m i (rest bytes) (omega arith) ∙ ap (λ (l : List ℕ). unwrap_or (first_line l) 0) (after_rest i bytes)

-- a place of the input that lines have led to
module _ (input : List ℕ) (at i next : ℕ) (led : next ≡ at + bytes_of i (drop at input)) where
  pub here : drop next input ≡ past i (drop at input)
  here = ap (λ (m : ℕ). drop m input) led ∙ sym (drop-drop (bytes_of i (drop at input)) at input)

  pub led_more : (r : ℕ) → r ≡ next + line_length (drop next input) → r ≡ at + bytes_of (i + 1) (drop at input)
  led_more r e =
      let l : line_length (drop next input) ≡ line_length (past i (drop at input)) = ap line_length here in
      omega (arith, bytes_more i (drop at input))

  pub first_here : first_line (drop next input) ≡ first_line (past i (drop at input))
  first_here = ap first_line here

-- one line more of a slice that is to be filled
pub fill_more : (into bytes : List ℕ) (i v : ℕ) → i < length into → take i into ≡ numbers i bytes → v ≡ unwrap_or (first_line (past i bytes)) 0
    → take (i + 1) (set into i v) ≡ numbers (i + 1) bytes
fill_more into bytes i v h e f =
    ap (λ (k : ℕ). take k (set into i v)) (add-one i)
    ∙ take-suc-set into i v h
    ∙ ap₂ (λ (l : List ℕ) (x : ℕ). l ++ (x ∷ [])) e f
    ∙ sym (numbers_more i bytes)
    ∙ ap (λ (k : ℕ). numbers k bytes) (sym (add-one i))

module _ (bytes : List ℕ) (i s : ℕ) (shape : Bool) (so_far : s ≡ formed i bytes) (same : shape ≡ is_some (first_line (past i bytes))) where
  now : formed (i + 1) bytes ≡ cond (eqb s i && shape) (i + 1) s
  now = rw (add-one i, formed_more i bytes, so_far, same)

  pub formed_up : (eqb s i && shape) ≡ true → i + 1 ≡ formed (i + 1) bytes
  formed_up e = sym (now ∙ ap (λ (t : Bool). cond t (i + 1) s) e)

  pub formed_stays : (eqb s i && shape) ≡ false → s ≡ formed (i + 1) bytes
  formed_stays e = sym (now ∙ ap (λ (t : Bool). cond t (i + 1) s) e)
