-- Entries pair by pair, from the left. Assumes nothing.
use mathlib.Core.Path.{◌≡◌, refl, sym, ap, ◌∙◌}
use mathlib.Core.Bool.{true, ◌&&◌}
use mathlib.Core.List.{List, [], ◌∷◌, ◌++◌}
use Prim.Native.Nat.{ℕ, zero, suc, ◌+◌, ◌*◌, ◌≤◌, ◌<◌}
use native.Mathlib.Numerals.{add-one}
use native.Mathlib.Omega.{arith}
use lib.ListN.{length, take, drop, get_or, drop_of_length-le}
use lib.Seq.{drop-cons, drop-drop}
use Rattle.std.specs.Simd.{first_chunks}
use Rattle.settlement_page.specs.Page.{line_of, lines, in_range, all_in_range}

module _ (entries : List ℕ) (i : ℕ) (h : 2 * i + 1 < length entries) where
  abbrev wanted : ℕ
  wanted = get_or entries (2 * i) 0

  abbrev got : ℕ
  got = get_or entries (2 * i + 1) 0

  pub pair_at : drop (2 * i) entries ≡ wanted ∷ got ∷ drop (2 * (i + 1)) entries
  pair_at =
      let one : suc (2 * i) ≡ 2 * i + 1 = omega arith in
      let two : suc (2 * i + 1) ≡ 2 * (i + 1) = omega arith in
      drop-cons entries (2 * i) 0 (omega arith)
      ∙ ap (λ (m : ℕ). wanted ∷ drop m entries) one
      ∙ ap (λ (l : List ℕ). wanted ∷ l) (drop-cons entries (2 * i + 1) 0 h)
      ∙ ap (λ (m : ℕ). wanted ∷ got ∷ drop m entries) two

  pub range_more : all_in_range (drop (2 * i) entries) ≡ in_range wanted got && all_in_range (drop (2 * (i + 1)) entries)
  unfolding all_in_range
  range_more = ap all_in_range pair_at

  pub lines_more : (price pair : ℕ) → lines price pair (drop (2 * i) entries) ≡ line_of price pair wanted got ++ lines price (pair + 1) (drop (2 * (i + 1)) entries)
  unfolding lines
  lines_more price pair =
      ap (lines price pair) pair_at ∙ ap (λ (m : ℕ). line_of price pair wanted got ++ lines price m (drop (2 * (i + 1)) entries)) (sym (add-one pair))

-- ---- the same pairs, as chunks

pub length_chunks : (k : ℕ) (xs : List ℕ) → length (first_chunks 2 k xs) ≡ k
length_chunks zero xs = refl
length_chunks (suc k) xs = ap suc (length_chunks k (drop 2 xs))

chunk : (k i : ℕ) (xs : List ℕ) → i < k → get_or (first_chunks 2 k xs) i [] ≡ take 2 (drop (2 * i) xs)
chunk zero i xs h = absurd (omega arith)
chunk (suc k) zero xs h = refl
chunk (suc k) (suc i) xs h =
    chunk k i (drop 2 xs) (omega arith) ∙ ap (take 2) (drop-drop (2 * i) 2 xs ∙ ap (λ (m : ℕ). drop m xs) (omega arith))

module _ (entries : List ℕ) (pairs : List (List ℕ)) (i : ℕ) (long : length entries ≡ 4000) (e : pairs ≡ first_chunks 2 2000 entries) where
  count : length pairs ≡ 2000
  count = ap length e ∙ length_chunks 2000 entries

  pub real : i < length pairs → i < 2000
  real h = omega (arith, count)

  pub inside : i < length pairs → 2 * i + 1 < length entries
  inside h = omega (arith, count, long)

  pub here : (h : i < length pairs) → get_or pairs i [] ≡ get_or entries (2 * i) 0 ∷ get_or entries (2 * i + 1) 0 ∷ []
  here h = ap (λ ps. get_or ps i []) e ∙ chunk 2000 i entries (real h) ∙ ap (take 2) (pair_at entries i (inside h))

  pub over : length pairs ≤ i → length entries ≤ 2 * i
  over h = omega (arith, count, long)

module _ (entries : List ℕ) (i : ℕ) (h : length entries ≤ 2 * i) where
  pub range_end : all_in_range (drop (2 * i) entries) ≡ true
  unfolding all_in_range
  range_end = ap all_in_range (drop_of_length-le entries h)

  pub lines_end : (price pair : ℕ) → lines price pair (drop (2 * i) entries) ≡ []
  unfolding lines
  lines_end price pair = ap (lines price pair) (drop_of_length-le entries h)
