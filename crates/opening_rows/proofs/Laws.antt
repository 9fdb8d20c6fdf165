-- What a byte brings to the sums is additive in it, so two rows have it all. Assumes nothing.
use mathlib.Core.Path.{◌≡◌, sym, ap, ap₂, ◌∙◌}
use mathlib.Core.Bool.{Bool}
use mathlib.Core.List.{List, [], ◌∷◌, ◌++◌}
use Prim.Native.Nat.{ℕ, zero, suc, ◌+◌, ◌-◌, ◌*◌, ◌/◌, ◌%◌, ◌^◌, ◌≤◌, ◌<◌}
use native.Mathlib.Decide.{dec_le}
use native.Mathlib.Nat.{mul-le-mul_left, le_of_lt}
use native.Mathlib.Omega.{arith}
use lib.Bits.{xor_comm, xor_shifted}
use lib.Dec.{eqb, eqb→eq, lit<, T}
use lib.ListN.{length, take, drop, get_or, set, length-set, length-drop, get_or-append}
use lib.Seq.{length-take-le, get_or-append-add, get_or-take, get_or-set_same}
use borrow.Rule.Slice.PartMut.{put_mid, same_len_mid}
use Rattle.fields.specs.Byte.{xor, product, bytes}
use Rattle.fields.proofs.Bytes.{product_zero, product_xor}
use Rattle.fields.proofs.Fields.{byte_field}
use Rattle.fields.proofs.Test.{below, at}
use Rattle.fields.proofs.Xor as xors
use Rattle.ranges.proofs.Ranges.{below_at}
use Rattle.sharing.specs.Scheme.{threshold}
use Rattle.weights.specs.Rows.{weights, byte_rows, byte_scheme}
use Rattle.weights.specs.Products.{products}
use Rattle.openings.specs.Opening.{total, moments}
use Rattle.openings.specs.Packed.{packed}
use Rattle.openings.proofs.Packed.{packed_xor, no_sums}
use Rattle.openings.proofs.Rows.{byte_weights}
use Rattle.opening_rows.specs.Rows.{terms, brought, RowTo, RowsTo, RowsOf, Doubled, Apart, Spread}

moments_xor : (m x y z : ℕ) → x < 256 → y < 256 → z < 256
    → packed (moments bytes m (x ∷ []) (xor y z ∷ [])) ≡ xor (packed (moments bytes m (x ∷ []) (y ∷ []))) (packed (moments bytes m (x ∷ []) (z ∷ [])))
unfolding moments packed total products
moments_xor zero x y z hx hy hz = sym (xors.right_zero 0)
moments_xor (suc m) x y z hx hy hz =
    let sums : ℕ → ℕ = λ v. packed (moments bytes m (x ∷ []) (v ∷ [])) in
    let first : xor (xor y z) 0 ≡ xor (xor y 0) (xor z 0) = xors.right_zero (xor y z) ∙ sym (ap₂ xor (xors.right_zero y) (xors.right_zero z)) in
    let mul_lt : (v : ℕ) → v < 256 → product x v < 256 = λ v h. byte_field.ring.mul_lt x v hx h in
    ap₂ (λ (a b : ℕ). a + 256 * b) first
    (ap sums (product_xor x y z) ∙ moments_xor m x (product x y) (product x z) hx (mul_lt y hy) (mul_lt z hz))
    ∙ sym (packed_xor (xor y 0) (xor z 0) (sums (product x y)) (sums (product x z)) (xors.small y 0 hy (lit< tt)) (xors.small z 0 hz (lit< tt)))

pub terms_xor : (weight point count a b : ℕ) → weight < 256 → point < 256 → a < 256 → b < 256
    → terms weight point count (xor a b) ≡ xor (terms weight point count a) (terms weight point count b)
unfolding terms
terms_xor weight point count a b hw hp ha hb =
    ap (λ (y : ℕ). packed (moments bytes count (point ∷ []) (y ∷ []))) (product_xor weight a b)
    ∙ moments_xor count point (product weight a) (product weight b) hp (byte_field.ring.mul_lt weight a hw ha) (byte_field.ring.mul_lt weight b hw hb)

pub terms_zero : (weight point count : ℕ) → terms weight point count 0 ≡ 0
unfolding terms
terms_zero weight point count =
    ap (λ (y : ℕ). packed (moments bytes count (point ∷ []) (y ∷ []))) (product_zero weight) ∙ no_sums point count

-- ---- a row is doubled

module _ (weight unit point count : ℕ) (hw : weight < 256) (hp : point < 256) where
  -- one entry, which is 0
  pub first : (row : List ℕ) → length row ≡ 16 → RowTo 1 weight unit point count (set row 0 0)
  first row l = record { long = length-set row 0 0 ∙ l; entries = entry }
    where
      entry : (k : ℕ) → k < 1 → get_or (set row 0 0) k 0 ≡ terms weight point count (unit * k)
      entry k h =
          let e : k ≡ 0 = omega arith in
          let z : 0 ≡ unit * k = omega (arith, ap (λ (i : ℕ). unit * i) e) in
          ap (λ (i : ℕ). get_or (set row 0 0) i 0) e ∙ get_or-set_same row 0 0 0 (omega arith)
          ∙ sym (terms_zero weight point count) ∙ ap (terms weight point count) z

  pub doubled : (size byte term : ℕ) (row made : List ℕ) → byte ≡ unit * size → byte < 256 → Apart unit size → term ≡ terms weight point count byte
      → RowTo size weight unit point count row → Doubled size term row made → RowTo (2 * size) weight unit point count made
  doubled size byte term row made eb few apart et R D = record { long = D.long ∙ R.long; entries = entry }
    where
      entry : (k : ℕ) → k < 2 * size → get_or made k 0 ≡ terms weight point count (unit * k)
      entry k h =
          elim (dec_le size k) [
            | yes le ↦
                let r = k - size in
                let e : size + r ≡ k = omega arith in
                let l : r < size = omega arith in
                let m : unit * r ≤ unit * size = mul-le-mul_left unit (le_of_lt l) in
                ap (λ (z : ℕ). get_or made z 0) (sym e) ∙ D.added r l ∙ ap₂ xor (R.entries r l) (et ∙ ap (terms weight point count) eb)
                ∙ sym (terms_xor weight point count (unit * r) (unit * size) hw hp (omega arith) (omega arith))
                ∙ ap (terms weight point count) (apart r l ∙ ap (λ (z : ℕ). unit * z) e)
            | no gt ↦ D.stays k (omega arith) ∙ R.entries k (omega arith)
          ]

-- ---- a byte is read from two rows

halves : (byte : ℕ) → xor (byte % 16) (16 * (byte / 16)) ≡ byte
unfolding xor
halves byte =
    let e : 16 * (byte / 16) ≡ byte / 16 * 2 ^ 4 = omega arith in
    let s : byte / 16 * 2 ^ 4 + byte % 16 ≡ byte = omega arith in
    xor_comm (byte % 16) (16 * (byte / 16)) ∙ ap (λ (z : ℕ). xor z (byte % 16)) e ∙ xor_shifted (byte / 16) 4 (byte % 16) (omega arith) ∙ s

pub weight_lt : (n i : ℕ) → 3 ≤ n → n ≤ 9 → i < n → get_or (get_or byte_rows (n - 3) []) i 0 < 256
weight_lt n i least most h =
    rw (← get_or-take n (get_or byte_rows (n - 3) []) i 0 h) (below_at 256 (weights byte_scheme n) i (byte_weights n least most).weights_lt (lit< tt))

pub both_rows : (n i byte : ℕ) (rows : List ℕ) → RowsOf n rows → i < n → byte < 256
    → xor (get_or rows (32 * i + byte % 16) 0) (get_or rows (32 * i + 16 + byte / 16) 0) ≡ brought n i byte
both_rows n i byte rows R h b =
    let w = get_or (get_or byte_rows (n - 3) []) i 0 in
    let few : i + 1 < 256 = omega (arith, R.most) in
    ap₂ xor (R.low i (byte % 16) h (omega arith)) (R.high i (byte / 16) h (omega arith))
    ∙ sym (terms_xor w (i + 1) (n - threshold n) (byte % 16) (16 * (byte / 16)) (weight_lt n i R.least R.most h) few (omega arith) (omega arith))
    ∙ ap (brought n i) (halves byte)

-- ---- the rows of one party more

-- a part of k numbers is put in the place of those from `at` on
module _ (at k : ℕ) (xs part : List ℕ) (fits : at + k ≤ length xs) (long : length part ≡ k) where
  pub put_length : length (put_mid at k xs part) ≡ length xs
  put_length = same_len_mid at k xs part (long ∙ sym (length-take-le k (drop at xs) (simp length-drop (omega arith))))

  before_part : (j : ℕ) → j < at → get_or (put_mid at k xs part) j 0 ≡ get_or xs j 0
  before_part j h =
      get_or-append (take at xs) (part ++ drop k (drop at xs)) 0 j (rw (length-take-le at xs (omega arith)) h) ∙ get_or-take at xs j 0 h

  in_part : (j : ℕ) → j < k → get_or (put_mid at k xs part) (at + j) 0 ≡ get_or part j 0
  in_part j h =
      ap (λ (z : ℕ). get_or (put_mid at k xs part) (z + j) 0) (sym (length-take-le at xs (omega arith)))
      ∙ get_or-append-add (take at xs) (part ++ drop k (drop at xs)) j 0 ∙ get_or-append part (drop k (drop at xs)) 0 j (omega arith)

module _ (n i k₁ k₂ weight count : ℕ) (rows low high : List ℕ) (e₁ : k₁ ≡ 16) (e₂ : k₂ ≡ 16) (R : RowsTo i n rows) (h : i < n)
    (ew : weight ≡ get_or (get_or byte_rows (n - 3) []) i 0) (ec : count ≡ n - threshold n) (L : RowTo 16 weight 1 (i + 1) count low)
    (H : RowTo 16 weight 16 (i + 1) count high) where
  abbrev half : List ℕ
  half = put_mid (32 * i) k₁ rows low

  half_fits : 32 * i + k₁ ≤ length rows
  half_fits = omega (arith, R.long, R.most)

  whole_fits : 32 * i + 16 + k₂ ≤ length half
  whole_fits = omega (arith, put_length (32 * i) k₁ rows low half_fits (L.long ∙ sym e₁), R.long, R.most)

  entry : (byte : ℕ) → terms weight (i + 1) count byte ≡ brought n i byte
  entry byte = ap₂ (λ (w c : ℕ). terms w (i + 1) c byte) ew ec

  pub next_rows : RowsTo (i + 1) n (put_mid (32 * i + 16) k₂ half high)
  next_rows =
      record {
        least = R.least;
        most = R.most;
        long = put_length (32 * i + 16) k₂ half high whole_fits (H.long ∙ sym e₂) ∙ put_length (32 * i) k₁ rows low half_fits (L.long ∙ sym e₁) ∙ R.long;
        low = low_at;
        high = high_at;
      }
    where
      old : (j : ℕ) → j < 32 * i → get_or (put_mid (32 * i + 16) k₂ half high) j 0 ≡ get_or rows j 0
      old j l =
          before_part (32 * i + 16) k₂ half high whole_fits (H.long ∙ sym e₂) j (omega arith)
          ∙ before_part (32 * i) k₁ rows low half_fits (L.long ∙ sym e₁) j l

      low_at : (m k : ℕ) → m < i + 1 → k < 16 → get_or (put_mid (32 * i + 16) k₂ half high) (32 * m + k) 0 ≡ brought n m k
      low_at m k hm hk =
          elim (dec_le i m) [
            | yes le ↦
                let e : m ≡ i = omega arith in
                let one : 1 * k ≡ k = omega arith in
                ap (λ (z : ℕ). get_or (put_mid (32 * i + 16) k₂ half high) (32 * z + k) 0) e
                ∙ before_part (32 * i + 16) k₂ half high whole_fits (H.long ∙ sym e₂) (32 * i + k) (omega arith)
                ∙ in_part (32 * i) k₁ rows low half_fits (L.long ∙ sym e₁) k (omega arith) ∙ L.entries k hk ∙ entry (1 * k)
                ∙ ap₂ (brought n) (sym e) one
            | no gt ↦ old (32 * m + k) (omega arith) ∙ R.low m k (omega arith) hk
          ]

      high_at : (m k : ℕ) → m < i + 1 → k < 16 → get_or (put_mid (32 * i + 16) k₂ half high) (32 * m + 16 + k) 0 ≡ brought n m (16 * k)
      high_at m k hm hk =
          elim (dec_le i m) [
            | yes le ↦
                let e : m ≡ i = omega arith in
                ap (λ (z : ℕ). get_or (put_mid (32 * i + 16) k₂ half high) (32 * z + 16 + k) 0) e
                ∙ in_part (32 * i + 16) k₂ half high whole_fits (H.long ∙ sym e₂) k (omega arith) ∙ H.entries k hk ∙ entry (16 * k)
                ∙ ap (λ (z : ℕ). brought n z (16 * k)) (sym e)
            | no gt ↦ old (32 * m + 16 + k) (omega arith) ∙ R.high m k (omega arith) hk
          ]

-- ---- the multiples of 1 and of 16

test : (unit size k : ℕ) → Bool
test unit size k = eqb (xor (unit * k) (unit * size)) (unit * (size + k))

no_bit : (unit size : ℕ) → T (below (test unit size) size) → Apart unit size
unfolding test
no_bit unit size t k h = eqb→eq (xor (unit * k) (unit * size)) (unit * (size + k)) (at (test unit size) size t k h)

pub by_ones : Spread 1
unfolding test xor
by_ones = (no_bit 1 1 tt, no_bit 1 2 tt, no_bit 1 4 tt, no_bit 1 8 tt)

pub by_sixteens : Spread 16
unfolding test xor
by_sixteens = (no_bit 16 1 tt, no_bit 16 2 tt, no_bit 16 4 tt, no_bit 16 8 tt)
