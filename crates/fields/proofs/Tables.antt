-- The rules of the two tables, each by one test over a whole table, and the product that they give. Assumes nothing.
use Rattle.std.proofs.Common.{◌≡◌, ℕ, zero, suc, ◌+◌, ◌-◌, ◌<◌, ◌≤◌, Bool, true, false, cond, ◌&&◌, T, eqb, ltb, get_or, sym, refl, ap, ◌∙◌, le_of_suc-le-suc, suc-add, zero-add, arith, lit<, eqb→eq, ltb→lt, ltb-false}
use Rattle.fields.specs.Byte.{xor, xtimes, terms, product}
use Rattle.fields.specs.Table.{logarithms, powers, added}
use Rattle.fields.proofs.Test.{both_left, both_right, below, at}
use Rattle.fields.proofs.Bytes.{ring, one_product}

-- ---- the table of powers: the first is 1, and each other entry is 03h times the one before

next_power : ℕ → Bool
next_power k = eqb (get_or powers (suc k) 0) (product 3 (get_or powers k 0))

powers_rule : T (below next_power 255)
unfolding next_power powers product terms xtimes xor
powers_rule = tt

pub first_power : get_or powers 0 0 ≡ 1
unfolding powers
first_power = refl

pub next_powers : (k : ℕ) → k < 255 → get_or powers (suc k) 0 ≡ product 3 (get_or powers k 0)
unfolding next_power
next_powers k h = eqb→eq (get_or powers (suc k) 0) (product 3 (get_or powers k 0)) (at next_power 255 powers_rule k h)

-- ---- the table of logarithms: "The tables undo each other on every byte but 0, logarithms being 0 to 254"

has_exponent : ℕ → Bool
has_exponent k = eqb (get_or powers (get_or logarithms (suc k) 0) 0) (suc k) && ltb (get_or logarithms (suc k) 0) 255

logarithms_rule : T (below has_exponent 255)
unfolding has_exponent logarithms powers
logarithms_rule = tt

pub logarithm : (a : ℕ) → a < 256 → (a ≡ 0 → ⊥) → (get_or logarithms a 0 < 255) × (get_or powers (get_or logarithms a 0) 0 ≡ a)
unfolding has_exponent
logarithm zero h d = absurd (d refl)
logarithm (suc k) h d =
    let n = get_or logarithms (suc k) 0 in
    let t = at has_exponent 255 logarithms_rule k (le_of_suc-le-suc h) in
    (ltb→lt n 255 (both_right (eqb (get_or powers n 0) (suc k)) (ltb n 255) t), eqb→eq (get_or powers n 0) (suc k) (both_left (eqb (get_or powers n 0) (suc k)) (ltb n 255) t))

back_again : ℕ → Bool
back_again n = eqb (get_or logarithms (get_or powers n 0) 0) n

back_rule : T (below back_again 255)
unfolding back_again logarithms powers
back_rule = tt

pub exponent_of_power : (n : ℕ) → n < 255 → get_or logarithms (get_or powers n 0) 0 ≡ n
unfolding back_again
exponent_of_power n h = eqb→eq (get_or logarithms (get_or powers n 0) 0) n (at back_again 255 back_rule n h)

-- ---- powers of any exponent, and that they multiply where exponents are added

pub power : ℕ → ℕ
power zero = 1
power (suc n) = product 3 (power n)

power_lt : (n : ℕ) → power n < 256
unfolding power
power_lt zero = lit< tt
power_lt (suc n) = ring.mul_lt 3 (power n) (lit< tt) (power_lt n)

one_times : (n : ℕ) → product 1 (power n) ≡ power n
one_times n = one_product (power n) (power_lt n)

power_add : (m n : ℕ) → power (m + n) ≡ product (power m) (power n)
unfolding power
power_add zero n = ap power (zero-add n) ∙ sym (one_times n)
power_add (suc m) n =
    ap power (suc-add m n) ∙ ap (product 3) (power_add m n)
    ∙ sym (ring.mul_assoc 3 (power m) (power n) (lit< tt) (power_lt m) (power_lt n))

pub power_entry : (n : ℕ) → n < 256 → get_or powers n 0 ≡ power n
unfolding power
power_entry zero h = first_power
power_entry (suc n) h = next_powers n (le_of_suc-le-suc h) ∙ ap (product 3) (power_entry n (omega (arith, h)))

-- the last entry is 1 again
last_power : power 255 ≡ 1
unfolding powers
last_power = sym (power_entry 255 (lit< tt))

-- a byte is the power of its exponent
pub power_log : (a : ℕ) → a < 256 → (a ≡ 0 → ⊥) → power (get_or logarithms a 0) ≡ a
power_log a h d =
    let l = logarithm a h d in
    sym (power_entry (get_or logarithms a 0) (omega (arith, l.0))) ∙ l.1

pub power_added : (m n : ℕ) → power (added m n) ≡ product (power m) (power n)
unfolding added
power_added m n = go (ltb (m + n) 256) refl
  where
    go : (b : Bool) → ltb (m + n) 256 ≡ b → power (cond b (m + n) (m + n - 255)) ≡ product (power m) (power n)
    go true e = power_add m n
    go false e =
        let l : 256 ≤ m + n = ltb-false (m + n) 256 e in
        let k : 255 + (m + n - 255) ≡ m + n = omega (arith, l) in
        sym (one_times (m + n - 255)) ∙ ap (λ (x : ℕ). product x (power (m + n - 255))) (sym last_power)
        ∙ sym (power_add 255 (m + n - 255)) ∙ ap power k ∙ power_add m n
