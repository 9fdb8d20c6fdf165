-- The carries of adding two numbers, bit by bit, and the same in the byte field. Assumes nothing.
use mathlib.Core.Path.{◌≡◌, sym, ap, ap₂, ◌∙◌}
use mathlib.Core.Bool.{Bool}
use Prim.Native.Nat.{ℕ, zero, suc, ◌+◌, ◌*◌, ◌/◌, ◌%◌, ◌^◌, ◌<◌}
use native.Mathlib.Nat.{pow-succ', one-le-pow, mod-one, div-div-eq-div-mul, div-add-mod', mul-add-div_right, mul_comm}
use native.Mathlib.Omega.{arith}
use lib.Arith.{mod-mul}
use lib.Dec.{T, eqb, eqb→eq, lit<}
use Rattle.fields.specs.Ring.{Ops, Ring}
use Rattle.fields.specs.Byte.{xor, xtimes, terms, product, bytes}
use Rattle.fields.proofs.Test.{below, at}
use Rattle.fields.proofs.Below.{Below, same_number, ops, ring}
use Rattle.fields.proofs.Ring.{semi}
use Rattle.fields.proofs.Fields.{byte_field}
use Rattle.comparison.specs.Local.{on_shares}
use Rattle.fields.specs.Bits.{bit}
use Rattle.comparison.specs.Rounds.{first_carry, differing, last}
use Rattle.comparison.proofs.Values.{bit_lt}

-- ---- numbers

-- the carry out of the i lowest bits of a sum
unfoldable pub carried : (i T b : ℕ) → ℕ
carried i T b = (T % 2 ^ i + b % 2 ^ i) / 2 ^ i

bit_suc : (k T : ℕ) → bit (suc k) T ≡ T / 2 ^ k % 2
unfolding bit
bit_suc k T = ap (λ (e : ℕ). T / 2 ^ e % 2) (omega arith)

power_positive : (k : ℕ) → 0 < 2 ^ k
power_positive k = one-le-pow k 2 (lit< tt)

low_bits : (k T : ℕ) → T % 2 ^ suc k ≡ bit (suc k) T * 2 ^ k + T % 2 ^ k
low_bits k T =
    ap (λ (m : ℕ). T % m) (pow-succ' 2 k) ∙ mod-mul T (lit< tt) (power_positive k)
    ∙ ap (λ (x : ℕ). x * 2 ^ k + T % 2 ^ k) (sym (bit_suc k T))

grouped : (x y m r s : ℕ) → x * m + r + (y * m + s) ≡ (x + y) * m + (r + s)
grouped x y m r s = omega arith

-- no carry into the lowest bit
pub carried_none : (T b : ℕ) → carried 0 T b ≡ 0
unfolding carried
carried_none T b = simp mod-one

-- two bits and the carry into their place
pub carried_suc : (k T b : ℕ) → carried (suc k) T b ≡ (bit (suc k) T + bit (suc k) b + carried k T b) / 2
unfolding carried
carried_suc k T b =
    ap₂ (λ (x y : ℕ). x / y)
    (ap₂ (λ (x y : ℕ). x + y) (low_bits k T) (low_bits k b) ∙ grouped (bit (suc k) T) (bit (suc k) b) (2 ^ k) (T % 2 ^ k) (b % 2 ^ k))
    (pow-succ' 2 k ∙ mul_comm 2 (2 ^ k))
    ∙ sym (div-div-eq-div-mul _ (2 ^ k) 2)
    ∙ ap (λ (x : ℕ). x / 2) (mul-add-div_right (power_positive k) (bit (suc k) T + bit (suc k) b) (T % 2 ^ k + b % 2 ^ k))

pub carried_lt : (k T b : ℕ) → carried k T b < 2
carried_lt zero T b = rw carried_none (lit< tt)
carried_lt (suc k) T b = rw (carried_suc k T b) (omega (arith, bit_lt (suc k) T, bit_lt (suc k) b, carried_lt k T b))

split : (m T b : ℕ) → T + b ≡ (T / m + b / m) * m + (T % m + b % m)
split m T b = omega (arith, div-add-mod' T m, div-add-mod' b m)

parity : (x y z : ℕ) → (x + y + z) % 2 ≡ (x % 2 + y % 2 + z) % 2
parity x y z = omega arith

-- the bit of a sum
pub bit_sum : (k T b : ℕ) → bit (suc k) (T + b) ≡ (bit (suc k) T + bit (suc k) b + carried k T b) % 2
unfolding carried
bit_sum k T b =
    let m : ℕ = 2 ^ k in
    simp bit_suc
    (ap (λ (x : ℕ). x % 2) (ap (λ (x : ℕ). x / m) (split m T b) ∙ mul-add-div_right (power_positive k) (T / m + b / m) (T % m + b % m))
    ∙ parity (T / m) (b / m) ((T % m + b % m) / m))

-- ---- the byte field

-- Beaver's identity, where everything is its own negative
module _ {A : Type 0} {O : Ops A} (R : Ring O) (twice : (a : A) → O.add a a ≡ O.zero) where
  open O use {add as ◌⊕◌, mul as ◌⊗◌}

  infixl 65 ◌⊕◌
  infixl 70 ◌⊗◌
  beaver : (u v a b : A) → (u ⊕ a) ⊗ (v ⊕ b) ⊕ (a ⊗ b ⊕ (u ⊕ a) ⊗ b ⊕ (v ⊕ b) ⊗ a) ≡ u ⊗ v
  beaver u v a b = simp (semi, R, twice)

twice_byte : (a : Below 256) → (ops byte_field.ring).add a a ≡ (ops byte_field.ring).zero
twice_byte a = same_number _ _ (byte_field.ring.add_neg a.0 a.1)

-- what a round's carry is: u v + T_i, whatever the triple
pub beaver_byte : (u v a b : ℕ) → u < 256 → v < 256 → a < 256 → b < 256
    → xor (product (xor u a) (xor v b)) (xor (xor (product a b) (product (xor u a) b)) (product (xor v b) a)) ≡ product u v
beaver_byte u v a b hu hv ha hb = ap (λ (z : Below 256). z.0) (beaver (ring byte_field.ring) twice_byte (u, hu) (v, hv) (a, ha) (b, hb))

-- two functions of three bits are the same when they are at each of the eight places
module _ (f g : ℕ → ℕ → ℕ → ℕ) where
  abbrev agree : ℕ → ℕ → ℕ → Bool
  agree x y z = eqb (f x y z) (g x y z)

  pub same_on_bits : T (below (λ x. below (λ y. below (agree x y) 2) 2) 2) → (x y z : ℕ) → x < 2 → y < 2 → z < 2 → f x y z ≡ g x y z
  same_on_bits t x y z hx hy hz =
      eqb→eq (f x y z) (g x y z)
      (at (agree x y) 2 (at (λ y. below (agree x y) 2) 2 (at (λ x. below (λ y. below (agree x y) 2) 2) 2 t x hx) y hy) z hz)

majority_first : (x y z : ℕ) → x < 2 → y < 2 → z < 2 → xor x (product x (xor x y)) ≡ (x + y + 0) / 2
unfolding product terms xtimes xor
majority_first = same_on_bits (λ x y z. xor x (product x (xor x y))) (λ x y z. (x + y + 0) / 2) tt

odd : (x y z : ℕ) → x < 2 → y < 2 → z < 2 → xor x (xor y z) ≡ (x + y + z) % 2
unfolding xor
odd = same_on_bits (λ x y z. xor x (xor y z)) (λ x y z. (x + y + z) % 2) tt

-- ---- the rounds, on the secrets

module _ (T mask : ℕ) where
  pub first_carry_law : first_carry (on_shares bytes) T (bit 1 mask) ≡ carried 1 T mask
  unfolding first_carry differing
  first_carry_law =
      majority_first (bit 1 T) (bit 1 mask) 0 (bit_lt 1 T) (bit_lt 1 mask) (lit< tt)
      ∙ sym (carried_suc 0 T mask ∙ ap (λ (c : ℕ). (bit 1 T + bit 1 mask + c) / 2) (carried_none T mask))

  pub last_law : last (on_shares bytes) T (bit 33 mask) (carried 32 T mask) ≡ bit 33 (T + mask)
  unfolding last
  last_law = odd (bit 33 T) (bit 33 mask) (carried 32 T mask) (bit_lt 33 T) (bit_lt 33 mask) (carried_lt 32 T mask) ∙ sym (bit_sum 32 T mask)
