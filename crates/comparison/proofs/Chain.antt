-- The rounds 2 to 32 of 33, in the paper's words, are the levels of the chain on a party's shares. Assumes nothing.
use mathlib.Core.Path.{◌≡◌, ap, ◌∙◌}
use mathlib.Core.List.{List, [], ◌∷◌}
use Prim.Native.Nat.{ℕ, ◌<◌}
use Rattle.fields.specs.Bits.{bit}
use Rattle.fields.specs.Byte.{xor, bytes}
use Rattle.fields.proofs.Fields.{byte_field}
use Rattle.ways.specs.Way.{chain}
use Rattle.comparison.specs.Local.{on_shares}
use Rattle.comparison.specs.Rounds.{differing, left, right, next_carry}
use Rattle.comparison.specs.Pairs.{Triple, Pair, Sides, public, sides, said_of, multiplied, products, merged}
use Rattle.comparison.proofs.Values.{bit_byte}
use Rattle.comparison.proofs.Levels.{public_share}

-- a party's pairs in round i: the carry, then (c_i, T_i) and those after it
module _ (T i C b top : ℕ) (hC : C < 256) (hb : b < 256) (rest : List (Pair ℕ)) where
  abbrev pub chain_pairs : List (Pair ℕ)
  chain_pairs = record { top = top; bottom = C } ∷ record { top = differing (on_shares bytes) T i b; bottom = public (on_shares bytes) (bit i T) b } ∷ rest

  -- v = C_(i-1) + T_i
  shifted_carry : xor C (public (on_shares bytes) (bit i T) b) ≡ xor (bit i T) C
  shifted_carry = ap (xor C) (public_share (bit i T) b (bit_byte i T) hb) ∙ byte_field.ring.add_comm C (bit i T) hC (bit_byte i T)

  pub chain_said : (t : Triple ℕ) (ts : List (Triple ℕ))
      → said_of (on_shares bytes) (sides (on_shares bytes) chain chain_pairs) (t ∷ ts)
      ≡ record { left = left (on_shares bytes) T i b t.alpha; right = right (on_shares bytes) T i C t.beta } ∷ []
  unfolding said_of sides left right
  chain_said t ts =
      ap (λ (v : ℕ). record { left = xor (differing (on_shares bytes) T i b) t.alpha; right = xor v t.beta } ∷ []) shifted_carry

  -- opened to D and E, the first pair's bottom is C_i
  pub chain_merged : (o : Sides ℕ) (os : List (Sides ℕ)) (t : Triple ℕ) (ts : List (Triple ℕ))
      → multiplied (on_shares bytes) o t < 256
      → merged (on_shares bytes) chain chain_pairs (products (on_shares bytes) (o ∷ os) (t ∷ ts))
      ≡ record { top = top; bottom = next_carry (on_shares bytes) T i o.left o.right t.alpha t.beta t.gamma } ∷ rest
  unfolding merged products multiplied next_carry
  chain_merged o os t ts h =
      ap (λ (v : ℕ). record { top = top; bottom = v } ∷ rest)
      (ap (xor (multiplied (on_shares bytes) o t)) (public_share (bit i T) b (bit_byte i T) hb)
      ∙ byte_field.ring.add_comm (multiplied (on_shares bytes) o t) (bit i T) h (bit_byte i T))
