-- The starred lines of document 01 ("Checked lines"), in its order, each of the definitions that the contracts cite. Assumes nothing.
use Rattle.std.specs.Prelude.{◌≡◌, List, [], ◌∷◌, ℕ, ◌+◌, ◌-◌, ◌^◌, get_or, replicate, Ok, Some}
use Rattle.fields.specs.Amount.{p, amounts}
use Rattle.fields.specs.Byte.{bytes}
use Rattle.refusal.specs.Refusal.{code_of}
use Rattle.sharing.specs.Polynomial.{shares}
use Rattle.sharing.specs.Scheme.{points}
use Rattle.weights.specs.Rows.{amount_scheme}
use Rattle.openings.specs.Opening.{opened}
use Rattle.presence.specs.Presence.{everyone}
use Rattle.comparison.specs.Rounds.{offset}
use Rattle.comparison.specs.Probe.{Group, SheetCoins, SheetInRange, Probe, sheet_polynomials, secret, opened_sum, last_polynomial}
use Rattle.record.specs.declared.Party.{Party}
use Rattle.ways.specs.Way.{Way}
use Rattle.record.specs.Updates.{fresh}
use Rattle.saying.specs.Say.{say_judgement, say_left}
use Rattle.hearing.specs.Hear.{hear_judgement}

-- words of five parties through which no polynomial of degree at most 2 passes
abbrev pub with_73 : List ℕ
with_73 = 12 ∷ 21 ∷ 34 ∷ 51 ∷ 73 ∷ []

-- these totals, each with its coefficients, compared with what the dealer draws
abbrev pub compared : (demand supply : ℕ) (of_demand of_supply : List ℕ) → SheetCoins → Probe
compared demand supply of_demand of_supply c = record { demand = demand ∷ of_demand; supply = supply ∷ of_supply; sheet = sheet_polynomials c }

-- wherever these totals are compared under this mask, in either way, whatever else is drawn, T and the verdict are these
abbrev pub Compares : (demand supply mask T v : ℕ) → Type 0
Compares demand supply mask T v =
    (w : Way) (t : ℕ) (of_demand of_supply : List ℕ) (c : SheetCoins) → Group p t of_demand → Group p t of_supply → SheetInRange w t c → c.mask ≡ mask
    → (opened_sum (compared demand supply of_demand of_supply c) ≡ T) × (secret (last_polynomial w (compared demand supply of_demand of_supply c)) ≡ v)

pub record Starred : Type 0 where
  -- "(p - 1)(p - 1) = 1 modulo p."
  pub largest_squared : amounts.mul (p - 1) (p - 1) ≡ 1
  -- "57h times 83h = C1h; 57h times 13h = FEh."
  pub byte_product : bytes.mul 0x57 0x83 ≡ 0xc1
  pub byte_product_2 : bytes.mul 0x57 0x13 ≡ 0xfe
  -- "n = 5, secret 7, coefficients 3, 2: 12, 21, 34, 51, 72."
  pub five_shares : shares amounts (7 ∷ 3 ∷ 2 ∷ []) (points 5) ≡ 12 ∷ 21 ∷ 34 ∷ 51 ∷ 72 ∷ []
  pub five_open : opened amount_scheme 5 (12 ∷ 21 ∷ 34 ∷ 51 ∷ 72 ∷ []) ≡ Some 7
  -- "With 73 last: refusal 10", for whichever of five parties hears them in round 1 with its own word in its place, all five present
  pub five_refused : (q : Party) (totals sheets said : List ℕ) → q.n ≡ 5 → q.round ≡ 1 → say_judgement q totals sheets said ≡ Ok tt
      → say_left q totals sheets said ≡ get_or with_73 (q.own - 1) 0 ∷ [] → code_of (hear_judgement q totals sheets with_73 (everyone 5)) ≡ 10
  -- as the first does where the mask's share is 2^59 + 2^32 - 12 and nothing is bid
  pub five_said : say_left (fresh 5 1 1 33) (0 ∷ 0 ∷ []) ((offset - 12) ∷ replicate 253 0) (0 ∷ []) ≡ 12 ∷ []
  pub five_said_in_seven : say_left (fresh 5 1 1 7) (0 ∷ 0 ∷ []) ((offset - 12) ∷ replicate 439 0) (0 ∷ []) ≡ 12 ∷ []
  -- "n = 3, secret 0, coefficient p - 1: p - 1, p - 2, p - 3."
  pub three_shares : shares amounts (0 ∷ (p - 1) ∷ []) (points 3) ≡ (p - 1) ∷ (p - 2) ∷ (p - 3) ∷ []
  -- "byte secret 01h, coefficient 80h, n = 3: 81h, 1Ah, 9Ah."
  pub three_byte_shares : shares bytes (0x01 ∷ 0x80 ∷ []) (points 3) ≡ 0x81 ∷ 0x1a ∷ 0x9a ∷ []
  -- "demand 5, supply 3, mask 7: T = 2^59 + 2^32 - 5, verdict 1."
  pub five_against_three : Compares 5 3 7 (2 ^ 59 + 2 ^ 32 - 5) 1
  -- "3 against 5, mask 7: T = 2^59 + 2^32 - 9, verdict 0."
  pub three_against_five : Compares 3 5 7 (2 ^ 59 + 2 ^ 32 - 9) 0
  -- "0 against 0, mask 0: T = 2^59 + 2^32, verdict 1."
  pub none_against_none : Compares 0 0 0 (2 ^ 59 + 2 ^ 32) 1
  -- "0 against 2^32 - 1, mask 2^58 - 1: T = 2^58 + 2, verdict 0."
  pub none_against_all : Compares 0 (2 ^ 32 - 1) (2 ^ 58 - 1) (2 ^ 58 + 2) 0
