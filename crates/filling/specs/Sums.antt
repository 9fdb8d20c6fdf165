-- What is promised of a buyer's fill, and of the fills of all. Assumes nothing.
use Rattle.std.specs.Prelude.{◌≡◌, cond, List, [], ◌∷◌, map, ℕ, suc, ◌+◌, ◌*◌, ◌≤◌, ◌<◌, ltb}
use Rattle.ranges.specs.Lists.{sum}
use Rattle.filling.specs.Fill.{hours, remainder}

-- one fill: no more than was wanted, where the totals are those at a price, and a remainder of the division by D
pub record OneFill (demand supply amount : ℕ) : Type 0 where
  pub within : supply ≤ demand → hours demand supply amount ≤ amount
  pub exact : (demand ≡ 0 → ⊥) → hours demand supply amount * demand + remainder demand supply amount ≡ amount * supply
  pub smaller : (demand ≡ 0 → ⊥) → remainder demand supply amount < demand

-- how many "buyers with a above 0"
unfoldable pub buyers : List ℕ → ℕ
buyers [] = 0
buyers (a ∷ amounts) = cond (ltb 0 a) (suc (buyers amounts)) (buyers amounts)

-- "Over all bids, the fills times D plus the remainders come to D times S, and when D is not 0 fewer tenths are left over than there are
-- buyers with a above 0"; and no more is given than sellers sell
pub record AllFills (demand supply : ℕ) (amounts : List ℕ) : Type 0 where
  pub exact : sum (map (λ a. hours demand supply a * demand + remainder demand supply a) amounts) ≡ demand * supply
  pub given : sum (map (λ a. hours demand supply a) amounts) ≤ supply
  pub left_over : (demand ≡ 0 → ⊥) → supply < sum (map (λ a. hours demand supply a) amounts) + buyers amounts
