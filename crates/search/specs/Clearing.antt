-- The answers that the searches are for, told without them. Assumes nothing.
use Rattle.std.specs.Prelude.{ℕ, zero, suc, ◌+◌, ◌/◌, ◌≤◌, Bool, cond, leb, eqb}

-- the highest index from 1 to k that passes, or 0
unfoldable pub highest : (passes : ℕ → Bool) (k : ℕ) → ℕ
highest passes zero = 0
highest passes (suc i) = cond (passes (suc i)) (suc i) (highest passes i)

-- the lowest index from 1 to k that passes, or 0
unfoldable pub lowest : (passes : ℕ → Bool) (k : ℕ) → ℕ
lowest passes zero = 0
lowest passes (suc i) = cond (eqb (lowest passes i) 0) (cond (passes (suc i)) (suc i) 0) (lowest passes i)

-- demand is at least supply at the index i
unfoldable pub covered : (demand supply : ℕ → ℕ) (i : ℕ) → Bool
covered demand supply i = leb (supply i) (demand i)

-- "The clearing answer .. is the highest index at which total demand .. is at least total supply, or 0."
-- It is the report's price, "the maximal i for which b[i] ≥ s[i]". The report supposes that a price exists; the answers 0 and k at the
-- list's ends are this exchange's rule.
unfoldable pub clearing : (demand supply : ℕ → ℕ) (k : ℕ) → ℕ
clearing demand supply k = highest (covered demand supply) k

-- "the lowest j from 1 to i with supply at least demand", where i is the clearing answer; 0 where there is none
unfoldable pub balancing : (demand supply : ℕ → ℕ) (k : ℕ) → ℕ
balancing demand supply k = lowest (covered supply demand) (clearing demand supply k)

-- "where demand equals supply at several neighbouring prices, the middle one is taken, rounded down": "If there is such a j the price
-- index is (i + j)/2 rounded down, else i."
unfoldable pub price_index : (i j : ℕ) → ℕ
price_index i j = cond (eqb j 0) i ((i + j) / 2)

-- demand "never rising", supply "never falling" along the indices 1 to k
pub record Monotone (demand supply : ℕ → ℕ) (k : ℕ) : Type 0 where
  pub demand_falls : (i j : ℕ) → 1 ≤ i → i ≤ j → j ≤ k → demand j ≤ demand i
  pub supply_rises : (i j : ℕ) → 1 ≤ i → i ≤ j → j ≤ k → supply i ≤ supply j
