-- The searches as the list of their verdicts, and what is claimed of them. Assumes nothing.
use Rattle.std.specs.Prelude.{ℕ, zero, suc, ◌+◌, ◌≤◌, ◌<◌, ◌≡◌, true, false, cond, List, [], ◌∷◌, eqb}
use Rattle.verdict.specs.Verdict.{verdict}
use Rattle.search.specs.declared.searches.Search.{Search}
use Rattle.search.specs.Bracket.{middle}
use Rattle.search.specs.Searches.{side, next, finished, price, sound}
use Rattle.search.specs.Limit.{most_probes}
use Rattle.search.specs.Clearing.{clearing, balancing, price_index}

-- what the searches know of the comparison: the verdict that is promised at the index i, in the second "with the sides exchanged"
abbrev pub promise : (demand supply : ℕ → ℕ) (which i : ℕ) → ℕ
promise demand supply which i = verdict (side which (demand i) (supply i)) (side which (supply i) (demand i))

-- where verdicts lead, one after another
unfoldable pub follow : Search → (verdicts : List ℕ) → Search
follow s [] = s
follow s (v ∷ vs) = follow (next s v) vs

-- the verdicts are those of searches from s on: each is the one `given` where the search then on probes, and none is heard when finished
unfoldable pub Heard : (given : (which i : ℕ) → ℕ) → Search → (verdicts : List ℕ) → Type 0
Heard given s [] = Unit {0}
Heard given s (v ∷ vs) = (finished s ≡ false) × (v ≡ given s.which (middle s.bracket)) × Heard given (next s v) vs

-- a probe that was made: in which search, at which index, and its verdict
pub record Decision : Type 0 where
  pub which : ℕ
  pub index : ℕ
  pub verdict : ℕ

-- the probe that is made where the searches stand, with its verdict
abbrev pub decision_at : Search → (verdict : ℕ) → Decision
decision_at s v = record { which = s.which; index = middle s.bracket; verdict = v }

-- the searches from s until they are finished, cut short after q probes
unfoldable pub trail : (given : (which i : ℕ) → ℕ) (q : ℕ) → Search → List Decision
trail given zero s = []
trail given (suc q) s =
    let v : ℕ = given s.which (middle s.bracket) in
    elim (finished s) [ true ↦ [] | false ↦ decision_at s v ∷ trail given q (next s v) ]

-- how many of these probes were made in a search
unfoldable pub made_in : (which : ℕ) → List Decision → ℕ
made_in which [] = 0
made_in which (d ∷ ds) = cond (eqb d.which which) (suc (made_in which ds)) (made_in which ds)

-- what holds where m promised verdicts have led the searches of k indices (proofs/Promised.antt)
pub record Searched (demand supply : ℕ → ℕ) (k m : ℕ) (s : Search) : Type 0 where
  pub sound : sound k s ≡ true
  -- "probes done counts both"
  pub counted : s.probes ≡ m
  -- the first search: the clearing answer i is at least lo and below hi
  pub first_around : s.which ≡ 1 → (s.bracket.lo ≤ clearing demand supply k) × (clearing demand supply k < s.bracket.hi)
  -- the second: i is kept; j, where there is one, is above lo and at most hi, and where there is none, hi is past i
  pub first_kept : s.which ≡ 2 → s.first ≡ clearing demand supply k
  pub second_around : s.which ≡ 2 → 0 < balancing demand supply k
      → (s.bracket.lo < balancing demand supply k) × (balancing demand supply k ≤ s.bracket.hi)
  pub second_none : s.which ≡ 2 → balancing demand supply k ≡ 0 → s.bracket.hi ≡ s.first + 1
  pub answer : finished s ≡ true → price s ≡ price_index (clearing demand supply k) (balancing demand supply k)
  -- at most 2P probes, and 2P are enough
  pub few : m ≤ most_probes k
  pub enough : m ≡ most_probes k → finished s ≡ true
  -- until they are finished there is an index to probe between lo and hi
  pub above_lo : finished s ≡ false → s.bracket.lo < middle s.bracket
  pub below_hi : finished s ≡ false → middle s.bracket < s.bracket.hi
