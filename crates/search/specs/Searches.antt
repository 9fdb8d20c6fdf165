-- Two searches, the second after the first: how a verdict moves them, when they are over, and what they give. Assumes nothing.
use Rattle.std.specs.Prelude.{Bool, cond, not, ◌&&◌, ◌||◌, ℕ, ◌+◌, ◌-◌, ◌/◌, leb, ltb, eqb}
use Rattle.search.specs.declared.bracket.Bracket.{Bracket}
use Rattle.search.specs.declared.searches.Search.{Search}
use Rattle.search.specs.Bracket.{start, over, step}
use Rattle.search.specs.Limit.{limit}

-- "the same comparison with the sides exchanged": in the second search each side stands where the other did
unfoldable pub side : {A : Type 0} → (which : ℕ) (demand supply : A) → A
side which demand supply = cond (eqb which 2) supply demand

-- ---- where they stand

-- at the start "lo 0, hi k + 1, probes done 0"; "and, 0 until the first ends, i and its probes"
unfoldable pub first_search : (k : ℕ) → Search
first_search k = record { which = 1; bracket = start k; probes = 0; first = 0; spent = 0 }

-- "After the first search gives i", in m probes, the second "starts at lo 0 and hi i + 1"; "probes done counts both"
unfoldable pub second_search : (i m : ℕ) → Search
second_search i m = record { which = 2; bracket = start i; probes = m; first = i; spent = m }

-- "On 1, lo becomes the index; on 0, hi does"; in the second search "a verdict of 1 moves hi". Any other number counts as 0, so that
-- every step is defined.
unfoldable pub moves_lo : (which verdict : ℕ) → Bool
moves_lo which verdict = side which (eqb verdict 1) (not (eqb verdict 1))

-- "Probes done grows by one"
unfoldable pub moved : Search → (verdict : ℕ) → Search
moved s verdict =
    record {
      which = s.which;
      bracket = step s.bracket (moves_lo s.which verdict);
      probes = s.probes + 1;
      first = s.first;
      spent = s.spent;
    }

-- "The hearing that ends the first begins the second"
unfoldable pub turned : Search → Search
turned s = cond (eqb s.which 1 && over s.bracket) (second_search s.bracket.lo s.probes) s

abbrev pub next : Search → (verdict : ℕ) → Search
next s verdict = turned (moved s verdict)

-- ".. and a session is over when that ends"
unfoldable pub finished : Search → Bool
finished s = eqb s.which 2 && over s.bracket

-- "If there is such a j the price index is (i + j)/2 rounded down, else i": once the second is over hi is j, unless it is past i
unfoldable pub price : Search → ℕ
price s = cond (leb s.bracket.hi s.first) ((s.first + s.bracket.hi) / 2) s.first

-- "the searches end with m not 0"
unfoldable pub clears : Search → Bool
clears s = finished s && not (eqb (price s) 0)

-- ---- free of refusal 1

-- of a search of k indices with m probes: "not lo < hi <= k + 1, .. probes done above P, or equal to P with hi - lo above 1"
unfoldable pub bounded : (k m : ℕ) → Bracket → Bool
bounded k m b = ltb b.lo b.hi && leb b.hi (k + 1) && leb m (limit k) && not (eqb m (limit k) && ltb 1 (b.hi - b.lo))

-- "a first search that has ended, or with either number not 0, is 1"
unfoldable pub first_sound : (k : ℕ) → Search → Bool
first_sound k s = eqb s.which 1 && bounded k s.probes s.bracket && not (over s.bracket) && eqb s.first 0 && eqb s.spent 0

-- "Refusal 1 now bounds i by k, and each search's own probes, from 0, and ends, the second's by i as the first's by k"
unfoldable pub second_sound : (k : ℕ) → Search → Bool
second_sound k s =
    eqb s.which 2
    && leb s.first k
    && leb s.spent (limit k)
    && leb s.spent s.probes
    && bounded s.first (s.probes - s.spent) s.bracket

unfoldable pub sound : (k : ℕ) → Search → Bool
sound k s = first_sound k s || second_sound k s
