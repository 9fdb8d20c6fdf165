-- The lines of a listing, as bytes. Assumes nothing.
use Rattle.std.specs.Prelude.{cond, List, [], ◌∷◌, ◌++◌, ℕ, zero, suc, ◌+◌, ◌*◌, eqb, length, get_or}
use Rattle.decimal.specs.Decimal.{decimal}
use Rattle.listing.specs.declared.course.Probe.{Probe}

abbrev newline : List ℕ
newline = 10 ∷ []

abbrev space : List ℕ
space = 32 ∷ []

-- "It prints only `refused`, number, `line` and the first faulty line's number"
unfoldable pub refused_line : (number line : ℕ) → List ℕ
refused_line number line =
    (114 ∷ 101 ∷ 102 ∷ 117 ∷ 115 ∷ 101 ∷ 100 ∷ 32 ∷ []) ++ (decimal number ++ ((32 ∷ 108 ∷ 105 ∷ 110 ∷ 101 ∷ 32 ∷ []) ++ (decimal line ++ newline)))

-- it is the longest line that is printed alone: two numbers of 64 bits have at most 20 digits each
abbrev pub longest_line : ℕ
longest_line = 55

-- how many probes a listing holds: two searches of at most nine each
abbrev pub most_listed : ℕ
most_listed = 18

-- "probe number, index, verdict": `probe`, `index` and `verdict`, each before its number
unfoldable pub probe_line : (probe : ℕ) → ℕ × ℕ → List ℕ
probe_line probe p =
    (112 ∷ 114 ∷ 111 ∷ 98 ∷ 101 ∷ 32 ∷ [])
    ++ (decimal probe ++ ((32 ∷ 105 ∷ 110 ∷ 100 ∷ 101 ∷ 120 ∷ 32 ∷ [])
    ++ (decimal p.0 ++ ((32 ∷ 118 ∷ 101 ∷ 114 ∷ 100 ∷ 105 ∷ 99 ∷ 116 ∷ 32 ∷ []) ++ (decimal p.1 ++ newline)))))

-- a line for each probe, the first with the given number. Of the second search: "The listing adds its probes with further numbers"
unfoldable pub probe_lines : (probe : ℕ) → List (ℕ × ℕ) → List ℕ
probe_lines probe [] = []
probe_lines probe (p ∷ ps) = probe_line probe p ++ probe_lines (suc probe) ps

-- `clears 0 none`
abbrev pub no_price_line : List ℕ
no_price_line = 99 ∷ 108 ∷ 101 ∷ 97 ∷ 114 ∷ 115 ∷ 32 ∷ 48 ∷ 32 ∷ 110 ∷ 111 ∷ 110 ∷ 101 ∷ newline

-- "answer and its price (`clears 0 none` when there is none)"; with a second search "`clears` shows the new index"
unfoldable pub clears_line : (answer price : ℕ) → List ℕ
clears_line zero price = no_price_line
clears_line (suc i) price =
    (99 ∷ 108 ∷ 101 ∷ 97 ∷ 114 ∷ 115 ∷ 32 ∷ []) ++ (decimal (suc i) ++ (space ++ (decimal price ++ newline)))

-- "For m not 0 the listing adds `demand`, D, `supply`, S on a line before `rounds`"
unfoldable pub totals_line : (answer demand supply : ℕ) → List ℕ
totals_line zero demand supply = []
totals_line (suc i) demand supply =
    (100 ∷ 101 ∷ 109 ∷ 97 ∷ 110 ∷ 100 ∷ 32 ∷ [])
    ++ (decimal demand ++ ((32 ∷ 115 ∷ 117 ∷ 112 ∷ 112 ∷ 108 ∷ 121 ∷ 32 ∷ []) ++ (decimal supply ++ newline)))

-- "33 times probes"; for m not 0 `rounds` "counts the two rounds" in which D and S are opened
unfoldable pub rounds_of : (probes answer : ℕ) → ℕ
rounds_of probes answer = 33 * probes + cond (eqb answer 0) 0 2

unfoldable pub rounds_line : (rounds : ℕ) → List ℕ
rounds_line rounds = (114 ∷ 111 ∷ 117 ∷ 110 ∷ 100 ∷ 115 ∷ 32 ∷ []) ++ (decimal rounds ++ newline)

-- what is printed of a course: the probes of both searches, the index that clears with its price, the totals there, and the rounds
abbrev pub course_lines : List (ℕ × ℕ) → (answer price demand supply : ℕ) → List ℕ
course_lines probes answer price demand supply =
    probe_lines 1 probes
    ++ (clears_line answer price ++ (totals_line answer demand supply ++ rounds_line (rounds_of (length probes) answer)))

-- ---- the probes of both searches, as they are noted

abbrev pub not_noted : Probe
not_noted = record { index = 0; verdict = 0 }

-- the first m probes; of more than are noted, zeros
unfoldable pub course_trail : List Probe → ℕ → List (ℕ × ℕ)
course_trail trail zero = []
course_trail trail (suc m) = course_trail trail m ++ (((get_or trail m not_noted).index, (get_or trail m not_noted).verdict) ∷ [])
