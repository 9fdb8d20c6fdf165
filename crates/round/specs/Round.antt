-- What the messages of a round open to, and which of that is refused. Assumes nothing.
use Rattle.std.specs.Prelude.{◌≡◌, Bool, true, false, cond, not, ◌&&◌, List, map, ℕ, ◌+◌, ◌-◌, ◌/◌, ◌%◌, ◌^◌, ◌≤◌, ◌<◌, leb, ltb, eqb, None, Some}
use Rattle.weights.specs.Rows.{amount_scheme, byte_scheme}
use Rattle.openings.specs.Opening.{Opening}
use Rattle.present_openings.specs.Present.{opened_by}
use Rattle.round.specs.declared.Heard.{Heard}
use Rattle.round.specs.declared.Heard.TheVariants.{Sum, Factors, Verdict, Total, Unopened}

abbrev pub sum_of : Opening → Heard
sum_of (Some v) = Sum v
sum_of None = Unopened

-- "through the low bytes, and through the high bytes"
abbrev pub factors_of : (low high : Opening) → Heard
factors_of (Some d) (Some e) = Factors d e
factors_of (Some d) None = Unopened
factors_of None high = Unopened

abbrev pub verdict_of : Opening → Heard
verdict_of (Some v) = Verdict v
verdict_of None = Unopened

-- "Words are the book's at m, judged as in round 1"
abbrev pub total_of : Opening → Heard
total_of (Some v) = Total v
total_of None = Unopened

-- Of those who were present. A word of rounds 2 to 32 is at most 65,535 exactly when its high part is a byte.
unfoldable pub heard : (n round : ℕ) (present messages : List ℕ) → Heard
heard n round present messages =
    cond (eqb round 1) (sum_of (opened_by amount_scheme n present messages))
    (cond (leb round 32)
    (factors_of (opened_by byte_scheme n present (map (λ w. w % 256) messages)) (opened_by byte_scheme n present (map (λ w. w / 256) messages)))
    (cond (eqb round 33) (verdict_of (opened_by byte_scheme n present messages)) (total_of (opened_by amount_scheme n present messages))))

abbrev pub unopened : Heard → Bool
unopened (Sum v) = false
unopened (Factors d e) = false
unopened (Verdict v) = false
unopened (Total v) = false
unopened Unopened = true

-- "T, from 2^58 + 2 to 2^59 + 2^33 - 1"
abbrev pub sum_outside : Heard → Bool
sum_outside (Sum v) = not (leb (2 ^ 58 + 2) v && leb v (2 ^ 59 + 2 ^ 33 - 1))
sum_outside (Factors d e) = false
sum_outside (Verdict v) = false
sum_outside (Total v) = false
sum_outside Unopened = false

-- "verdict above 1"
abbrev pub verdict_outside : Heard → Bool
verdict_outside (Sum v) = false
verdict_outside (Factors d e) = false
verdict_outside (Verdict v) = ltb 1 v
verdict_outside (Total v) = false
verdict_outside Unopened = false

-- what a round can open to: T in round 1; in the rounds 2 to 32 D and E, which are bytes; the verdict in round 33; later a total
abbrev pub Possible : (round : ℕ) → Heard → Type 0
Possible round (Sum v) = round ≡ 1
Possible round (Factors d e) = (2 ≤ round) × (round ≤ 32) × (d < 256) × (e < 256)
Possible round (Verdict v) = round ≡ 33
Possible round (Total v) = 33 < round
Possible round Unopened = Unit {0}
