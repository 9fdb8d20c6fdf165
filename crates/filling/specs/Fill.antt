-- "A buyer of amount a gets a times S divided by D, rounded down, and is told the exact remainder; D = 0 gives 0 and 0." Assumes nothing.
use Rattle.std.specs.Prelude.{cond, not, ◌&&◌, [], ◌∷◌, ℕ, ◌*◌, ◌/◌, ◌%◌, ltb, eqb, Result, Ok, Err}
use Rattle.refusal.specs.declared.Refusal.{Refusal}
use Rattle.refusal.specs.Refusal.{number_of}
use Rattle.refusal.specs.Judging.{◌⇒◌, judged}
use Rattle.refusal.specs.Refusal.{Judgement}
use Rattle.refusal.specs.declared.Refusal.TheVariants.{OutOfRange, NotCleared, AmountTooLarge}
use Rattle.search.specs.Searches.{clears}
use Rattle.bid.specs.Table.{most}
use Rattle.record.specs.declared.Party.{Party}
use Rattle.record.specs.Record.{sound}
use Rattle.filling.specs.declared.Hours.{Hours}

-- in tenths of an hour, as the amount and the totals are
unfoldable pub hours : (demand supply amount : ℕ) → ℕ
hours demand supply amount = cond (eqb demand 0) 0 (amount * supply / demand)

unfoldable pub remainder : (demand supply amount : ℕ) → ℕ
remainder demand supply amount = cond (eqb demand 0) 0 (amount * supply % demand)

abbrev pub shared : (demand supply amount : ℕ) → Hours
shared demand supply amount = record { got = hours demand supply amount; remainder = remainder demand supply amount }

-- "16 Not cleared, when a fill is wanted before the totals are open or when m is 0"
unfoldable pub fill_judgement : Party → (amount : ℕ) → Judgement
fill_judgement q amount =
    judged
    ((not (sound q) ⇒ OutOfRange)
    ∷ (not (clears q.search && eqb q.round 36) ⇒ NotCleared)
    ∷ (ltb most amount ⇒ AmountTooLarge)
    ∷ [])

unfoldable pub filled : Judgement → Party → (amount : ℕ) → Result Hours Refusal
filled (Ok _) q amount = Ok (shared q.demand q.supply amount)
filled (Err why) q amount = Err why

abbrev pub fill_reply : Party → (amount : ℕ) → Result Hours Refusal
fill_reply q amount = filled (fill_judgement q amount) q amount

-- ---- "this paper's number and values for each of its cases": a refused call leaves the places for the values as they were

abbrev pub filled_number : Result Hours Refusal → ℕ
filled_number (Ok filled) = 0
filled_number (Err why) = number_of why

abbrev pub filled_hours : Result Hours Refusal → (old : ℕ) → ℕ
filled_hours (Ok filled) old = filled.got
filled_hours (Err why) old = old

abbrev pub filled_remainder : Result Hours Refusal → (old : ℕ) → ℕ
filled_remainder (Ok filled) old = filled.remainder
filled_remainder (Err why) old = old
