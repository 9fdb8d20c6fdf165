-- What a heard round makes of the record. Assumes nothing.
use Rattle.std.specs.Prelude.{cond, List, eqb, ℕ, ◌+◌}
use Rattle.fields.specs.Byte.{bytes}
use Rattle.comparison.specs.Local.{on_shares}
use Rattle.comparison.specs.Rounds.{first_carry, next_carry}
use Rattle.search.specs.Searches.{next}
use Rattle.record.specs.declared.Party.{Party}
use Rattle.record.specs.Updates.{in_round, decided, totalled}
use Rattle.round.specs.declared.Heard.{Heard}
use Rattle.round.specs.declared.Heard.TheVariants.{Sum, Factors, Verdict, Total, Unopened}
use Rattle.message.specs.Message.{bit_share, triple_share}

-- what a round is judged as: "Levels are judged as rounds 2 to 32, round 7 as 33"
abbrev pub role : Party → ℕ
role q = cond (eqb q.round q.last) 33 q.round

-- Round 1 gives T, and in 33 rounds the first carry; of these rounds 2 to 32 give the next carry. The last round of a probe gives the
-- verdict, by which the searches move; rounds 34 and 35 the totals at the price.
unfoldable pub after : (q : Party) (sheet : List ℕ) → Heard → Party
after q sheet (Sum v) = in_round q 2 v (cond (eqb q.last 7) q.carry (first_carry (on_shares bytes) v (bit_share sheet 1))) q.pairs
after q sheet (Factors d e) =
    in_round q (q.round + 1) q.sum
    (next_carry (on_shares bytes) q.sum q.round d e (triple_share sheet q.round 0) (triple_share sheet q.round 1) (triple_share sheet q.round 2))
    q.pairs
after q sheet (Verdict v) = decided q (next q.search v)
after q sheet (Total v) = totalled q v
after q sheet Unopened = q

-- after a level the pairs that it makes are kept
unfoldable pub after_level : (q : Party) (kept : List ℕ) → Party
after_level q kept = in_round q (q.round + 1) q.sum q.carry (record { words = kept })
