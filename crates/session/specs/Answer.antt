-- Asking for the answer: the price index, "0 meaning no price, with the number of probes made". Assumes nothing.
use Rattle.std.specs.Prelude.{not, [], ◌∷◌, ℕ, Result, Ok, Err}
use Rattle.refusal.specs.Refusal.{number_of}
use Rattle.refusal.specs.Judging.{◌⇒◌, judged}
use Rattle.refusal.specs.Refusal.{Judgement}
use Rattle.refusal.specs.declared.Refusal.{Refusal}
use Rattle.refusal.specs.declared.Refusal.TheVariants.{OutOfRange, OutOfTurn}
use Rattle.search.specs.Searches.{price}
use Rattle.record.specs.declared.Party.{Party}
use Rattle.session.specs.declared.reply.Answer.{Answer}
use Rattle.record.specs.Record.{sound, ended}

-- 3 until it is there: "and then 36, when the session is over"
unfoldable pub answer_judgement : Party → Judgement
answer_judgement q = judged ((not (sound q) ⇒ OutOfRange) ∷ (not (ended q) ⇒ OutOfTurn) ∷ [])

abbrev pub Answered : Type 0
Answered = Result Answer Refusal

abbrev pub the_answer : (price probes : ℕ) → Answered
the_answer price probes = Ok (record { price = price; probes = probes })

unfoldable pub answered : Judgement → Party → Answered
answered (Ok tt) q = the_answer (price q.search) q.search.probes
answered (Err why) q = Err why

abbrev pub answer_reply : Party → Answered
answer_reply q = answered (answer_judgement q) q

-- ---- "this paper's number and values for each of its cases": a refused call leaves the places for the values as they were

abbrev pub answer_number : Answered → ℕ
answer_number (Ok a) = 0
answer_number (Err why) = number_of why

abbrev pub cleared_index : Answered → (old : ℕ) → ℕ
cleared_index (Ok a) old = a.price
cleared_index (Err why) old = old

abbrev pub cleared_probes : Answered → (old : ℕ) → ℕ
cleared_probes (Ok a) old = a.probes
cleared_probes (Err why) old = old
