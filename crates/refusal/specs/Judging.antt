-- How a call is judged: by a list of tests, in the order in which they count. Assumes nothing.
use Rattle.std.specs.Prelude.{Bool, cond, List, [], ◌∷◌, Err, Ok}
use Rattle.refusal.specs.declared.Refusal.{Refusal}
use Rattle.refusal.specs.Refusal.{Judgement}

infix 30 ◌⇒◌
-- a fault, and the refusal that it means
pub data Test : Type 0 where
  ◌⇒◌ : Bool → Refusal → Test

-- The first fault of the list that is there. "The lowest number that applies is given", but where a request says when a number is
-- judged, as 14 "just after 3", the list has it there.
unfoldable pub judged : List Test → Judgement
judged [] = Ok tt
judged ((fault ⇒ why) ∷ tests) = cond fault (Err why) (judged tests)

-- a judgement, and another where the first accepts
abbrev pub then : Judgement → Judgement → Judgement
then (Ok tt) next = next
then (Err why) next = Err why

-- "A refusal returns its number; lent buffers and the record are as before": the new contents where accepted, else the old
unfoldable pub kept {ℓ} : {A : Type ℓ} → Judgement → A → A → A
kept (Ok tt) new old = new
kept (Err why) new old = old
