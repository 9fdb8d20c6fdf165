-- What is answered, by the judgement. Assumes nothing.
use Rattle.std.specs.Prelude.{Err, Ok}
use mathlib.Core.Path.{◌≡◌, refl}
use Rattle.refusal.specs.Refusal.{code_of}
use Rattle.refusal.specs.declared.Refusal.{Refusal}
use Rattle.refusal.specs.Refusal.{Judgement}
use Rattle.search.specs.Searches.{price}
use Rattle.record.specs.declared.Party.{Party}
use Rattle.session.specs.Answer.{the_answer, answered, answer_number}

module _ (judgement : Judgement) (q : Party) where
  pub answered_accepted : judgement ≡ Ok tt → answered judgement q ≡ the_answer (price q.search) q.search.probes
  unfolding answered
  answered_accepted e = rw e

  pub answered_code : answer_number (answered judgement q) ≡ code_of judgement
  unfolding answered
  answered_code = split judgement
    where
      split : (j : Judgement) → answer_number (answered j q) ≡ code_of j
      split (Ok tt) = refl
      split (Err why) = refl

  pub answered_refused : (why : Refusal) → judgement ≡ Err why → answered judgement q ≡ Err why
  unfolding answered
  answered_refused why e = rw e
