-- What a call replies, by its judgement. Assumes nothing.
use Rattle.std.specs.Prelude.{Err, Ok}
use mathlib.Core.Path.{◌≡◌, refl, ◌∙◌}
use Rattle.refusal.specs.Judging.{kept}
use Rattle.refusal.specs.declared.Refusal.{Refusal}
use Rattle.refusal.specs.Refusal.{Judgement}
use Rattle.refusal.proofs.Judging.{kept_new}
use Rattle.record.specs.declared.Party.{Party}
use Rattle.record.specs.Record.{replied}

module _ (judgement : Judgement) (next old : Party) where
  pub reply_judgement : (replied judgement next old).judgement ≡ judgement
  unfolding replied
  reply_judgement = refl

  pub reply_party : (replied judgement next old).party ≡ kept judgement next old
  unfolding replied
  reply_party = refl

  -- the record of an accepted call
  pub next_party : judgement ≡ Ok tt → (replied judgement next old).party ≡ next
  next_party e = reply_party ∙ kept_new judgement next old e

  pub next_accepted : judgement ≡ Ok tt → replied judgement next old ≡ record { judgement = Ok tt; party = next }
  unfolding replied kept
  next_accepted e = rw e

  pub next_refused : (why : Refusal) → judgement ≡ Err why → replied judgement next old ≡ record { judgement = Err why; party = old }
  unfolding replied kept
  next_refused why e = rw e
