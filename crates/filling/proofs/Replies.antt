-- What a fill replies, by the judgement. Assumes nothing.
use mathlib.Core.Path.{◌≡◌}
use Prim.Native.Nat.{ℕ}
use Rattle.std.proofs.Common.{Ok, Err}
use Rattle.refusal.specs.declared.Refusal.{Refusal}
use Rattle.refusal.specs.Refusal.{Judgement}
use Rattle.record.specs.declared.Party.{Party}
use Rattle.filling.specs.Fill.{shared, filled}

module _ (judgement : Judgement) (q : Party) (amount : ℕ) where
  pub filled_accepted : judgement ≡ Ok tt → filled judgement q amount ≡ Ok (shared q.demand q.supply amount)
  unfolding filled
  filled_accepted e = rw e

  pub filled_refused : (why : Refusal) → judgement ≡ Err why → filled judgement q amount ≡ Err why
  unfolding filled
  filled_refused why e = rw e
