-- What writing replies, by the judgement. Assumes nothing.
use Rattle.std.specs.Prelude.{Err, Ok}
use mathlib.Core.Path.{◌≡◌}
use mathlib.Core.List.{List}
use Prim.Native.Nat.{ℕ}
use lib.ListN.{length}
use Rattle.refusal.specs.declared.Refusal.{Refusal}
use Rattle.refusal.specs.Refusal.{Judgement}
use Rattle.settlement_page.specs.Page.{layout}
use Rattle.settlement.specs.Write.{written}

module _ (judgement : Judgement) (price : ℕ) (entries : List ℕ) where
  pub written_accepted : judgement ≡ Ok tt → written judgement price entries ≡ Ok (length (layout price entries))
  unfolding written
  written_accepted e = rw e

  pub written_refused : (why : Refusal) → judgement ≡ Err why → written judgement price entries ≡ Err why
  unfolding written
  written_refused why e = rw e
