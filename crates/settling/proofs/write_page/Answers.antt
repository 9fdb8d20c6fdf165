-- `write_page` meets its contract. Assumes nothing.
use mathlib.Core.Path.{◌≡◌, sym, ◌∙◌}
use Prim.Native.Nat.{ℕ}
use native.Mathlib.Omega.{arith}
use Rattle.refusal.specs.declared.Refusal.{Refusal}
use Rattle.std.proofs.Common.{Result, Ok, Err}
use Rattle.settlement.proofs.Replies.{written_accepted}
use Rattle.settling.proofs.Page.{page_wrote}
use Rattle.settling.proofs.write_page.Goals as goal

same_count : {a b : ℕ} → ◌≡◌ {A = Result ℕ Refusal} (Ok a) (Ok b) → a ≡ b
same_count e = cc

not_both : {a : ℕ} {why : Refusal} → ◌≡◌ {A = Result ℕ Refusal} (Err why) (Ok a) → ⊥
not_both e = let z : ◌≡◌ {A = ℕ} 0 1 = cc in omega arith

pub returns-in-Ok : goal.returns-in-Ok
returns-in-Ok c =
    λ ok.
    page_wrote _ _ _ ok _ _ c.write.ensures.1 (same_count (sym c.in-Ok.is ∙ c.write.ensures.0 ∙ written_accepted _ _ _ ok))

pub returns-in-Err : goal.returns-in-Err
returns-in-Err c = λ ok. absurd (not_both (sym c.in-Err.is ∙ c.write.ensures.0 ∙ written_accepted _ _ _ ok))
