-- `open_round` meets its contract. Assumes nothing.
use mathlib.Core.Path.{◌≡◌, refl, sym, ap, ◌∙◌}
use mathlib.Core.Bool.{Bool, true, false, cond, ◌||◌, true≢false}
use Prim.Native.Nat.{ℕ, ◌≤◌}
use native.Mathlib.Omega.{arith}
use lib.Dec.{ltb, eqb}
use borrow.Author.Tests.{eqb-false, ltb-false}
use Rattle.openings.specs.Opening.{Opening}
use Rattle.round.specs.Round.{sum_of, verdict_of, total_of}
use Rattle.round.proofs.Opened.{heard_factors, heard_verdict, heard_amount}
use Rattle.round.proofs.messages.open_round.Goals as goal

-- a round that is neither the first nor past the last of a probe, nor that
between : (round : ℕ) → eqb round 1 || ltb 33 round ≡ false → (round ≡ 33 → ⊥) → (round ≡ 1 → ⊥) × (round ≤ 32)
between round e other = split (eqb round 1) refl e
  where
    split : (b : Bool) → eqb round 1 ≡ b → b || ltb 33 round ≡ false → (round ≡ 1 → ⊥) × (round ≤ 32)
    split true f e = absurd (true≢false e)
    split false f e = (eqb-false round 1 f, omega (arith, ltb-false 33 round e, other))

pub returns-then-round : goal.returns-then-round
returns-then-round c =
    let round = c.args.round in
    c.amount_of.ensures
    ∙ ap (λ (o : Opening). cond (eqb round 1) (sum_of o) (total_of o)) c.open_present_amount.ensures
    ∙ sym (heard_amount _ _ _ _ c.if-round.true)

pub returns-then-round-eq33 : goal.returns-then-round-eq33
returns-then-round-eq33 c =
    c.verdict_of.ensures ∙ ap verdict_of c.open_present_byte.ensures ∙ sym (heard_verdict _ _ _ _ c.if-round-eq33.true)

pub returns : goal.returns
returns c =
    let h = between _ c.if-round.false c.if-round-eq33.false in
    c.factors.ensures ∙ sym (heard_factors _ _ _ _ h.0 h.1)
