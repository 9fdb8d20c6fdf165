-- A round of t + 1 words in range opens. Assumes nothing.
use Rattle.std.specs.Prelude.{Some}
use mathlib.Core.Path.{◌≡◌, refl, sym, ap, ap₂, subst, ◌∙◌}
use mathlib.Core.Bool.{Bool, true, false}
use mathlib.Core.List.{map}
use Prim.Native.Nat.{ℕ, ◌/◌, ◌%◌, ◌<◌}
use native.Mathlib.Numerals.{lt_of_le_of_ne}
use native.Mathlib.Omega.{arith}
use lib.Dec.{leb, eqb}
use lib.ListN.{length-map}
use borrow.Author.Tests.{leb-true, leb-false, eqb-true, eqb-false}
use Rattle.fields.specs.Amount.{p}
use Rattle.ranges.specs.Below.{AllBelow}
use Rattle.ranges.proofs.Ranges.{below_map}
use Rattle.weights.specs.Rows.{byte_scheme}
use Rattle.openings.proofs.Laws.{amount_fits, byte_fits}
use Rattle.presence.specs.Presence.{marked, of_present}
use Rattle.presence.proofs.Laws.{choose_map}
use Rattle.present_openings.specs.Present.{opened_by}
use Rattle.present_openings.proofs.Laws.{always_by}
use Rattle.round.specs.Round.{sum_of, factors_of, verdict_of, total_of, heard, unopened}
use Rattle.round.specs.Straight.{Straight}
use Rattle.round.proofs.Opened.{heard_sum, heard_factors, heard_verdict, heard_total}

pub straight : Straight
straight n round present messages h3 h9 lp lm many range = split (eqb round 1) (leb round 32) (eqb round 33) refl refl refl
  where
    part : (f : ℕ → ℕ) → ((w : ℕ) → w < 65536 → f w < 256) → AllBelow 65536 (of_present present messages)
        → (s : ℕ) × (opened_by byte_scheme n present (map f messages) ≡ Some s)
    part f h b =
        always_by byte_fits n present (map f messages) h3 h9 lp (length-map messages f ∙ lm) many
        (subst (AllBelow 256) (sym (choose_map f (marked present) messages)) (below_map 65536 256 f h (of_present present messages) b))

    of_sum : round ≡ 1 → AllBelow p (of_present present messages) → unopened (heard n round present messages) ≡ false
    of_sum e b =
        let o = always_by amount_fits n present messages h3 h9 lp lm many b in
        ap unopened (heard_sum n round present messages e ∙ ap sum_of o.1)

    of_verdict : round ≡ 33 → AllBelow 256 (of_present present messages) → unopened (heard n round present messages) ≡ false
    of_verdict e b =
        let o = always_by byte_fits n present messages h3 h9 lp lm many b in
        ap unopened (heard_verdict n round present messages e ∙ ap verdict_of o.1)

    of_total : 33 < round → AllBelow p (of_present present messages) → unopened (heard n round present messages) ≡ false
    of_total h b =
        let o = always_by amount_fits n present messages h3 h9 lp lm many b in
        ap unopened (heard_total n round present messages h ∙ ap total_of o.1)

    split : (first product last : Bool) → eqb round 1 ≡ first → leb round 32 ≡ product → eqb round 33 ≡ last → unopened (heard n round present messages) ≡ false
    split true product last f g l = of_sum (eqb-true round 1 f) (rw f at range)
    split false true last f g l =
        let b : AllBelow 65536 (of_present present messages) = rw (f, g) at range in
        let low = part (λ w. w % 256) (λ w h. omega arith) b in
        let high = part (λ w. w / 256) (λ w h. omega arith) b in
        ap unopened (heard_factors n round present messages (eqb-false round 1 f) (leb-true round 32 g) ∙ ap₂ factors_of low.1 high.1)
    split false false true f g l = of_verdict (eqb-true round 33 l) (rw (f, g, l) at range)
    split false false false f g l = of_total (lt_of_le_of_ne (leb-false round 32 g) (λ e. eqb-false round 33 l (sym e))) (rw (f, g, l) at range)
