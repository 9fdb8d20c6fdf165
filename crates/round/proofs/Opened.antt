-- What the messages of a round open to. Assumes nothing.
use Rattle.std.specs.Prelude.{None, Some}
use mathlib.Core.Path.{◌≡◌, refl, sym, ap, ap₂, ◌∙◌}
use mathlib.Core.Bool.{Bool, true, false, cond, ◌||◌}
use mathlib.Core.List.{List, map}
use Prim.Native.Nat.{ℕ, ◌/◌, ◌%◌, ◌≤◌, ◌<◌}
use native.Mathlib.Numerals.{lt_of_le_of_ne}
use native.Mathlib.Omega.{arith}
use lib.Dec.{leb, ltb, eqb}
use lib.ListN.{length, length-map}
use borrow.Author.Tests.{ltb-true, leb-true, leb-false, eqb-true, eqb-false, le-leb, lt-leb, eq-eqb, ne_eqb}
use Rattle.weights.specs.Rows.{amount_scheme, byte_scheme}
use Rattle.openings.specs.Opening.{Opening}
use Rattle.openings.proofs.Laws.{byte_fits}
use Rattle.presence.specs.Presence.{marked, of_present}
use Rattle.presence.proofs.Laws.{choose_map}
use Rattle.present_openings.specs.Present.{opened_by}
use Rattle.present_openings.proofs.Laws.{exactly_by, unmarked}
use Rattle.round.specs.declared.Heard.TheVariants.{Sum, Factors, Verdict, Total}
use Rattle.round.specs.Round.{sum_of, factors_of, verdict_of, total_of, heard, Possible}

-- what is opened in the byte scheme is a byte
pub opened_lt : (n v : ℕ) (present words : List ℕ) → opened_by byte_scheme n present words ≡ Some v → v < 256
opened_lt n v present words e = ((exactly_by byte_fits n present words v).0 e).passes.secret_lt

-- ---- by round

module _ (n round : ℕ) (present messages : List ℕ) where
  pub heard_sum : round ≡ 1 → heard n round present messages ≡ sum_of (opened_by amount_scheme n present messages)
  unfolding heard
  heard_sum e = simp (eq-eqb round 1 e)

  pub heard_factors : (round ≡ 1 → ⊥) → round ≤ 32
      → heard n round present messages ≡ factors_of (opened_by byte_scheme n present (map (λ w. w % 256) messages)) (opened_by byte_scheme n present (map (λ w. w / 256) messages))
  unfolding heard
  heard_factors e h = simp (ne_eqb round 1 e, le-leb round 32 h)

  pub heard_verdict : round ≡ 33 → heard n round present messages ≡ verdict_of (opened_by byte_scheme n present messages)
  unfolding heard
  heard_verdict e = simp (ne_eqb round 1 (λ f. omega arith), lt-leb round 32 (omega arith), eq-eqb round 33 e)

  pub heard_total : 33 < round → heard n round present messages ≡ total_of (opened_by amount_scheme n present messages)
  unfolding heard
  heard_total h = simp (ne_eqb round 1 (λ e. omega arith), lt-leb round 32 (omega arith), ne_eqb round 33 (λ e. omega arith))

  -- T in round 1, a total after the last probe
  pub heard_amount : eqb round 1 || ltb 33 round ≡ true
      → heard n round present messages ≡ cond (eqb round 1) (sum_of (opened_by amount_scheme n present messages)) (total_of (opened_by amount_scheme n present messages))
  heard_amount e = split (eqb round 1) refl e
    where
      split : (b : Bool) → eqb round 1 ≡ b → b || ltb 33 round ≡ true
          → heard n round present messages ≡ cond b (sum_of (opened_by amount_scheme n present messages)) (total_of (opened_by amount_scheme n present messages))
      split true f e = heard_sum (eqb-true round 1 f)
      split false f e = heard_total (ltb-true 33 round e)

-- and of messages that open
module _ (n : ℕ) (present messages : List ℕ) where
  pub sum_heard : (v : ℕ) → opened_by amount_scheme n present messages ≡ Some v → heard n 1 present messages ≡ Sum v
  sum_heard v e = heard_sum n 1 present messages refl ∙ ap sum_of e

  pub factors_heard : (round d e : ℕ) → 2 ≤ round → round ≤ 32
      → opened_by byte_scheme n present (map (λ w. w % 256) messages) ≡ Some d → opened_by byte_scheme n present (map (λ w. w / 256) messages) ≡ Some e
      → heard n round present messages ≡ Factors d e
  factors_heard round d e h2 h32 low high = heard_factors n round present messages (λ f. omega arith) h32 ∙ ap₂ factors_of low high

  pub verdict_heard : (v : ℕ) → opened_by byte_scheme n present messages ≡ Some v → heard n 33 present messages ≡ Verdict v
  verdict_heard v e = heard_verdict n 33 present messages refl ∙ ap verdict_of e

  pub total_heard : (round v : ℕ) → 33 < round → opened_by amount_scheme n present messages ≡ Some v → heard n round present messages ≡ Total v
  total_heard round v h e = heard_total n round present messages h ∙ ap total_of e

-- what a round opens to is possible in it
pub heard_possible : (n round : ℕ) (present messages : List ℕ) → 1 ≤ round → Possible round (heard n round present messages)
heard_possible n round present messages least = split (eqb round 1) (leb round 32) (eqb round 33) refl refl refl
  where
    of_sum : (o : Opening) → round ≡ 1 → Possible round (sum_of o)
    of_sum (Some v) e = e
    of_sum None e = tt

    of_verdict : (o : Opening) → round ≡ 33 → Possible round (verdict_of o)
    of_verdict (Some v) e = e
    of_verdict None e = tt

    of_total : (o : Opening) → 33 < round → Possible round (total_of o)
    of_total (Some v) h = h
    of_total None h = tt

    of_factors : (low high : Opening) → 2 ≤ round → round ≤ 32 → ((d : ℕ) → low ≡ Some d → d < 256) → ((e : ℕ) → high ≡ Some e → e < 256)
        → Possible round (factors_of low high)
    of_factors (Some d) (Some e) h2 h32 hd he = (h2, h32, hd d refl, he e refl)
    of_factors (Some d) None h2 h32 hd he = tt
    of_factors None high h2 h32 hd he = tt

    split : (first product last : Bool) → eqb round 1 ≡ first → leb round 32 ≡ product → eqb round 33 ≡ last → Possible round (heard n round present messages)
    split true product last f p l =
        let e = eqb-true round 1 f in
        rw (heard_sum n round present messages e) (of_sum (opened_by amount_scheme n present messages) e)
    split false true last f p l =
        let other = eqb-false round 1 f in
        let h = leb-true round 32 p in
        let low : List ℕ = map (λ (w : ℕ). w % 256) messages in
        let high : List ℕ = map (λ (w : ℕ). w / 256) messages in
        rw (heard_factors n round present messages other h)
        (of_factors (opened_by byte_scheme n present low) (opened_by byte_scheme n present high) (lt_of_le_of_ne least (λ e. other (sym e))) h
        (λ d e. opened_lt n d present low e) (λ d e. opened_lt n d present high e))
    split false false true f p l =
        let e = eqb-true round 33 l in
        rw (heard_verdict n round present messages e) (of_verdict (opened_by byte_scheme n present messages) e)
    split false false false f p l =
        let h = lt_of_le_of_ne (leb-false round 32 p) (λ e. eqb-false round 33 l (sym e)) in
        rw (heard_total n round present messages h) (of_total (opened_by amount_scheme n present messages) h)

-- ---- unmarked words change nothing

pub heard_unmarked : (n round : ℕ) (present messages messages' : List ℕ) → length messages ≡ length messages'
    → of_present present messages ≡ of_present present messages' → heard n round present messages ≡ heard n round present messages'
unfolding heard
heard_unmarked n round present messages messages' l e =
    let same : (f : ℕ → ℕ) → opened_by byte_scheme n present (map f messages) ≡ opened_by byte_scheme n present (map f messages') =
    λ f. unmarked byte_scheme n present (map f messages) (map f messages') (length-map messages f ∙ l ∙ sym (length-map messages' f))
    (choose_map f (marked present) messages ∙ ap (map f) e ∙ sym (choose_map f (marked present) messages')) in
    rw (unmarked amount_scheme n present messages messages' l e, same (λ w. w % 256), same (λ w. w / 256), unmarked byte_scheme n present messages messages' l e)
