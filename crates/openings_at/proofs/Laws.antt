-- The laws of opening at any different points, of numbers in any field with unit points. Assumes nothing.
use Rattle.std.specs.Prelude.{None, Some}
use mathlib.Core.Path.{◌≡◌, sym, ap, ap₂, ◌∙◌}
use mathlib.Core.Logic.{◌↔◌}
use mathlib.Core.Bool.{true, cond}
use mathlib.Core.List.{List, [], ◌∷◌}
use Prim.Native.Nat.{ℕ, suc, ◌-◌, ◌<◌}
use native.Mathlib.Nat.{suc_inj}
use native.Mathlib.Omega.{arith}
use lib.Dec.{ltb}
use lib.ListN.{length, replicate}
use Rattle.fields.specs.Ring.{Ops}
use Rattle.fields.specs.Field.{Field}
use Rattle.ranges.specs.Below.{AllBelow}
use Rattle.ranges.specs.Lists.{every}
use Rattle.ranges.proofs.Ranges.{all_below, is_below}
use Rattle.sharing.specs.Polynomial.{shares}
use Rattle.sharing.proofs.Laws.{shares_lt, interpolated, interpolated_lt, interpolated_length, interpolated_shares}
use Rattle.sharing.proofs.Points.{Different, points_below}
use Rattle.weights.specs.Rows.{Scheme}
use Rattle.openings.specs.Law.{Passes}
use Rattle.openings.proofs.Laws.{Fits}
use Rattle.openings.proofs.Settled.{cond_true, cond_secret}
use Rattle.lowering.specs.Lines.{descended}
use Rattle.lowering.proofs.Lowering.{length_descended}
use Rattle.openings_at.specs.At.{agreed, opened_at}
use Rattle.openings_at.proofs.Descended.{descended_shares, descended_through}
use Rattle.openings_at.proofs.Opened.{agreed_same, agreed_secret}

module _ {S : Scheme} {F : Field} (fits : Fits S F) where
  open F use {size as q, ops as O}

  -- what an opening at the points xs is
  at_field : (t : ℕ) (xs words : List ℕ)
      → opened_at S t xs words ≡ cond (every (λ w. ltb w q) words) (agreed (descended O F.gap t xs words)) None
  unfolding opened_at
  at_field t xs words =
      ap (λ (k : ℕ). cond (every (λ w. ltb w k) words) (agreed (descended S.ops S.gap t xs words)) None) fits.same_size
      ∙ ap₂ (λ (ops : Ops ℕ) (gap : ℕ → ℕ → ℕ). cond (every (λ w. ltb w q) words) (agreed (descended ops gap t xs words)) None)
      fits.same_ops fits.same_gap

  -- the shares of any t + 1 or more different points open to the secret
  pub opens_at : (t s : ℕ) (cs xs : List ℕ) → Different xs → t < length xs → s < q → AllBelow q cs → length cs ≡ t
      → opened_at S t xs (shares O (s ∷ cs) xs) ≡ Some s
  opens_at t s cs xs D h hs hc l =
      let words : List ℕ = shares O (s ∷ cs) xs in
      at_field t xs words
      ∙ cond_true (every (λ w. ltb w q) words) _ (is_below q words (shares_lt F (s ∷ cs) xs (hs, hc) (points_below F xs D)))
      ∙ ap agreed (descended_shares F t (suc (length xs - suc t)) s cs xs D hs hc l (omega arith))
      ∙ agreed_same s (length xs - suc t)

  -- words that open: t + 1 or more, in range, that agree
  pub opened_words : (t s : ℕ) (xs words : List ℕ) → length words ≡ length xs → opened_at S t xs words ≡ Some s
      → (t < length xs) × AllBelow q words × (descended O F.gap t xs words ≡ replicate (suc (length xs - suc t)) s)
  opened_words t s xs words l e =
      let c : (every (λ w. ltb w q) words ≡ true) × (agreed (descended O F.gap t xs words) ≡ Some s) =
      cond_secret (every (λ w. ltb w q) words) _ s (sym (at_field t xs words) ∙ e) in
      let a = agreed_secret (descended O F.gap t xs words) s c.1 in
      let m : length (descended O F.gap t xs words) ≡ length xs - t = length_descended O F.gap t xs words l in
      let k : length (descended O F.gap t xs words) ≡ suc (length xs - suc t) = omega (arith, a.0, m) in
      (omega (arith, a.0, m), all_below q words c.0, a.1 ∙ ap (λ (j : ℕ). replicate j s) k)

  -- words open exactly when a polynomial of degree at most t passes through them, and then to its value at 0
  pub exactly_at : (t s : ℕ) (xs words : List ℕ) → Different (O.zero ∷ xs) → t < length xs → length words ≡ length xs
      → (opened_at S t xs words ≡ Some s) ↔ Passes F t xs s words
  exactly_at t s xs words D h l = (
    λ e.
        let w = opened_words t s xs words l e in
        descended_through F t (length xs - suc t) s xs words D w.1 l (omega arith) w.2,
    λ p. ap (opened_at S t xs) (sym p.through) ∙ opens_at t s p.coefficients xs D.2 h p.secret_lt p.coefficients_lt p.degree,
  )

  -- exactly t + 1 words in range always open
  pub always_at : (t : ℕ) (xs words : List ℕ) → Different xs → AllBelow q words → length xs ≡ suc t → length words ≡ suc t
      → (s : ℕ) × (opened_at S t xs words ≡ Some s)
  always_at t xs words D hw lx lw =
      first (interpolated F xs words) (interpolated_lt F xs words) (interpolated_length F xs words (lw ∙ sym lx) ∙ lx)
      (interpolated_shares F xs words D hw (lw ∙ sym lx))
    where
      first : (cs : List ℕ) → AllBelow q cs → length cs ≡ suc t → shares O cs xs ≡ words → (s : ℕ) × (opened_at S t xs words ≡ Some s)
      first [] hc l e = absurd (omega arith)
      first (s ∷ cs) hc l e = (s, ap (opened_at S t xs) (sym e) ∙ opens_at t s cs xs D (omega arith) hc.0 hc.1 (suc_inj l))
