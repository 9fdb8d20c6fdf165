-- The laws of opening by marks, of numbers in any field with unit points. Assumes nothing.
use Rattle.std.specs.Prelude.{None, Some}
use mathlib.Core.Path.{◌≡◌, refl, sym, ap, subst, subst₂, ◌∙◌}
use mathlib.Core.Logic.{◌↔◌}
use mathlib.Core.Bool.{true}
use mathlib.Core.List.{List, ◌∷◌}
use Prim.Native.Nat.{ℕ, suc, ◌≤◌, ◌<◌}
use native.Mathlib.Omega.{arith}
use lib.Dec.{eqb}
use lib.ListN.{length, length-map, length-replicate}
use Rattle.fields.specs.Field.{Field}
use Rattle.ranges.specs.Below.{AllBelow}
use Rattle.ranges.specs.Lists.{every}
use Rattle.ranges.proofs.Loops.{length_from, every_replicate}
use Rattle.sharing.specs.Polynomial.{value, shares}
use Rattle.sharing.specs.Scheme.{threshold, points}
use Rattle.sharing.proofs.Points.{Different}
use Rattle.weights.specs.Rows.{Scheme}
use Rattle.openings.specs.Law.{Passes, OnPolynomial}
use Rattle.openings.specs.Opening.{opened}
use Rattle.openings.specs.Opening.{Opening}
use Rattle.openings.proofs.Laws.{Fits, exactly}
use Rattle.openings.proofs.Settled.{cond_secret}
use Rattle.presence.specs.Presence.{marked, of_present, how_many, everyone}
use Rattle.presence.proofs.Laws.{length_choose, choose_map, how_many_points, choose_all, how_many_all}
use Rattle.openings_at.specs.At.{opened_at}
use Rattle.openings_at.proofs.Laws.{opened_words, exactly_at, always_at}
use Rattle.present_openings.specs.Present.{sized, opened_by}
use Rattle.present_openings.specs.Law.{Sized, OnPresent}
use Rattle.present_openings.proofs.Points.{zero_choose}
use Rattle.present_openings.proofs.Opened.{is_sized, sized_as, by_marks}

module _ {S : Scheme} {F : Field} (fits : Fits S F) where
  open F use {size as q, ops as O}

  module _ (n : ℕ) (present words : List ℕ) where
    -- those who were present, and their words
    abbrev xs : List ℕ
    xs = of_present present (points n)

    abbrev ws : List ℕ
    ws = of_present present words

    apart_points : n ≤ 9 → Different (O.zero ∷ xs)
    apart_points h = subst (λ (z : ℕ). Different (z ∷ xs)) (sym fits.zero_is) (zero_choose n present h)

    same_many : length words ≡ n → length ws ≡ length xs
    same_many l = length_choose (marked present) words (points n) (l ∙ sym (length_from 1 n))

    points_many : length present ≡ n → length xs ≡ how_many present
    points_many l = how_many_points present (points n) (length_from 1 n ∙ sym l)

    only_present : (s : ℕ) → opened_by S n present words ≡ Some s → OnPresent F n present s words
    unfolding opened_by
    only_present s e =
        let c : (sized n present words ≡ true) × (opened_at S (threshold n) xs ws ≡ Some s) = cond_secret (sized n present words) _ s e in
        let z : Sized n present words = sized_as n present words c.0 in
        let l : length ws ≡ length xs = same_many z.words_many in
        let h : threshold n < length xs = (opened_words fits (threshold n) s xs ws l c.1).0 in
        record {
          sized = z;
          enough = subst (λ (k : ℕ). threshold n < k) (points_many z.marks_many) h;
          passes = (exactly_at fits (threshold n) s xs ws (apart_points z.at_most) h l).0 c.1;
        }

    are_sized : Sized n present words → opened_by S n present words ≡ opened_at S (threshold n) xs ws
    are_sized z = by_marks n present words S (is_sized n present words z)

    -- the marked words open exactly when t + 1 or more are marked and a polynomial of degree at most t passes through them
    pub exactly_by : (s : ℕ) → (opened_by S n present words ≡ Some s) ↔ OnPresent F n present s words
    exactly_by s = (
      only_present s,
      λ p.
          let z = p.sized in
          let h = subst (λ (k : ℕ). threshold n < k) (sym (points_many z.marks_many)) p.enough in
          are_sized z ∙ (exactly_at fits (threshold n) s xs ws (apart_points z.at_most) h (same_many z.words_many)).1 p.passes,
    )

    -- exactly t + 1 marked words in range always open
    pub always_by : 3 ≤ n → n ≤ 9 → length present ≡ n → length words ≡ n → how_many present ≡ suc (threshold n) → AllBelow q ws
        → (s : ℕ) × (opened_by S n present words ≡ Some s)
    always_by h3 h9 lp lw m h =
        let lx : length xs ≡ suc (threshold n) = points_many lp ∙ m in
        let a = always_at fits (threshold n) xs ws (apart_points h9).2 h lx (same_many lw ∙ lx) in
        (a.0, are_sized (record { at_least = h3; at_most = h9; marks_many = lp; words_many = lw }) ∙ a.1)

  -- the shares of any t + 1 or more marked parties open to the secret
  pub opens_by : (n s : ℕ) (cs present : List ℕ) → 3 ≤ n → n ≤ 9 → s < q → AllBelow q cs → length cs ≡ threshold n
      → length present ≡ n → threshold n < how_many present → opened_by S n present (shares O (s ∷ cs) (points n)) ≡ Some s
  opens_by n s cs present h3 h9 hs hc l lp m =
      (exactly_by n present (shares O (s ∷ cs) (points n)) s).1
      (record {
        sized = record { at_least = h3; at_most = h9; marks_many = lp; words_many = length-map (points n) (value O (s ∷ cs)) ∙ length_from 1 n };
        enough = m;
        passes =
            record {
              secret_lt = hs;
              coefficients = cs;
              coefficients_lt = hc;
              degree = l;
              through = sym (choose_map (value O (s ∷ cs)) (marked present) (points n));
            };
      })

  -- openings to the same secrets
  same_opening : (a b : Opening) → ((s : ℕ) → a ≡ Some s → b ≡ Some s) → ((s : ℕ) → b ≡ Some s → a ≡ Some s) → a ≡ b
  same_opening (Some v) b f g = sym (f v refl)
  same_opening None (Some v) f g = g v refl
  same_opening None None f g = refl

  -- where all were present, it is what opening all n words is
  pub all_marked : (n : ℕ) (present words : List ℕ) → length present ≡ n → every (eqb 1) present ≡ true
      → opened_by S n present words ≡ opened S n words
  all_marked n present words lp e =
      let all : of_present present (points n) ≡ points n = choose_all present (points n) (length_from 1 n ∙ sym lp) e in
      let whole : length words ≡ n → of_present present words ≡ words = λ l. choose_all present words (l ∙ sym lp) e in
      same_opening (opened_by S n present words) (opened S n words)
      (λ s h.
      let p : OnPresent F n present s words = (exactly_by n present words s).0 h in
      let z = p.sized in
      (exactly fits n s words).1
      (record {
        at_least = z.at_least;
        at_most = z.at_most;
        passes = subst₂ (λ (xs ws : List ℕ). Passes F (threshold n) xs s ws) all (whole z.words_many) p.passes;
      }))
      (λ s h.
      let p : OnPolynomial F n s words = (exactly fits n s words).0 h in
      let v = p.passes in
      let lw : length words ≡ n = ap length (sym v.through) ∙ length-map (points n) (value O (s ∷ v.coefficients)) ∙ length_from 1 n in
      (exactly_by n present words s).1
      (record {
        sized = record { at_least = p.at_least; at_most = p.at_most; marks_many = lp; words_many = lw };
        enough = omega (arith, p.at_least, lp, how_many_all present e);
        passes = subst₂ (λ (xs ws : List ℕ). Passes F (threshold n) xs s ws) (sym all) (sym (whole lw)) v;
      }))

  pub by_everyone : (n : ℕ) (words : List ℕ) → opened S n words ≡ opened_by S n (everyone n) words
  by_everyone n words = sym (all_marked n (everyone n) words (length-replicate {A = ℕ} n 1) (every_replicate (eqb 1) 1 n refl))

-- the words of those who were not present change nothing
pub unmarked : (S : Scheme) (n : ℕ) (present words words' : List ℕ) → length words ≡ length words'
    → of_present present words ≡ of_present present words' → opened_by S n present words ≡ opened_by S n present words'
unfolding opened_by sized
unmarked S n present words words' l e = rw (l, e)
