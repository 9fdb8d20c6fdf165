-- What a list of tests says, and what a call leaves. Assumes nothing.
use Rattle.std.specs.Prelude.{Err, Ok}
use mathlib.Core.Path.{◌≡◌, refl}
use mathlib.Core.Bool.{Bool, true, false}
use mathlib.Core.List.{List, [], ◌∷◌, ◌++◌}
use Rattle.refusal.specs.Judging.{Test, ◌⇒◌, judged, then, kept}
use Rattle.refusal.specs.declared.Refusal.{Refusal}
use Rattle.refusal.specs.Refusal.{Judgement}

-- the first fault of a list refuses, and where it is not there the others count
module _ (fault : Bool) (why : Refusal) (tests : List Test) where
  pub refuses : fault ≡ true → judged ((fault ⇒ why) ∷ tests) ≡ Err why
  unfolding judged
  refuses e = rw e

  pub passes : fault ≡ false → judged ((fault ⇒ why) ∷ tests) ≡ judged tests
  unfolding judged
  passes e = rw e

pub all_passed : judged [] ≡ Ok tt
unfolding judged
all_passed = refl

pub passed : (fault : Bool) (why : Refusal) (tests : List Test) → judged ((fault ⇒ why) ∷ tests) ≡ Ok tt
    → (fault ≡ false) × (judged tests ≡ Ok tt)
unfolding judged
passed false why tests e = (refl, e)
passed true why tests e = (cc, cc)

-- tests that count before others
pub judged_append : (first tests : List Test) → judged (first ++ tests) ≡ then (judged first) (judged tests)
unfolding judged
judged_append [] tests = refl
judged_append ((false ⇒ why) ∷ first) tests = judged_append first tests
judged_append ((true ⇒ why) ∷ first) tests = refl

pub then_accepted : (j next : Judgement) → then j next ≡ Ok tt → (j ≡ Ok tt) × (next ≡ Ok tt)
then_accepted (Ok tt) next e = (refl, e)
then_accepted (Err why) next e = (cc, cc)

-- what a call leaves
module _ {A : Type 0} (judgement : Judgement) (new old : A) where
  pub kept_new : judgement ≡ Ok tt → kept judgement new old ≡ new
  unfolding kept
  kept_new e = rw e

  pub kept_old : (why : Refusal) → judgement ≡ Err why → kept judgement new old ≡ old
  unfolding kept
  kept_old why e = rw e

  -- what holds of the new contents, where the call is accepted, and of the old ones
  pub kept_either : (P : A → Type 0) → (judgement ≡ Ok tt → P new) → P old → P (kept judgement new old)
  unfolding kept
  kept_either P accepted same = cases judgement accepted
    where
      cases : (j : Judgement) → (j ≡ Ok tt → P new) → P (kept j new old)
      cases (Ok tt) go = go refl
      cases (Err why) go = same
