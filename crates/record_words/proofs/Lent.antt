-- A lent slice is a record, or none. Assumes nothing.
use Rattle.std.specs.Prelude.{Err, Ok}
use mathlib.Core.Path.{◌≡◌, refl, ap, ◌∙◌}
use mathlib.Core.Bool.{Bool, true, false, not, ◌&&◌}
use mathlib.Core.List.{List, ◌∷◌}
use Prim.Native.Nat.{ℕ}
use lib.ListN.{length}
use borrow.Author.Tests.{eqb-true, not-false}
use Rattle.refusal.specs.Refusal.{code_of}
use Rattle.refusal.specs.Judging.{Test, ◌⇒◌, judged, then}
use Rattle.refusal.specs.declared.Refusal.TheVariants as refusal
use Rattle.refusal.specs.Refusal.{Judgement}
use Rattle.refusal.proofs.Judging.{refuses, passes, all_passed, kept_new, kept_old, kept_either}
use Rattle.ranges.specs.Sizes.{long}
use Rattle.record_words.specs.Words.{record_size, record_judgement, on_record, code_on, code_without}

module _ (words : List ℕ) where
  pub lent_long : not (long record_size words) ≡ false → length words ≡ record_size
  lent_long e = eqb-true (length words) record_size (not-false _ e)

  pub record_lent : not (long record_size words) ≡ false → record_judgement words ≡ Ok tt
  unfolding record_judgement
  record_lent e = passes _ _ _ e ∙ all_passed

  pub none_lent : not (long record_size words) ≡ true → record_judgement words ≡ Err refusal.WrongLength
  unfolding record_judgement
  none_lent e = refuses _ _ _ e

  module _ {A : Type 0} (given otherwise : A) where
    pub with_record : not (long record_size words) ≡ false → on_record words given otherwise ≡ given
    with_record e = kept_new _ _ _ (record_lent e)

    pub no_record : not (long record_size words) ≡ true → on_record words given otherwise ≡ otherwise
    no_record e = kept_old _ _ _ _ (none_lent e)

    -- where the call leaves it as it was, record or none
    pub left_alone : given ≡ otherwise → on_record words given otherwise ≡ otherwise
    left_alone e = kept_either (record_judgement words) given otherwise (λ x. x ≡ otherwise) (λ h. e) refl

  -- without a record the rest does not count
  pub no_record_code : (in_range : Bool) (rest : Judgement) → not (long record_size words) ≡ true → code_on words in_range rest ≡ code_without in_range
  unfolding code_on judged
  no_record_code false rest e = refl
  no_record_code true rest e = ap (λ (j : Judgement). code_of (then j rest)) (none_lent e)

  -- with one, a call that judges what needs no record beside the record gives its own number
  pub with_record_code : (fine in_range : Bool) (tests : List Test) → not (long record_size words) ≡ false
      → code_on words in_range (judged ((not (fine && in_range) ⇒ refusal.OutOfRange) ∷ tests))
      ≡ code_of (judged ((not (fine && in_range) ⇒ refusal.OutOfRange) ∷ tests))
  unfolding code_on judged
  with_record_code false false tests e = refl
  with_record_code true false tests e = refl
  with_record_code fine true tests e = ap (λ (j : Judgement). code_of (then j (judged ((not (fine && true) ⇒ refusal.OutOfRange) ∷ tests)))) (record_lent e)
