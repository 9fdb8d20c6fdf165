-- What the tests of an opening by marks say of the words. Assumes nothing.
use Rattle.std.specs.Prelude.{None}
use mathlib.Core.Path.{◌≡◌, refl, sym, ap, ap₂, subst, ◌∙◌}
use mathlib.Core.Bool.{Bool, true, false, cond, ◌&&◌}
use mathlib.Core.List.{List, [], map}
use Prim.Native.Nat.{ℕ, zero, suc, ◌%◌, ◌≤◌}
use native.Mathlib.Omega.{arith}
use lib.Dec.{leb, ltb, eqb}
use lib.ListN.{length, take, length-map}
use lib.Seq.{length-take-le}
use borrow.Author.Tests.{le-leb, eqb-true, eq-eqb}
use Rattle.ranges.specs.Lists.{every}
use Rattle.ranges.proofs.Loops.{and-true}
use Rattle.sharing.specs.Scheme.{threshold, points}
use Rattle.weights.specs.Rows.{Scheme, byte_scheme}
use Rattle.openings.proofs.Settled.{count, cond_true, cond_false}
use Rattle.openings.proofs.Parts.{lows, lows_same}
use Rattle.presence.specs.Presence.{marked, of_present}
use Rattle.presence.proofs.Laws.{choose_map}
use Rattle.lowering.specs.Lines.{descended, Rising}
use Rattle.openings_at.specs.At.{agreed, opened_at}
use Rattle.openings_at.proofs.Opened.{at_bad}
use Rattle.present_openings.specs.Present.{sized, opened_by}
use Rattle.present_openings.specs.Law.{Sized}
use Rattle.present_openings.proofs.Points.{rising_points}

module _ (n : ℕ) (present words : List ℕ) where
  pub is_sized : Sized n present words → sized n present words ≡ true
  unfolding sized
  is_sized z = rw (le-leb 3 n z.at_least, le-leb n 9 z.at_most, eq-eqb (length present) n z.marks_many, eq-eqb (length words) n z.words_many)

  pub sized_as : sized n present words ≡ true → Sized n present words
  unfolding sized
  sized_as e =
      let b = and-true (leb 3 n && leb n 9 && eqb (length present) n) (eqb (length words) n) e in
      let c = count n present b.0 in
      record { at_least = c.0; at_most = c.1; marks_many = c.2; words_many = eqb-true (length words) n b.1 }

  -- so those who were present can be gathered
  pub gather_asks : Sized n present words → (length present ≤ 9) × (length words ≡ length present)
  gather_asks z = (omega (arith, z.at_most, z.marks_many), z.words_many ∙ sym z.marks_many)

  module _ (S : Scheme) where
    pub by_not : sized n present words ≡ false → opened_by S n present words ≡ None
    unfolding opened_by
    by_not e = cond_false (sized n present words) _ e

    pub by_marks : sized n present words ≡ true
        → opened_by S n present words ≡ opened_at S (threshold n) (of_present present (points n)) (of_present present words)
    unfolding opened_by
    by_marks e = cond_true (sized n present words) _ e

  -- those who are chosen: nobody where there are not as many marks and words as parties
  abbrev pub chosen : List ℕ → List ℕ
  chosen xs = cond (sized n present words) (of_present present xs) []

  -- those who were gathered are these
  module _ (e : sized n present words ≡ true) where
    pub points_chosen : (xs : List ℕ) → xs ≡ of_present present (points (length present)) → xs ≡ chosen (points n)
    points_chosen xs h =
        h ∙ ap (λ (m : ℕ). of_present present (points m)) (sized_as e).marks_many ∙ sym (ap (λ (b : Bool). cond b (of_present present (points n)) []) e)

    pub words_chosen : (xs : List ℕ) → xs ≡ of_present present words → xs ≡ chosen words
    words_chosen xs h = h ∙ sym (ap (λ (b : Bool). cond b (of_present present words) []) e)

  pub rising_chosen : (xs : List ℕ) → xs ≡ chosen (points n) → Rising 0 xs
  rising_chosen xs e = subst (Rising 0) (sym e) (go (sized n present words) refl)
    where
      go : (b : Bool) → sized n present words ≡ b → Rising 0 (cond b (of_present present (points n)) [])
      go true k = rising_points n present (sized_as k).at_most
      go false k = tt

  module _ (S : Scheme) (t : ℕ) (ht : t ≡ threshold n) where
    -- no words do not open
    none_at : opened_at S t [] [] ≡ None
    unfolding opened_at descended agreed every
    none_at = go t
      where
        go : (t : ℕ) → opened_at S t [] [] ≡ None
        go zero = refl
        go (suc t) = refl

    pub by_chosen : (xs ws : List ℕ) → xs ≡ chosen (points n) → ws ≡ chosen words → opened_at S t xs ws ≡ opened_by S n present words
    by_chosen xs ws hx hw = ap₂ (opened_at S t) hx hw ∙ go (sized n present words) refl
      where
        go : (b : Bool) → sized n present words ≡ b
            → opened_at S t (cond b (of_present present (points n)) []) (cond b (of_present present words) []) ≡ opened_by S n present words
        go true k = ap (λ (k : ℕ). opened_at S k (of_present present (points n)) (of_present present words)) ht ∙ sym (by_marks S k)
        go false k = none_at ∙ sym (by_not S k)

-- ---- parts of the words

module _ (f : ℕ → ℕ) (n : ℕ) (present words : List ℕ) where
  pub sized_part : sized n present (map f words) ≡ sized n present words
  unfolding sized
  sized_part = rw (length-map words f)

  part_chosen : (b : Bool) → map f (cond b (of_present present words) []) ≡ cond b (of_present present (map f words)) []
  part_chosen true = sym (choose_map f (marked present) words)
  part_chosen false = refl

  pub by_part : (S : Scheme) (t : ℕ) → t ≡ threshold n → (xs ws : List ℕ) → xs ≡ chosen n present words (points n) → ws ≡ chosen n present words words
      → opened_at S t xs (map f ws) ≡ opened_by S n present (map f words)
  by_part S t ht xs ws hx hw =
      by_chosen n present (map f words) S t ht xs (map f ws)
      (hx ∙ ap (λ (b : Bool). cond b (of_present present (points n)) []) (sym sized_part))
      (ap (map f) hw ∙ part_chosen (sized n present words) ∙ ap (λ (b : Bool). cond b (of_present present (map f words)) []) (sym sized_part))

-- ---- bytes

module _ (n : ℕ) (present words : List ℕ) where
  pub not_bytes : every (λ w. ltb w 256) (of_present present words) ≡ false → None ≡ opened_by byte_scheme n present words
  not_bytes e = sym (go (sized n present words) refl)
    where
      go : (b : Bool) → sized n present words ≡ b → opened_by byte_scheme n present words ≡ None
      go true k = by_marks n present words byte_scheme k ∙ at_bad byte_scheme (threshold n) _ _ e
      go false k = by_not n present words byte_scheme k

  -- bytes are their own lowest bytes
  pub lows_are : every (λ w. ltb w 256) (of_present present words) ≡ true
      → opened_by byte_scheme n present (lows words) ≡ opened_by byte_scheme n present words
  unfolding opened_by
  lows_are e =
      ap₂ (λ (b : Bool) (ws : List ℕ). cond b (opened_at byte_scheme (threshold n) (of_present present (points n)) ws) None)
      (sized_part (λ w. w % 256) n present words) (choose_map (λ w. w % 256) (marked present) words ∙ lows_same (of_present present words) e)

-- ---- words in an array of nine

pub taken : (count : ℕ) (xs : List ℕ) → count ≤ 9 → length xs ≡ 9 → length (take count xs) ≡ count
taken count xs h l = length-take-le count xs (omega (arith, h, l))
