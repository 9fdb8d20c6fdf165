-- Laws of the roll. Assumes nothing.
use mathlib.Core.Path.{◌≡◌, refl, sym, ap, ◌∙◌}
use mathlib.Core.Bool.{Bool, true, false, not, ◌||◌}
use mathlib.Core.List.{List}
use Prim.Native.Nat.{ℕ, zero, suc, ◌+◌, ◌-◌, ◌/◌, ◌%◌, ◌^◌, ◌≤◌, ◌<◌}
use native.Mathlib.Nat.{zero-div}
use native.Mathlib.Numerals.{add-one}
use native.Mathlib.Decide.{dec_le}
use native.Mathlib.Omega.{arith}
use lib.Dec.{eqb}
use lib.Bits.{bit_or}
use lib.ListN.{length, get_or, set, replicate, length-set, get_or-eq_default}
use lib.Seq.{get_or-set_same, get_or-set_other, set-set, set_comm}
use borrow.Author.Tests.{eqb-true, eqb-false, eq-eqb, not-true}
use Rattle.ranges.specs.Lists.{from, every, count}
use Rattle.ranges.proofs.Loops.{and-true, every_at, every_from, length_from, getD_from}
use Rattle.ranges.proofs.Counting.{count_add, count_most, count_none, count_all, count_more}
use Rattle.roll.specs.declared.Roll.{Roll}
use Rattle.roll.specs.Marks.{is_set, marked, marks, proper, empty, mark}
use Rattle.roll.proofs.Bits.{set_bit, other_bit, set_swap}

-- past the words nobody is marked
pub nobody_past : (roll : Roll) (b : ℕ) → length roll.words ≤ b / 64 → marked roll b ≡ false
unfolding marked
nobody_past roll b h = rw (get_or-eq_default roll.words 0 h, zero-div (2 ^ (b % 64)))

-- ---- a proper roll

pub record Proper (roll : Roll) : Type 0 where
  pub long : length roll.words ≡ 16
  -- nobody but bidders is marked
  pub first : marked roll 0 ≡ false
  pub past : (b : ℕ) → 1000 < b → marked roll b ≡ false

-- places in a row, one by one
places : (f : ℕ → Bool) (a m : ℕ) → every f (from a m) ≡ true → (b : ℕ) → a ≤ b → b < a + m → f b ≡ true
places f a m e b l h =
    ap f (omega (arith, getD_from a m (b - a) (omega arith))) ∙ every_at f (from a m) (b - a) e (omega (arith, length_from a m))

module _ (roll : Roll) where
  pub proper_facts : proper roll ≡ true → Proper roll
  unfolding proper every
  proper_facts e =
      let a = and-true _ _ e in
      let nobody = and-true _ _ a.1 in
      let long = eqb-true _ _ a.0 in
      record {
        long = long;
        first = not-true _ nobody.0;
        past = λ b h.
            elim (dec_le 1024 b) [
              | yes le ↦ nobody_past roll b (omega arith)
              | no gt ↦ not-true _ (places (λ b. not (marked roll b)) 1001 23 nobody.1 b h (omega arith))
            ];
      }

  pub proper_of : Proper roll → proper roll ≡ true
  unfolding proper every
  proper_of h =
      rw (eq-eqb (length roll.words) 16 h.long, h.first, every_from (λ b. not (marked roll b)) 1001 23 (λ b l m. ap not (h.past b l)))

module _ (roll : Roll) (P : Proper roll) where
  -- the marks are those of bidders
  inner : marks roll ≡ count (λ i. marked roll (1 + i)) 1000
  unfolding marks
  inner =
      let f : ℕ → Bool = λ i. marked roll (1 + i) in
      let front = count_add (marked roll) 1 1023 in
      let back = count_add f 1000 23 in
      omega (
        arith,
        front,
        back,
        count_none (marked roll) 1 (λ i l. ap (marked roll) (omega arith) ∙ P.first),
        count_none (λ i. f (1000 + i)) 23 (λ i l. P.past _ (omega arith)),
      )

  pub marks_most : marks roll ≤ 1000
  marks_most = omega (arith, inner, count_most (λ i. marked roll (1 + i)) 1000)

  -- with 1,000 marks every bidder is in
  pub all_marked : marks roll ≡ 1000 → (b : ℕ) → 1 ≤ b → b ≤ 1000 → marked roll b ≡ true
  all_marked e b l m =
      ap (marked roll) (omega arith) ∙ count_all (λ i. marked roll (1 + i)) 1000 (sym inner ∙ e) (b - 1) (omega arith)

-- ---- a bidder who is not in yet enters: exactly that mark is new

pub record Free (roll : Roll) (b : ℕ) : Type 0 where
  pub least : 1 ≤ b
  pub most : b ≤ 1000
  pub new : marked roll b ≡ false

module _ (roll : Roll) (P : Proper roll) (b : ℕ) (F : Free roll b) where
  there : b / 64 < length roll.words
  there = omega (arith, P.long, F.most)

  pub marked_self : marked (mark roll b) b ≡ true
  unfolding marked mark
  marked_self =
      ap (λ (w : ℕ). is_set w (b % 64)) (get_or-set_same roll.words (b / 64) _ 0 there)
      ∙ set_bit (get_or roll.words (b / 64) 0) (b % 64)

  pub marked_other : (c : ℕ) → (c ≡ b → ⊥) → marked (mark roll b) c ≡ marked roll c
  unfolding marked mark
  marked_other c d = split (eqb (c / 64) (b / 64)) refl
    where
      split : (t : Bool) → eqb (c / 64) (b / 64) ≡ t → marked (mark roll b) c ≡ marked roll c
      split true t =
          let e : c / 64 ≡ b / 64 = eqb-true _ _ t in
          let apart : c % 64 ≡ b % 64 → ⊥ = λ f. d (omega arith) in
          rw e
          (ap (λ (w : ℕ). is_set w (c % 64)) (get_or-set_same roll.words (b / 64) _ 0 there)
          ∙ other_bit (get_or roll.words (b / 64) 0) (c % 64) (b % 64) apart)
      split false t = ap (λ (w : ℕ). is_set w (c % 64)) (get_or-set_other roll.words (b / 64) (c / 64) _ 0 (eqb-false _ _ t))

  -- both in one
  pub marked_mark : (c : ℕ) → marked (mark roll b) c ≡ eqb c b || marked roll c
  marked_mark c = split (eqb c b) refl
    where
      split : (t : Bool) → eqb c b ≡ t → marked (mark roll b) c ≡ t || marked roll c
      split true e = ap (marked (mark roll b)) (eqb-true c b e) ∙ marked_self
      split false e = marked_other c (eqb-false c b e)

  pub marks_mark : marks (mark roll b) ≡ marks roll + 1
  unfolding marks
  marks_mark =
      count_more (marked roll) (marked (mark roll b)) 1024 b (omega (arith, F.most)) F.new marked_self marked_other ∙ sym (add-one _)

  pub proper_mark : Proper (mark roll b)
  unfolding mark
  proper_mark =
      record {
        long = simp length-set P.long;
        first = marked_other 0 (λ e. omega (arith, F.least)) ∙ P.first;
        past = λ c h. marked_other c (λ e. omega (arith, F.most)) ∙ P.past c h;
      }

-- ---- two bidders enter, in either order

-- word i has these bits, too
abbrev join : List ℕ → (i bits : ℕ) → List ℕ
join ws i bits = set ws i (bit_or (get_or ws i 0) bits)

module _ (ws : List ℕ) (i : ℕ) where
  join_twice : (x y : ℕ) → i < length ws → join (join ws i x) i y ≡ set ws i (bit_or (bit_or (get_or ws i 0) x) y)
  join_twice x y h = set-set ws i _ _ ∙ ap (λ (w : ℕ). set ws i (bit_or w y)) (get_or-set_same ws i _ 0 h)

  join_other : (j x y : ℕ) → (j ≡ i → ⊥) → join (join ws i x) j y ≡ set (set ws i (bit_or (get_or ws i 0) x)) j (bit_or (get_or ws j 0) y)
  join_other j x y h = ap (λ (w : ℕ). set (join ws i x) j (bit_or w y)) (get_or-set_other ws i j _ 0 h)

  join_swap : (j x y : ℕ) → i < length ws → join (join ws i x) j y ≡ join (join ws j y) i x
  join_swap j x y h = split (eqb i j) refl
    where
      split : (t : Bool) → eqb i j ≡ t → join (join ws i x) j y ≡ join (join ws j y) i x
      split true t =
          let e : i ≡ j = eqb-true i j t in
          ap (λ (j : ℕ). join (join ws i x) j y) (sym e)
          ∙ join_twice x y h
          ∙ ap (set ws i) (set_swap (get_or ws i 0) x y)
          ∙ sym (join_twice y x h)
          ∙ ap (λ (j : ℕ). join (join ws j y) i x) e
      split false t =
          let d = eqb-false i j t in
          join_other j x y (λ e. d (sym e)) ∙ set_comm ws i j _ _ d ∙ ap (λ (w : ℕ). set (join ws j y) i (bit_or w x)) (sym (get_or-set_other ws j i _ 0 d))

pub mark_swap : (roll : Roll) → Proper roll → (b c : ℕ) → b ≤ 1000 → mark (mark roll b) c ≡ mark (mark roll c) b
unfolding mark
mark_swap roll P b c most =
    ap (λ (ws : List ℕ). record { words = ws }) (join_swap roll.words (b / 64) (c / 64) (2 ^ (b % 64)) (2 ^ (c % 64)) (omega (arith, P.long)))

-- ---- at the start nobody is in

zeros_at : (m i : ℕ) → ◌≡◌ {A = ℕ} (get_or (replicate m 0) i 0) 0
zeros_at zero i = refl
zeros_at (suc m) zero = refl
zeros_at (suc m) (suc i) = zeros_at m i

pub nobody_in : (b : ℕ) → marked empty b ≡ false
unfolding marked empty
nobody_in b = ap (λ (w : ℕ). is_set w (b % 64)) (zeros_at 16 (b / 64)) ∙ rw (zero-div (2 ^ (b % 64)))

pub proper_empty : Proper empty
unfolding empty
proper_empty = record { long = refl; first = nobody_in 0; past = λ b h. nobody_in b }

pub marks_empty : marks empty ≡ 0
unfolding marks
marks_empty = count_none (marked empty) 1024 (λ b l. nobody_in b)
