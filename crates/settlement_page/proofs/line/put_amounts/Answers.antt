-- `put_amounts` meets its contract: its columns follow one another. Assumes nothing.
use mathlib.Core.Path.{◌≡◌, sym, ap, ap₂, ◌∙◌}
use mathlib.Core.Bool.{true}
use mathlib.Core.List.{List, [], ◌∷◌, ◌++◌, append_assoc}
use Prim.Native.Nat.{ℕ, ◌+◌, ◌*◌, ◌≤◌}
use native.Mathlib.Omega.{arith}
use lib.ListN.{length, take, drop, set, length-append, length-drop, length-set}
use lib.Seq.{length-take-le, take_all, take_at, take-suc-set}
use borrow.Rule.Slice.PartMut.{put_mid, same_len_mid}
use Rattle.ranges.specs.Sizes.{highest_price}
use Rattle.bid.specs.Table.{most}
use Rattle.settlement_page.specs.Page.{in_range, right, hours_shown, pence_due, amounts}
use Rattle.settlement_page.proofs.Aligned.{length_right}
use Rattle.settlement_page.proofs.Lines.{wanted_most, got_most, hours_fit, due_most, pence_fit}
use Rattle.settlement_page.proofs.line.put_amounts.Goals as goal
use Rattle.settlement_page.proofs.line.put_amounts.Goals.{Start}

-- so many bytes after the title are filled
record Filled (a : ℕ) (text xs : List ℕ) : Type 0 where
  front : take a xs ≡ text
  long : length xs ≡ 51

-- a part of them
room : (a k : ℕ) (xs : List ℕ) → length xs ≡ 51 → a + k ≤ 51 → length (take k (drop a xs)) ≡ k
room a k xs long h = length-take-le k (drop a xs) (omega (arith, length-drop a xs))

-- is filled
more : (a k : ℕ) (columns part : List ℕ) {text xs : List ℕ} → Filled a text xs → a + k ≤ 51 → length columns ≤ k
    → part ≡ right (length (take k (drop a xs))) columns → Filled (a + k) (text ++ right k columns) (put_mid a k xs part)
more a k columns part {text} {xs} f h fits e =
    let here = room a k xs f.long h in
    let is : part ≡ right k columns = e ∙ ap (λ (m : ℕ). right m columns) here in
    let size : length part ≡ k = ap length is ∙ length_right k columns fits in
    record {
      front =
          ap (take (a + k)) (sym (append_assoc (take a xs) part (drop k (drop a xs))))
          ∙ take_at (take a xs ++ part) (drop k (drop a xs)) (a + k)
          (length-append (take a xs) part ∙ ap₂ ◌+◌ (length-take-le a xs (omega (arith, f.long))) size)
          ∙ ap₂ ◌++◌ f.front is;
      long = same_len_mid a k xs part (size ∙ sym here) ∙ f.long;
    }

-- ---- what the calls fill, one after another

-- what is required
record Asked (out : List ℕ) (price wanted got : ℕ) : Type 0 where
  long : length out ≡ 51
  cheap : price ≤ highest_price
  ranged : in_range wanted got ≡ true

module _ (out : List ℕ) (price wanted got : ℕ) (asked : Asked out price wanted got) where
  wanted_small : wanted ≤ most
  wanted_small = wanted_most price wanted got asked.cheap asked.ranged

  got_small : got ≤ most
  got_small = got_most price wanted got asked.cheap asked.ranged

  due_small : got * price ≤ most * highest_price
  due_small = due_most price got asked.cheap got_small

  abbrev wanted_text : List ℕ
  wanted_text = right 12 (hours_shown wanted)

  abbrev got_text : List ℕ
  got_text = wanted_text ++ right 12 (hours_shown got)

  abbrev pence_text : List ℕ
  pence_text = got_text ++ right 26 (pence_due price got)

  module _ (t : List ℕ) (made : t ≡ right (length (take 12 out)) (hours_shown wanted)) where
    abbrev wanted_out : List ℕ
    wanted_out = t ++ drop 12 out

    with_wanted : Filled 12 wanted_text wanted_out
    with_wanted =
        let text = hours_shown wanted in
        let is : t ≡ right 12 text = made ∙ ap (λ (m : ℕ). right m text) (room 0 12 out asked.long (omega arith)) in
        let size : length t ≡ 12 = ap length is ∙ length_right 12 text (hours_fit _ wanted_small) in
        record {
          front = take_at t (drop 12 out) 12 size ∙ is;
          long = length-append t (drop 12 out) ∙ omega (arith, length-drop 12 out, asked.long);
        }

    module _ (u : List ℕ) (next : u ≡ right (length (take 12 (drop 12 wanted_out))) (hours_shown got)) where
      abbrev got_out : List ℕ
      got_out = put_mid 12 12 wanted_out u

      with_got : Filled 24 got_text got_out
      with_got = more 12 12 _ u with_wanted (omega arith) (hours_fit _ got_small) next

      module _ (v : List ℕ) (last : v ≡ right (length (take 26 (drop 24 got_out))) (pence_due price got)) where
        abbrev pence_out : List ℕ
        pence_out = put_mid 24 26 got_out v

        with_pence : Filled 50 pence_text pence_out
        with_pence = more 24 26 _ v with_got (omega arith) (pence_fit _ _ asked.cheap got_small) last

asked_of : (c : Start) → Asked c.args.out.now c.args.price c.args.wanted c.args.got
asked_of c = record { long = c.requires.0; cheap = c.requires.1; ranged = c.requires.2 }

pub slice_bounds-put_tenths-end-2 : goal.slice_bounds-put_tenths-end-2
slice_bounds-put_tenths-end-2 c = sym (room 0 12 c.args.out.now c.requires.0 (omega arith))

pub put_tenths-requires : goal.put_tenths-requires
put_tenths-requires c =
    let s = wanted_small _ _ _ _ (asked_of (goal.at.put_tenths-requires c).Start) in
    rw (room 0 12 c.args.out.now c.requires.0 (omega arith)) (omega arith, omega (arith, s))

pub put_tenths-requires-2 : goal.put_tenths-requires-2
put_tenths-requires-2 c =
    let q = asked_of (goal.at.put_tenths-requires-2 c).Start in
    let f = with_wanted _ _ _ _ q c.put_tenths.new.columns c.put_tenths.ensures in
    rw (room 12 12 (c.put_tenths.new.columns ++ drop 12 c.args.out.now) f.long (omega arith)) (omega arith, omega (arith, got_small _ _ _ _ q))

pub overflow_mul-got : goal.overflow_mul-got
overflow_mul-got c = record { fits = omega (arith, due_small _ _ _ _ (asked_of (goal.at.overflow_mul-got c).Start)) }

pub put_tenths-requires-3 : goal.put_tenths-requires-3
put_tenths-requires-3 c =
    let q = asked_of (goal.at.put_tenths-requires-3 c).Start in
    let f = with_got _ _ _ _ q c.put_tenths.new.columns c.put_tenths.ensures c.put_tenths-2.new.columns c.put_tenths-2.ensures in
    rw (room 24 26 (put_mid 12 12 (c.put_tenths.new.columns ++ drop 12 c.args.out.now) c.put_tenths-2.new.columns) f.long (omega arith)) (omega arith, omega (arith, due_small _ _ _ _ q))

pub shape_of-out : goal.shape_of-out
shape_of-out c =
    let q = asked_of (goal.at.shape_of-out c).Start in
    let f = with_pence _ _ _ _ q c.put_tenths.new.columns c.put_tenths.ensures c.put_tenths-2.new.columns c.put_tenths-2.ensures c.put_tenths-3.new.columns c.put_tenths-3.ensures in
    length-set _ 50 10 ∙ f.long ∙ sym c.requires.0

pub returns : goal.returns
unfolding amounts
returns c =
    let q = asked_of (goal.at.returns c).Start in
    let f = with_pence _ _ _ _ q c.put_tenths.new.columns c.put_tenths.ensures c.put_tenths-2.new.columns c.put_tenths-2.ensures c.put_tenths-3.new.columns c.put_tenths-3.ensures in
    let xs = put_mid 24 26 (put_mid 12 12 (c.put_tenths.new.columns ++ drop 12 c.args.out.now) c.put_tenths-2.new.columns) c.put_tenths-3.new.columns in
    sym (take_all 51 (set xs 50 10) (omega (arith, length-set xs 50 10, f.long)))
    ∙ take-suc-set xs 50 10 (omega (arith, f.long))
    ∙ ap (λ (l : List ℕ). l ++ (10 ∷ [])) f.front
    ∙ simp append_assoc
