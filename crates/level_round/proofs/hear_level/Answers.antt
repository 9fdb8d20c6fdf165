-- `hear_level` meets its contract: the products are opened, and where all open the words are kept. Assumes nothing.
use Rattle.std.proofs.Common.{Option, Some, None, rules}
use mathlib.Core.Path.{◌≡◌, sym, ap, ◌∙◌}
use mathlib.Core.Bool.{Bool, true, false, cond}
use mathlib.Core.List.{List, ◌++◌, map}
use Prim.Native.Nat.{ℕ, ◌*◌, ◌≤◌}
use native.Mathlib.Omega.{arith}
use lib.Dec.{ltb}
use lib.ListN.{length, take, drop, replicate, length-append}
use lib.Seq.{length-take-le, take_at}
use Rattle.ranges.specs.Lists.{every}
use Rattle.ways.specs.Way.{tree, width}
use Rattle.presence.specs.Presence.{all_or}
use Rattle.kept_pairs.specs.declared.Pairs.{Pairs}
use Rattle.comparison.specs.Pairs.{Sides}
use Rattle.level.specs.Level.{level_kept}
use Rattle.level.proofs.Laws.{wide, kept_length, kept_past}
use Rattle.level_round.specs.Columns.{level_opened, level_sides}
use Rattle.level_round.specs.Words.{word_sides, column_words}
use Rattle.level_round.proofs.Laws.{sides_length}
use Rattle.level_round.proofs.Words.{words_length, words_opened, words_sides, whole_kept}
use Rattle.level_round.proofs.hear_level.Goals as goal
use Rattle.level_round.proofs.hear_level.Goals.{After-all_below, After-open_products, After-width-w, Else-not-all_below}

abbrev zeros : List ℕ
zeros = replicate 32 0

-- what is answered, by whether all products opened
abbrev answer : Bool → List ℕ → Option Pairs
answer all K = let kept : Pairs = record { words = K } in cond all (Some kept) None

-- the words that are said
module _ (c : After-width-w) where
  said : c.width-w.result ≡ width tree c.args.level.now.round
  said = c.width-w.ensures

  few : c.width-w.result ≤ 32
  few =
      let W = wide c.args.level.now.round c.args.level.now.ready.least c.args.level.now.ready.most in
      omega (arith, said, W.twice, W.most)

  front : length (take c.width-w.result zeros) ≡ c.width-w.result
  front = length-take-le c.width-w.result zeros few

-- what stands in front of a slice's words
opened : (n round w : ℕ) (P messages made : List ℕ) → w ≡ width tree round → made ≡ column_words n w P messages
    → take w (made ++ drop w zeros) ≡ column_words n (width tree round) P messages
opened n round w P messages made h e =
    take_at made (drop w zeros) w (ap length e ∙ words_length n w P messages) ∙ e ∙ ap (λ (k : ℕ). column_words n k P messages) h

-- the products
module _ (c : After-open_products) where
  abbrev w : ℕ
  w = c.width-w.result

  abbrev P : List ℕ
  P = all_or c.args.all c.args.n c.args.present.now

  abbrev made : List ℕ
  made = c.open_products.new.products

  made_is : made ≡ column_words c.args.n (width tree c.args.level.now.round) P c.args.messages.now
  made_is = c.open_products.ensures ∙ ap (λ (k : ℕ). column_words c.args.n k P c.args.messages.now) (c.width-w.ensures)

  made_long : length made ≡ w
  made_long = ap length made_is ∙ words_length c.args.n (width tree c.args.level.now.round) P c.args.messages.now ∙ sym (c.width-w.ensures)

  taken : take w (made ++ drop w zeros) ≡ made
  taken = take_at made (drop w zeros) w made_long

  inside : w ≤ length (made ++ drop w zeros)
  inside = omega (arith, length-append made (drop w zeros), made_long)

  counted : w ≡ length (take w (made ++ drop w zeros))
  counted = sym (ap length taken ∙ made_long)

pub slice_bounds-products-end : goal.slice_bounds-products-end
slice_bounds-products-end c = few (goal.at.slice_bounds-products-end c).After-width-w

pub slice_bounds-open_products-end : goal.slice_bounds-open_products-end
slice_bounds-open_products-end c = sym (front (goal.at.slice_bounds-open_products-end c).After-width-w)

pub invariant_of-heard : goal.invariant_of-heard
invariant_of-heard c =
    let here = (goal.at.invariant_of-heard c).After-width-w in
    record { sized = (c.requires.0, c.requires.1, few here, c.requires.2 ∙ ap (λ (k : ℕ). c.args.n * k) (sym (said here))) }

pub open_products-requires : goal.open_products-requires
open_products-requires c = front (goal.at.open_products-requires c).After-width-w

pub slice_bounds-products-end-2 : goal.slice_bounds-products-end-2
slice_bounds-products-end-2 c = inside (goal.at.slice_bounds-products-end-2 c).After-open_products

pub slice_bounds-all_below-end : goal.slice_bounds-all_below-end
slice_bounds-all_below-end c = counted (goal.at.slice_bounds-all_below-end c).After-open_products

-- whether all opened
module _ (c : After-all_below) where
  abbrev all_open : Bool
  all_open = level_opened c.args.n c.args.level.now.round (all_or c.args.all c.args.n c.args.present.now) c.args.messages.now

  tested : every (λ v. ltb v 65536) (column_words c.args.n (width tree c.args.level.now.round) (all_or c.args.all c.args.n c.args.present.now) c.args.messages.now) ≡ all_open
  tested = words_opened c.args.n c.args.level.now.round (all_or c.args.all c.args.n c.args.present.now) c.args.messages.now c.args.level.now.ready.least (omega (arith, c.args.level.now.ready.most))

  opened_is : c.all_below.result ≡ all_open
  opened_is = c.all_below.ensures ∙ ap (every (λ v. ltb v 65536)) (opened _ _ _ _ _ _ (c.width-w.ensures) c.open_products.ensures) ∙ tested

  abbrev kept_all : List ℕ
  kept_all =
      level_kept c.args.level.now.round c.args.level.now.sum c.args.level.now.kept.now c.args.level.now.sheet.now (level_sides c.args.n c.args.level.now.round (all_or c.args.all c.args.n c.args.present.now) c.args.messages.now)

  judged : (b : Bool) → c.all_below.result ≡ b → answer b kept_all ≡ answer all_open kept_all
  judged b e = ap (λ (o : Bool). answer o kept_all) (sym e ∙ opened_is)

pub returns-then-not-all_below : goal.returns-then-not-all_below
returns-then-not-all_below c =
    judged (goal.at.returns-then-not-all_below c).After-all_below false (search rules)

pub slice_bounds-products-end-3 : goal.slice_bounds-products-end-3
slice_bounds-products-end-3 c = inside (goal.at.slice_bounds-products-end-3 c).After-open_products

pub slice_bounds-write_kept-end : goal.slice_bounds-write_kept-end
slice_bounds-write_kept-end c = counted (goal.at.slice_bounds-write_kept-end c).After-open_products

pub slice_bounds-words-end : goal.slice_bounds-words-end
slice_bounds-words-end c = few (goal.at.slice_bounds-words-end c).After-width-w

pub slice_bounds-write_kept-end-2 : goal.slice_bounds-write_kept-end-2
slice_bounds-write_kept-end-2 c = sym (front (goal.at.slice_bounds-write_kept-end-2 c).After-width-w)

-- they did
clear : (c : Else-not-all_below) → c.all_below.result ≡ true
clear c = search rules

pub write_kept-requires : goal.write_kept-requires
write_kept-requires c = (
  sym (counted (goal.at.write_kept-requires c).After-open_products) ∙ said (goal.at.write_kept-requires c).After-width-w,
  front (goal.at.write_kept-requires c).After-width-w ∙ said (goal.at.write_kept-requires c).After-width-w,
  sym c.all_below.ensures ∙ clear (goal.at.write_kept-requires c).Else-not-all_below,
)

pub returns : goal.returns
returns c =
    let a = c.args in
    let s = a.level.now in
    let here = (goal.at.returns c).After-open_products in
    let r = width tree s.round in
    let os = level_sides a.n s.round (P here) a.messages.now in
    let many = sides_length a.n s.round (P here) a.messages.now in
    let open-all = clear (goal.at.returns c).Else-not-all_below in
    let tested-all = tested (goal.at.returns c).After-all_below ∙ sym (opened_is (goal.at.returns c).After-all_below) ∙ open-all in
    let K = kept_all (goal.at.returns c).After-all_below in
    let sides : map word_sides (take (w here) (made here ++ drop (w here) zeros)) ≡ os =
    ap (map word_sides) (taken here ∙ made_is here)
    ∙ words_sides a.n s.round (P here) a.messages.now s.ready.least (omega (arith, s.ready.most)) tested-all in
    let kept_front = c.write_kept.ensures ∙ ap (λ (z : List (Sides ℕ)). take r (level_kept s.round s.sum s.kept.now s.sheet.now z)) sides in
    let few-kept : r ≤ 32 = omega (arith, few (goal.at.returns c).After-width-w, said (goal.at.returns c).After-width-w) in
    let words = ap (λ (z : List ℕ). z ++ drop (w here) zeros) kept_front
    ∙ ap (λ (z : ℕ). take r K ++ drop z zeros) (said (goal.at.returns c).After-width-w)
    ∙ whole_kept K r (kept_length s.round s.sum s.kept.now s.sheet.now s.ready os many) few-kept
    (kept_past s.round s.sum s.kept.now s.sheet.now s.ready os many) in
    ap (answer true) words ∙ judged (goal.at.returns c).After-all_below true open-all
