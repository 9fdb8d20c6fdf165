-- `write_lines` meets its contract: before `at` stand the lines of the pairs before `pair`. Assumes nothing.
use mathlib.Core.Path.{◌≡◌, refl, sym, ap, ◌∙◌}
use mathlib.Core.Bool.{true}
use mathlib.Core.List.{List, ◌++◌, append_assoc, append-nil}
use Prim.Native.Nat.{ℕ, ◌+◌, ◌*◌, ◌≤◌, ◌<◌}
use native.Mathlib.Omega.{arith}
use lib.ListN.{length, take, drop, get_or, length-append, length-drop}
use lib.Seq.{length-take-le, take_all, take_at}
use Rattle.ranges.proofs.Loops.{and-true}
use Rattle.settlement_page.specs.Page.{line_of, lines, in_range, all_in_range}
use Rattle.settlement.proofs.Pairs.{range_more, lines_more, lines_end, real, here, over}
use Rattle.settlement.proofs.writing.write_lines.Goals as goal

-- one pair more
module _ (price : ℕ) (entries page : List ℕ) (at pair : ℕ) (long : length entries ≡ 4000) (real : pair < 2000)
    (good : all_in_range (drop (2 * pair) entries) ≡ true) (size : at + length (lines price pair (drop (2 * pair) entries)) ≡ length page) where
  abbrev text : List ℕ
  text = line_of price pair (get_or entries (2 * pair) 0) (get_or entries (2 * pair + 1) 0)

  abbrev others : List ℕ
  others = lines price (pair + 1) (drop (2 * (pair + 1)) entries)

  inside : 2 * pair + 1 < length entries
  inside = omega arith

  ranges : (in_range (get_or entries (2 * pair) 0) (get_or entries (2 * pair + 1) 0) ≡ true) × (all_in_range (drop (2 * (pair + 1)) entries) ≡ true)
  ranges = and-true _ _ (sym (range_more entries pair inside) ∙ good)

  split : lines price pair (drop (2 * pair) entries) ≡ text ++ others
  split = lines_more entries pair inside price pair

  both : length (lines price pair (drop (2 * pair) entries)) ≡ length text + length others
  both = ap length split ∙ length-append text others

  fits : at + length text ≤ length page
  fits = omega (arith, both)

  module _ (after : List ℕ) (next : ℕ) (e : after ≡ take at page ++ (text ++ drop next page)) (f : next ≡ at + length text) where
    front : length (take at page ++ text) ≡ next
    front = length-append (take at page) text ∙ omega (arith, length-take-le at page (omega (arith, fits)))

    length_after : length after ≡ length page
    length_after =
        ap length e ∙ omega (arith, length-append (take at page) (text ++ drop next page), length-append text (drop next page), length-drop next page, length-take-le at page (omega (arith, fits)), fits)

    size_after : next + length others ≡ length after
    size_after = omega (arith, length_after, both)

    text_after : (whole : List ℕ) → whole ≡ take at page ++ lines price pair (drop (2 * pair) entries) → whole ≡ take next after ++ others
    text_after whole g =
        g
        ∙ ap (λ (l : List ℕ). take at page ++ l) split
        ∙ sym (append_assoc (take at page) text others)
        ∙ ap (λ (l : List ℕ). l ++ others)
        (sym
        (ap (take next) (e ∙ sym (append_assoc (take at page) text (drop next page)))
        ∙ take_at (take at page ++ text) (drop next page) next front))

pub loop-pair-init : goal.loop-pair-init
loop-pair-init c = (c.requires.2, omega (arith, c.requires.3), refl)

pub put_pair-at-requires : goal.put_pair-at-requires
put_pair-at-requires c =
    let l = c.loop-pair in
    let entries = c.args.entries.now in
    let few = real entries _ l.pair c.requires.1 c.pairs-wanted-items.ensures c.loop-pair-test.true in
    rw (here entries c.pairs-wanted-items.result.now l.pair c.requires.1 c.pairs-wanted-items.ensures c.loop-pair-test.true) (
      c.requires.0,
      few,
      (ranges c.args.price entries l.page l.at l.pair c.requires.1 few l.invariant.0 l.invariant.1).0,
      fits c.args.price entries l.page l.at l.pair c.requires.1 few l.invariant.0 l.invariant.1,
    )

pub loop-pair-preserved : goal.loop-pair-preserved
loop-pair-preserved c =
    let l = c.loop-pair in
    let price = c.args.price in
    let entries = c.args.entries.now in
    let few = real entries _ l.pair c.requires.1 c.pairs-wanted-items.ensures c.loop-pair-test.true in
    let put =
    rw (here entries c.pairs-wanted-items.result.now l.pair c.requires.1 c.pairs-wanted-items.ensures c.loop-pair-test.true)
    at c.put_pair-at.ensures in (
      (ranges price entries l.page l.at l.pair c.requires.1 few l.invariant.0 l.invariant.1).1,
      size_after price entries l.page l.at l.pair c.requires.1 few l.invariant.0 l.invariant.1 _ _ put.0 put.1,
      text_after price entries l.page l.at l.pair c.requires.1 few l.invariant.0 l.invariant.1 _ _ put.0 put.1 _ l.invariant.2,
    )

pub returns : goal.returns
returns c =
    let l = c.loop-pair in
    let entries = c.args.entries.now in
    let end = over entries _ l.pair c.requires.1 c.pairs-wanted-items.ensures c.loop-pair-test.false in
    let none = lines_end entries l.pair end c.args.price l.pair in
    sym
    (l.invariant.2
    ∙ ap (λ (m : List ℕ). take l.at l.page ++ m) none
    ∙ append-nil (take l.at l.page)
    ∙ take_all l.at l.page (omega (arith, l.invariant.1, ap length none)))
