-- `line_count` meets its contract: so many lines stand before those of the pairs that are left. Assumes nothing.
use mathlib.Core.Path.{sym, ap, ◌∙◌}
use mathlib.Core.Bool.{Bool, true, false, cond}
use mathlib.Core.List.{[]}
use Prim.Native.Nat.{◌+◌, ◌*◌, ◌≤◌}
use native.Mathlib.Omega.{arith}
use lib.Dec.{eqb}
use lib.ListN.{length, drop, get_or, length-append}
use Rattle.ranges.proofs.Loops.{and-true}
use Rattle.settlement_page.specs.Page.{line_of, lines, in_range}
use Rattle.settlement_page.proofs.Lines.{length_line_of}
use Rattle.settlement.proofs.Pairs.{range_more, lines_more, lines_end, length_chunks, real, inside, here, over}
use Rattle.settlement.proofs.entries.line_count.Goals as goal
use Rattle.settlement.proofs.entries.line_count.Goals.{After-wants-count}

pub loop-wanted-init : goal.loop-wanted-init
loop-wanted-init c = (omega arith, c.requires.1, λ price p. omega arith)

-- a pair has one line or none
one_more : (c : After-wants-count) → c.wants-count.result ≤ 1
one_more c =
    rw c.wants-count.ensures (split (eqb (get_or (get_or c.pairs-wanted-items.result.now c.loop-wanted.wanted-index []) 0 0) 0))
  where
    split : (t : Bool) → cond t 0 1 ≤ 1
    split true = omega arith
    split false = omega arith

pub overflow_add-count : goal.overflow_add-count
overflow_add-count c =
    let few = real c.args.entries.now c.pairs-wanted-items.result.now c.loop-wanted.wanted-index c.requires.0 c.pairs-wanted-items.ensures c.loop-wanted-test.true in
    record { fits = omega (arith, one_more c, c.loop-wanted.invariant.0, few) }

pub loop-wanted-preserved : goal.loop-wanted-preserved
loop-wanted-preserved c =
    let l = c.loop-wanted in
    let entries = c.args.entries.now in
    let pairs = c.pairs-wanted-items.result.now in
    let pair = l.wanted-index in
    let few = real entries pairs pair c.requires.0 c.pairs-wanted-items.ensures c.loop-wanted-test.true in
    let within = inside entries pairs pair c.requires.0 c.pairs-wanted-items.ensures c.loop-wanted-test.true in
    let p = here entries pairs pair c.requires.0 c.pairs-wanted-items.ensures c.loop-wanted-test.true in
    let one = c.wants-count.ensures ∙ ap (λ p. cond (eqb (get_or p 0 0) 0) 0 1) p in
    let ranges = and-true (in_range (get_or entries (2 * pair) 0) (get_or entries (2 * pair + 1) 0)) _ (sym (range_more entries pair within) ∙ l.invariant.1) in (
      omega (arith, one_more c, l.invariant.0),
      ranges.1,
      λ price p.
          omega (
            arith,
            l.invariant.2 price p,
            ap length (lines_more entries pair within price pair),
            length-append (line_of price pair (get_or entries (2 * pair) 0) (get_or entries (2 * pair + 1) 0)) (lines price (pair + 1) (drop (2 * (pair + 1)) entries)),
            length_line_of price pair (get_or entries (2 * pair) 0) (get_or entries (2 * pair + 1) 0) p few ranges.0,
            one,
          ),
    )

pub returns : goal.returns
returns c =
    let l = c.loop-wanted in
    let entries = c.args.entries.now in
    let pairs = c.pairs-wanted-items.result.now in
    let size = ap length c.pairs-wanted-items.ensures ∙ length_chunks 2000 entries in
    let end = over entries pairs l.wanted-index c.requires.0 c.pairs-wanted-items.ensures c.loop-wanted-test.false in (
      omega (arith, l.invariant.0, l.auto.wanted-index-end, size),
      λ price p. omega (arith, l.invariant.2 price p, ap length (lines_end entries l.wanted-index end price l.wanted-index)),
    )
