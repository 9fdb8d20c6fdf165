-- `deal_probe` lends parts that are there. Assumes nothing.
use mathlib.Core.Path.{sym, ap, ◌∙◌}
use Prim.Native.Nat.{ℕ, ◌+◌, ◌*◌, ◌≤◌}
use native.Mathlib.Nat.{mul-le-mul_right}
use native.Mathlib.Omega.{arith}
use lib.ListN.{length-set}
use lib.Seq.{length-take-le}
use Rattle.ways.specs.Way.{Way, way_of, sheet_size}
use Rattle.ways.proofs.Laws.{few_triples, drawn_split}
use borrow.Author.Rules.{rules}
use Rattle.worked_sessions.proofs.of_sessions.deal_probe.Goals as goal
use Rattle.worked_sessions.proofs.of_sessions.deal_probe.Goals.{After-drawn_bytes-byte_count, Start}

-- the sheet of each probe has its place
sheet_last : (c : Start) → c.args.probe + 1 ≤ 6
sheet_last c = omega (arith, c.requires.2)

pub slice_bounds-words-end : goal.slice_bounds-words-end
slice_bounds-words-end c = simp length-set (search rules)

pub slice_bounds-deal_each-end : goal.slice_bounds-deal_each-end
slice_bounds-deal_each-end c =
    sym (length-take-le _ _ (simp length-set (search rules)))

-- there are bytes for either way
enough : (c : After-drawn_bytes-byte_count) → c.drawn_bytes-byte_count.result ≤ 1000
enough c =
    let w : Way = way_of c.args.last in
    omega (arith, c.drawn_bytes-byte_count.ensures, drawn_split w c.threshold-t.result, mul-le-mul_right (2 + 3 * c.threshold-t.result) (few_triples w), c.threshold-t.ensures)

pub slice_bounds-bytes-end : goal.slice_bounds-bytes-end
slice_bounds-bytes-end c = search (rules, enough (goal.at.slice_bounds-bytes-end c).After-drawn_bytes-byte_count)

pub slice_bounds-deal_each-end-2 : goal.slice_bounds-deal_each-end-2
slice_bounds-deal_each-end-2 c = sym (length-take-le _ _ (search (rules, enough (goal.at.slice_bounds-deal_each-end-2 c).After-drawn_bytes-byte_count)))

pub deal_each-requires : goal.deal_each-requires
deal_each-requires c =
    let size : ℕ = sheet_size (way_of c.args.last) in (
      c.requires.1,
      omega (arith, c.sheets_words-at.ensures, c.sheets_words-lent.ensures, mul-le-mul_right size (sheet_last (goal.at.deal_each-requires c).Start)),
      c.requires.3 ∙ ap (λ (m : ℕ). c.args.n * m) (sym c.sheets_words-lent.ensures),
    )
