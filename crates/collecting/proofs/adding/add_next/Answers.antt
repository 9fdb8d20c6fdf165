-- `add_next` meets its contract. Assumes nothing.
use mathlib.Core.Path.{◌≡◌, sym, ap, ap₂, ◌∙◌}
use mathlib.Core.List.{List}
use Prim.Native.Nat.{ℕ, ◌+◌, ◌*◌, ◌≤◌}
use native.Mathlib.Nat.{mul-le-mul_right}
use native.Mathlib.Omega.{arith}
use lib.ListN.{length, take, drop}
use lib.Seq.{length-take-le}
use Rattle.sharing.specs.Scheme.{threshold}
use Rattle.draws.specs.Draws.{next_coin, later, drawn_coins}
use Rattle.lines.specs.Lines.{numbers, bytes_of}
use Rattle.panel.specs.Parties.{party_added, totals_added}
use Rattle.panel.proofs.Parts.{prefix_fits, prefix_is, prefix_count}
use borrow.Author.Rules.{rules}
use Rattle.collecting.proofs.adding.add_next.Goals as goal
use Rattle.collecting.proofs.adding.add_next.Goals.{After-no_coins-coins, After-table-2-1, After-threshold}

-- a bid's coins
few : (c : After-threshold) → 2 * c.args.k * c.threshold.result ≤ 2048
few c =
    let r : 2 * c.args.k * c.threshold.result ≤ 512 * c.threshold.result = mul-le-mul_right c.threshold.result (omega (arith, c.requires.2)) in
    omega (arith, c.threshold.ensures, c.requires.0, c.requires.1)

-- the table is long enough
table_fits : (c : After-no_coins-coins) → 2 * c.args.k ≤ length c.no_table-table.result
table_fits c = search rules

-- the room for coins is long enough
coins_fit : (c : After-table-2-1) → 2 * c.args.k * c.threshold.result ≤ length c.no_coins-coins.result
coins_fit c =
    let r : 2 * c.args.k * c.threshold.result ≤ 512 * c.threshold.result = mul-le-mul_right c.threshold.result (omega (arith, c.requires.2)) in
    let f : 2 * c.args.k * c.threshold.result ≤ 2048 = omega (arith, c.threshold.ensures, c.requires.0, c.requires.1) in search (rules, f)

pub overflow_mul-drawn : goal.overflow_mul-drawn
overflow_mul-drawn c = search (rules, few c)

pub slice_bounds-read_table-end : goal.slice_bounds-read_table-end
slice_bounds-read_table-end c =
    sym (length-take-le _ _ (table_fits (goal.at.slice_bounds-read_table-end c).After-no_coins-coins))

pub slice_bounds-coins-end : goal.slice_bounds-coins-end
slice_bounds-coins-end c = coins_fit c

pub slice_bounds-draw_coins-end : goal.slice_bounds-draw_coins-end
slice_bounds-draw_coins-end c = sym (length-take-le _ _ (coins_fit (goal.at.slice_bounds-draw_coins-end c).After-table-2-1))

pub slice_bounds-table-end-2 : goal.slice_bounds-table-end-2
slice_bounds-table-end-2 c =
    prefix_fits _ _ c.read_table-next.new.table (table_fits (goal.at.slice_bounds-table-end-2 c).After-no_coins-coins) c.table-2-1.given

pub slice_bounds-add_all-end : goal.slice_bounds-add_all-end
slice_bounds-add_all-end c =
    prefix_count _ _ c.read_table-next.new.table (table_fits (goal.at.slice_bounds-add_all-end c).After-no_coins-coins) c.table-2-1.given

pub slice_bounds-coins-end-2 : goal.slice_bounds-coins-end-2
slice_bounds-coins-end-2 c =
    prefix_fits _ _ c.draw_coins-last.new.coins (coins_fit (goal.at.slice_bounds-coins-end-2 c).After-table-2-1) c.coins-2-1.given

pub slice_bounds-add_all-end-2 : goal.slice_bounds-add_all-end-2
slice_bounds-add_all-end-2 c =
    prefix_count _ _ c.draw_coins-last.new.coins (coins_fit (goal.at.slice_bounds-add_all-end-2 c).After-table-2-1) c.coins-2-1.given

pub returns : goal.returns
returns c =
    let a = c.args in
    let input : List ℕ = drop a.at a.input.now in
    let lt : length (take (2 * a.k) c.no_table-table.result) ≡ 2 * a.k = length-take-le _ _ (table_fits (goal.at.returns c).After-no_coins-coins) in
    let lc : length (take (2 * a.k * c.threshold.result) c.no_coins-coins.result) ≡ 2 * a.k * threshold a.n =
    length-take-le _ _ (coins_fit (goal.at.returns c).After-table-2-1) ∙ ap (λ (z : ℕ). 2 * a.k * z) c.threshold.ensures in
    let et =
    prefix_is _ _ c.read_table-next.new.table (table_fits (goal.at.returns c).After-no_coins-coins) c.table-2-1.given
    ∙ c.read_table-next.ensures.0 ∙ ap (λ (z : ℕ). numbers z input) lt in
    let ec =
    prefix_is _ _ c.draw_coins-last.new.coins (coins_fit (goal.at.returns c).After-table-2-1) c.coins-2-1.given
    ∙ c.draw_coins-last.ensures.0 ∙ ap (λ (z : ℕ). drawn_coins z a.state) lc in (
      c.read_table-next.ensures.1 ∙ ap (λ (z : ℕ). a.at + bytes_of z input) lt,
      c.draw_coins-last.ensures.1 ∙ ap (λ (z : ℕ). later next_coin z a.state) lc,
      λ i h. (
        (c.add_all-after.ensures i h).0 ∙ ap₂ (λ (x y : List ℕ). party_added a.n a.k a.bidder x y a.parties a.totals.now i) et ec,
        (c.add_all-after.ensures i h).1 ∙ ap₂ (λ (x y : List ℕ). totals_added a.n a.k a.bidder x y a.parties a.totals.now i) et ec,
      ),
    )
