-- `deal_next` meets its contract. Assumes nothing.
use mathlib.Core.Path.{◌≡◌, sym, ap, ap₂, ◌∙◌}
use mathlib.Core.List.{List, [], ◌∷◌}
use Prim.Native.Nat.{ℕ, ◌+◌, ◌-◌, ◌*◌, ◌%◌, ◌^◌, ◌≤◌}
use native.Mathlib.Omega.{arith}
use lib.ListN.{length, take}
use lib.Seq.{length-take-le}
use borrow.Author.Rules.{rules}
use Rattle.ways.specs.Way.{way_of, triples_of, sheet_size}
use Rattle.sharing.specs.Scheme.{threshold}
use Rattle.draws.specs.Draws.{next, next_coin, later, drawn_coins, drawn_bytes, after_sheet}
use Rattle.panel.specs.Parties.{part}
use Rattle.panel.proofs.Parts.{part_length, prefix_fits, prefix_is, prefix_count}
use Rattle.drawn_sheets.proofs.Dealing.{dealt_put}
use Rattle.drawn_sheets.proofs.deal_next.Goals as goal
use Rattle.drawn_sheets.proofs.deal_next.Goals.{After-no_bytes-bytes}

abbrev five : List ℕ
five = 0 ∷ 0 ∷ 0 ∷ 0 ∷ 0 ∷ []

fits : (c : After-no_bytes-bytes) → 1 + c.threshold-t.result ≤ 5
fits c = omega (arith, c.threshold-t.ensures, c.requires.0, c.requires.1)

bytes_fit : (c : After-no_bytes-bytes) → 126 * c.threshold-t.result + 62 ≤ length c.no_bytes-bytes.result
bytes_fit c = search rules

pub slice_bounds-draw_sheet-end : goal.slice_bounds-draw_sheet-end
slice_bounds-draw_sheet-end c = sym (length-take-le _ _ (fits (goal.at.slice_bounds-draw_sheet-end c).After-no_bytes-bytes))

pub slice_bounds-draw_sheet-end-2 : goal.slice_bounds-draw_sheet-end-2
slice_bounds-draw_sheet-end-2 c = sym (length-take-le _ _ (bytes_fit (goal.at.slice_bounds-draw_sheet-end-2 c).After-no_bytes-bytes))

pub draw_sheet-after-requires : goal.draw_sheet-after-requires
draw_sheet-after-requires c =
    let e = length-take-le (1 + c.threshold-t.result) five (fits (goal.at.draw_sheet-after-requires c).After-no_bytes-bytes) in
    omega arith

pub slice_bounds-words-end-2 : goal.slice_bounds-words-end-2
slice_bounds-words-end-2 c =
    prefix_fits _ _ c.draw_sheet-after.new.words (fits (goal.at.slice_bounds-words-end-2 c).After-no_bytes-bytes) c.words-2-1.given

pub slice_bounds-deal_each-end : goal.slice_bounds-deal_each-end
slice_bounds-deal_each-end c =
    prefix_count _ _ c.draw_sheet-after.new.words (fits (goal.at.slice_bounds-deal_each-end c).After-no_bytes-bytes) c.words-2-1.given

pub slice_bounds-bytes-end-2 : goal.slice_bounds-bytes-end-2
slice_bounds-bytes-end-2 c =
    prefix_fits _ _ c.draw_sheet-after.new.bytes (bytes_fit (goal.at.slice_bounds-bytes-end-2 c).After-no_bytes-bytes) c.bytes-2-1.given

pub slice_bounds-deal_each-end-2 : goal.slice_bounds-deal_each-end-2
slice_bounds-deal_each-end-2 c =
    prefix_count _ _ c.draw_sheet-after.new.bytes (bytes_fit (goal.at.slice_bounds-deal_each-end-2 c).After-no_bytes-bytes) c.bytes-2-1.given

pub deal_each-requires : goal.deal_each-requires
unfolding sheet_size way_of triples_of
deal_each-requires c =
    let p = c.requires in
    (p.1, p.2, p.3)

pub returns : goal.returns
unfolding after_sheet
returns c =
    let a = c.args in
    let d = c.draw_sheet-after in
    let t : ℕ = c.threshold-t.result in
    let T : t ≡ threshold a.n = c.threshold-t.ensures in
    let nb : List ℕ = c.no_bytes-bytes.result in
    let lw : length (take (1 + t) five) - 1 ≡ threshold a.n =
    ap (λ (z : ℕ). z - 1) (length-take-le (1 + t) five (fits (goal.at.returns c).After-no_bytes-bytes)) ∙ omega (arith, T) in
    let lb : length (take (126 * t + 62) nb) ≡ 126 * threshold a.n + 62 = length-take-le (126 * t + 62) nb (bytes_fit (goal.at.returns c).After-no_bytes-bytes) ∙ omega (arith, T) in
    let ew =
    prefix_is _ _ d.new.words (fits (goal.at.returns c).After-no_bytes-bytes) c.words-2-1.given
    ∙ d.ensures.0 ∙ ap (λ (y : ℕ). next a.state % 2 ^ 58 ∷ drawn_coins y (next a.state)) lw in
    let ed =
    prefix_is _ _ d.new.bytes (bytes_fit (goal.at.returns c).After-no_bytes-bytes) c.bytes-2-1.given
    ∙ d.ensures.1 ∙ ap₂ (λ (x y : ℕ). drawn_bytes x (later next_coin y (next a.state))) lb lw in (
      d.ensures.2 ∙ ap₂ (λ (x y : ℕ). later next x (later next_coin y (next a.state))) lb lw,
      λ i h.
          c.deal_each.ensures i h
          ∙ dealt_put a.n (i + 1)
          (record { parties_least = c.requires.0; parties_most = c.requires.1; own_least = omega arith; own_most = omega arith })
          a.state a.at _ _ (part a.width i a.sheets.now)
          (omega (arith, c.ranges.state)) (omega (arith, part_length a.width a.n i a.sheets.now c.requires.3 h, c.requires.2)) ew ed,
    )
