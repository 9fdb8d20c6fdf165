-- `deal_all` meets its contract: i sheets are dealt, and the others are still to be drawn. Assumes nothing.
use mathlib.Core.Path.{◌≡◌, sym, ap, ap₂, ◌∙◌}
use mathlib.Core.List.{List, ◌++◌}
use Prim.Native.Nat.{ℕ, ◌+◌, ◌-◌, ◌*◌, ◌<◌}
use native.Mathlib.Nat.{sub-zero}
use native.Mathlib.Omega.{arith}
use lib.ListN.{length, take}
use Rattle.sharing.specs.Scheme.{threshold}
use Rattle.draws.specs.Draws.{all_sheets}
use Rattle.panel.specs.Parties.{part}
use Rattle.drawn_sheets.specs.Dealt.{sheets_of}
use Rattle.draws.proofs.Drawn.{after_sheet_word}
use Rattle.panel.proofs.Parts.{part_length, sheets_eighteen}
use Rattle.drawn_sheets.proofs.Dealing.{one_sheet, no_sheet}
use Rattle.drawn_sheets.proofs.deal_all.Goals as goal

pub overflow_mul-width : goal.overflow_mul-width
overflow_mul-width c = omega (arith, c.most_probes-most.ensures, sheets_eighteen _ c.requires.2)

pub loop-i-init : goal.loop-i-init
loop-i-init c = (
  omega (arith, c.ranges.state),
  c.most_probes-most.ensures,
  λ j h. ap (λ (z : ℕ). sheets_of (j + 1) (all_sheets (threshold c.args.n) z c.args.state)) (sub-zero c.most_probes-most.result),
)

pub deal_next-last-requires : goal.deal_next-last-requires
deal_next-last-requires c =
    let l = c.loop-i in
    (c.requires.0, c.requires.1, omega (arith, c.loop-i-test.true), l.auto.sheets ∙ c.requires.3 ∙ ap (λ (z : ℕ). c.args.n * (127 * z)) (sym l.invariant.1))

pub loop-i-preserved : goal.loop-i-preserved
loop-i-preserved c =
    let l = c.loop-i in
    let a = c.args in
    let r = c.deal_next-last in
    let m : ℕ = c.most_probes-most.result in
    let h : l.i < m = c.loop-i-test.true in
    let lx : length l.sheets ≡ a.n * (127 * m) = l.auto.sheets ∙ c.requires.3 ∙ ap (λ (z : ℕ). a.n * (127 * z)) (sym l.invariant.1) in (
      rw r.ensures.0 (after_sheet_word (threshold a.n) l.last l.invariant.0),
      l.invariant.1,
      λ j hj.
          ap₂ (λ (x : List ℕ) (y : ℕ). take (127 * (l.i + 1)) x ++ sheets_of (j + 1) (all_sheets (threshold a.n) (m - (l.i + 1)) y))
          (r.ensures.1 j hj) r.ensures.0
          ∙ one_sheet (threshold a.n) (j + 1) l.last m l.i (part (127 * m) j l.sheets) _ l.invariant.0 h
          (omega (arith, part_length (127 * m) a.n j l.sheets lx hj)) (l.invariant.2 j hj),
    )

pub returns : goal.returns
returns c j h =
    let l = c.loop-i in
    let a = c.args in
    let m : ℕ = c.most_probes-most.result in
    let lx : length l.sheets ≡ a.n * (127 * m) = l.auto.sheets ∙ c.requires.3 ∙ ap (λ (z : ℕ). a.n * (127 * z)) (sym l.invariant.1) in
    ap (λ (z : ℕ). part (127 * z) j l.sheets) (sym l.invariant.1)
    ∙ no_sheet (threshold a.n) (j + 1) l.last m l.i (part (127 * m) j l.sheets) _ c.loop-i-test.false
    (omega (arith, part_length (127 * m) a.n j l.sheets lx h, c.loop-i-test.false)) (l.invariant.2 j h)
    ∙ ap (λ (z : ℕ). sheets_of (j + 1) (all_sheets (threshold a.n) z a.state)) l.invariant.1
