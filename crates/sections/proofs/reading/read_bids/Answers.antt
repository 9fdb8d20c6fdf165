-- `read_bids` meets its contract: the bids before i have no fault. Assumes nothing.
use Rattle.std.specs.Prelude.{Ok}
use Rattle.std.proofs.lemmas.Result.{err_from_is_err_and}
use mathlib.Core.Path.{◌≡◌, sym, ap, ap₂, ◌∙◌}
use mathlib.Core.List.{List}
use Prim.Native.Nat.{ℕ, ◌+◌, ◌-◌, ◌*◌}
use native.Mathlib.Nat.{zero-mul, add-zero}
use native.Mathlib.Omega.{arith}
use lib.ListN.{drop}
use Rattle.lines.specs.Lines.{bytes_of}
use Rattle.sections.specs.Sections.{bid_fault, bids_fault, unless}
use Rattle.sections.proofs.Bids.{bad_bid, led_bid, good_bids, sound, faulty}
use Rattle.sections.proofs.reading.read_bids.Goals as goal

start_bids : (at k : ℕ) (bytes : List ℕ) → at ≡ at + bytes_of (0 * (2 * k)) bytes
unfolding bytes_of
start_bids at k bytes = sym (ap (λ (j : ℕ). at + bytes_of j bytes) (zero-mul (2 * k)) ∙ add-zero at)

pub loop-i-init : goal.loop-i-init
loop-i-init c =
    let a = c.args in
    let d : a.bids ≡ a.bids - 0 = omega arith in
    let e : a.line ≡ a.line + 0 * (2 * a.k) = omega arith in
    (start_bids a.at a.k _, ap₂ (λ (j l : ℕ). bids_fault a.k j l (drop a.at a.input.now)) d e)

pub returns-in_err-next : goal.returns-in_err-next
returns-in_err-next c =
    let l = c.loop-i in
    let a = c.args in
    let p = err_from_is_err_and c.from_residual.result c.from_residual.ensures.1 in
    let first = a.line + l.i * (2 * a.k) in
    let bad = faulty (bid_fault a.k first (drop l.next a.input.now)) _ _ (sym c.read_bid.ensures ∙ c.in_err-next.was) in
    let e = bad_bid a.k (a.bids - l.i) first (drop l.next a.input.now) (omega (arith, c.loop-i-test.true)) _ bad in
    rw (p.1, p.2) (sym (ap (λ f. unless f (a.at + bytes_of (a.bids * (2 * a.k)) (drop a.at a.input.now))) (l.invariant.1 ∙ e)))

pub loop-i-preserved : goal.loop-i-preserved
loop-i-preserved c =
    let l = c.loop-i in
    let a = c.args in
    let first = a.line + l.i * (2 * a.k) in
    let good = sound (bid_fault a.k first (drop l.next a.input.now)) _ _ (sym c.read_bid.ensures ∙ c.in_ok-next.was) in
    let r = c.in_ok-next.next in
    let e : first + 2 * a.k ≡ a.line + (l.i + 1) * (2 * a.k) = omega arith in (
      led_bid a.input.now a.at a.k l.i l.next r l.invariant.0 (sym good.1),
      good_bids a.input.now a.at a.k l.i l.next r l.invariant.0 (sym good.1) a.bids a.line first c.loop-i-test.true l.invariant.1 good.0
          ∙ ap (λ (j : ℕ). bids_fault a.k (a.bids - (l.i + 1)) j (drop r a.input.now)) e,
    )

pub returns : goal.returns
unfolding bids_fault
returns c =
    let l = c.loop-i in
    let a = c.args in
    let e : l.i ≡ a.bids = omega arith in
    let d : a.bids - l.i ≡ 0 = omega arith in
    ap Ok (l.invariant.0 ∙ ap (λ (j : ℕ). a.at + bytes_of (j * (2 * a.k)) (drop a.at a.input.now)) e)
    ∙ sym
    (ap (λ f. unless f (a.at + bytes_of (a.bids * (2 * a.k)) (drop a.at a.input.now)))
    (l.invariant.1 ∙ ap (λ (j : ℕ). bids_fault a.k j (a.line + l.i * (2 * a.k)) (drop l.next a.input.now)) d))
