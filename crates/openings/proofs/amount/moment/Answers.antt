-- `moment` meets its contract: the halves so far, with the terms from i on, are all. Assumes nothing.
use mathlib.Core.Path.{◌≡◌, sym, ap, ◌∙◌}
use Prim.Native.Nat.{ℕ, ◌+◌, ◌*◌, ◌/◌, ◌%◌, ◌^◌, ◌≤◌, ◌<◌}
use native.Mathlib.Nat.{mod-lt}
use native.Mathlib.Omega.{arith}
use mir.Syntax.{w64}
use mir.Val.{Fits}
use lib.Dec.{lit<}
use lib.ListN.{length, get_or}
use Rattle.fields.specs.Amount.{p}
use Rattle.openings.proofs.Powers.{from_place, none_left, one_more, halves_more, half_most, moment_is}
use Rattle.openings.proofs.amount.moment.Invariants.{Within, Stand}
use Rattle.openings.proofs.amount.moment.Goals as goal
use Rattle.openings.proofs.amount.moment.Goals.{After-power-times}

within_more : (h k t i : ℕ) → Within h i → k < 2 ^ 32 → t ≤ 6561 → Within (h + k * t) (i + 1)
unfolding Within
within_more h k t i s f g = add (k * t) (half_most k t f g)
  where
    add : (d : ℕ) → d ≤ 28_179_280_429_056 → h + d ≤ 28_179_280_429_056 * (i + 1)
    add d e = omega arith

within_fits : (h i : ℕ) → Within h i → i ≤ 9 → Fits w64 h
unfolding Within
within_fits h i s f = omega arith

pub loop-i-init : goal.loop-i-init
unfolding Within Stand
loop-i-init c = (omega arith, omega arith, omega arith)

-- the halves with the term's
module _ (c : After-power-times) where
  abbrev i : ℕ
  i = c.loop-i.i

  abbrev term : ℕ
  term = get_or c.args.terms.now i 0

  inside : i + 1 ≤ 9
  inside = omega (arith, c.requires.0, c.loop-i-test.true)

  upper : term / 2 ^ 32 < 2 ^ 32
  upper = omega (arith, c.type_inv.terms i)

  low_more : Within (c.loop-i.low + term % 2 ^ 32 * c.power-times.result) (i + 1)
  low_more = within_more _ _ _ i c.loop-i.invariant.0 (mod-lt _ (lit< tt)) c.power-times.ensures.1

  high_more : Within (c.loop-i.high + term / 2 ^ 32 * c.power-times.result) (i + 1)
  high_more = within_more _ _ _ i c.loop-i.invariant.1 upper c.power-times.ensures.1

pub overflow_add-low : goal.overflow_add-low
overflow_add-low c = within_fits _ _ (low_more (goal.at.overflow_add-low c).After-power-times) (inside (goal.at.overflow_add-low c).After-power-times)

pub overflow_add-high : goal.overflow_add-high
overflow_add-high c = within_fits _ _ (high_more (goal.at.overflow_add-high c).After-power-times) (inside (goal.at.overflow_add-high c).After-power-times)

pub loop-i-preserved : goal.loop-i-preserved
unfolding Stand
loop-i-preserved c =
    let l = c.loop-i in
    let a = c.args in (
      low_more (goal.at.loop-i-preserved c).After-power-times,
      high_more (goal.at.loop-i-preserved c).After-power-times,
      halves_more l.low l.high (from_place a.j a.terms.now (l.i + 1)) _ (term (goal.at.loop-i-preserved c).After-power-times) c.power-times.result
          (sym (ap (λ (n : ℕ). l.low + 2 ^ 32 * l.high + n) (one_more a.j a.terms.now l.i _ c.loop-i-test.true c.power-times.ensures.0)) ∙ l.invariant.2),
    )

pub returns : goal.returns
unfolding Stand
returns c =
    let l = c.loop-i in
    let a = c.args in
    let end : l.i ≡ length a.terms.now = omega arith in
    let none : from_place a.j a.terms.now l.i ≡ 0 = ap (from_place a.j a.terms.now) end ∙ none_left a.j a.terms.now in
    let all : l.low + 2 ^ 32 * l.high ≡ from_place a.j a.terms.now 0 = omega (arith, none, l.invariant.2) in
    moment_is a.j a.terms.now _ (c.joined.ensures ∙ ap (λ (n : ℕ). n % p) all)
