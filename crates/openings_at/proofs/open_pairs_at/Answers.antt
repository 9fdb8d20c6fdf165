-- `open_pairs_at` meets its contract: low bytes are always in range, what is above them where the words are small. Assumes nothing.
use Rattle.std.specs.Prelude.{None}
use mathlib.Core.Path.{◌≡◌, sym, ap, ◌∙◌}
use mathlib.Core.Bool.{Bool, cond}
use mathlib.Core.List.{map}
use Prim.Native.Nat.{ℕ, ◌-◌, ◌/◌}
use native.Mathlib.Omega.{arith}
use lib.ListN.{length, take, drop, length-map}
use borrow.Author.Rules.{rules}
use Rattle.weights.specs.Rows.{byte_scheme}
use Rattle.fields.specs.Byte.{bytes}
use Rattle.fields.specs.Gap.{byte_gap}
use Rattle.openings.specs.Opening.{Opening}
use Rattle.lowering.specs.Lines.{descended, descended_by, pair_line}
use Rattle.lowering.proofs.Parts.{low, high, low_descended, high_descended}
use Rattle.openings_at.specs.At.{agreed, opened_at}
use Rattle.openings_at.proofs.Opened.{none_left, rest_is}
use Rattle.openings_at.proofs.Pairs.{cond_same, lows_open, highs_open}
use Rattle.openings_at.proofs.open_pairs_at.Goals as goal
use Rattle.openings_at.proofs.open_pairs_at.Goals.{After-agreed-low}

pub returns-then-words-steps : goal.returns-then-words-steps
returns-then-words-steps c =
    let a = c.args in
    let none : (f : ℕ → ℕ) → None ≡ agreed (descended bytes byte_gap a.t a.points.now (map f a.words.now)) =
    λ f. none_left bytes byte_gap a.t a.points.now (map f a.words.now) (length-map a.words.now f ∙ c.requires.1)
    (omega (arith, c.if-words-steps.true, length-map a.words.now f)) in (
      none low ∙ lows_open a.t a.points.now a.words.now,
      sym (cond_same c.all_below-small.result _ (sym (none high))) ∙ highs_open a.t a.points.now a.words.now _ c.all_below-small.ensures,
    )

pub descend-requires : goal.descend-requires
descend-requires c = (c.requires.0, c.requires.1, omega arith)

-- what the words are lowered to, and what this is in each part
module _ (c : After-agreed-low) where
  left : take (length c.descend.new.words - c.args.t) (drop c.args.t c.descend.new.words) ≡ descended_by pair_line c.args.t c.args.points.now c.args.words.now
  left = rest_is c.args.t c.descend.new.words ∙ c.descend.ensures

  abbrev lowered_highs : Opening
  lowered_highs = agreed (descended bytes byte_gap c.args.t c.args.points.now (map high c.args.words.now))

  low_is : c.agreed-low.result ≡ opened_at byte_scheme c.args.t c.args.points.now (map low c.args.words.now)
  low_is =
      c.agreed-low.ensures low (λ x y k. search rules)
      ∙ ap agreed (ap (map low) left ∙ low_descended c.args.t c.args.points.now c.args.words.now c.requires.0)
      ∙ lows_open c.args.t c.args.points.now c.args.words.now

  high_is : cond c.all_below-small.result lowered_highs None ≡ opened_at byte_scheme c.args.t c.args.points.now (map (λ w. w / 256) c.args.words.now)
  high_is = highs_open c.args.t c.args.points.now c.args.words.now _ c.all_below-small.ensures

pub returns-then-not-small : goal.returns-then-not-small
returns-then-not-small c =
    let s = (goal.at.returns-then-not-small c).After-agreed-low in
    (low_is s, sym (ap (λ (b : Bool). cond b (lowered_highs s) None) c.if-not-small.true) ∙ high_is s)

pub returns : goal.returns
returns c =
    let s = (goal.at.returns c).After-agreed-low in (
      low_is s,
      c.agreed-high.ensures high (λ x y k. search rules)
          ∙ ap agreed (ap (map high) (left s) ∙ high_descended c.args.t c.args.points.now c.args.words.now c.requires.0)
          ∙ sym (ap (λ (b : Bool). cond b (lowered_highs s) None) c.if-not-small.false) ∙ high_is s,
    )
