-- `open_amounts_at` meets its contract: words out of range do not open, nor do too few; of the others, what they come to. Assumes nothing.
use mathlib.Core.Path.{sym, ap, ◌∙◌}
use native.Mathlib.Omega.{arith}
use borrow.Author.Rules.{rules}
use Rattle.fields.specs.Amount.{amounts}
use Rattle.fields.specs.Gap.{amount_gap}
use Rattle.weights.specs.Rows.{amount_scheme}
use Rattle.lowering.proofs.Lowering.{own_descended}
use Rattle.openings_at.specs.At.{agreed}
use Rattle.openings_at.proofs.Opened.{at_bad, at_good, none_left, rest_is, map_same}
use Rattle.openings_at.proofs.open_amounts_at.Goals as goal

pub returns-then-not-all_below : goal.returns-then-not-all_below
returns-then-not-all_below c = sym (at_bad amount_scheme _ _ _ (sym c.all_below.ensures ∙ c.if-not-all_below.true))

pub returns-then-words-steps : goal.returns-then-words-steps
returns-then-words-steps c =
    none_left amounts amount_gap c.args.t c.args.points.now c.args.words.now c.requires.1 c.if-words-steps.true
    ∙ sym (at_good amount_scheme _ _ _ (sym c.all_below.ensures ∙ c.if-not-all_below.false))

pub descend-requires : goal.descend-requires
descend-requires c = (c.requires.0, c.requires.1, omega arith)

pub returns : goal.returns
returns c =
    let a = c.args in
    c.agreed.ensures (λ w. w) (λ x y k. search rules) ∙ ap agreed (map_same _ ∙ rest_is a.t c.descend.new.words ∙ c.descend.ensures ∙ own_descended amounts amount_gap a.t a.points.now a.words.now)
    ∙ sym (at_good amount_scheme _ _ _ (sym c.all_below.ensures ∙ c.if-not-all_below.false))
