-- `open_present_amount` meets its contract in both ways that it takes. Assumes nothing.
use mathlib.Core.Path.{◌≡◌, sym, ◌∙◌}
use mathlib.Core.Bool.{true}
use lib.ListN.{length, take}
use Rattle.weights.specs.Rows.{amount_scheme}
use Rattle.openings.proofs.Laws.{amount_fits}
use Rattle.present_openings.specs.Present.{sized}
use Rattle.present_openings.proofs.Laws.{by_everyone}
use Rattle.present_openings.proofs.Opened.{sized_as, gather_asks, points_chosen, words_chosen, rising_chosen, by_not, by_chosen, taken}
use Rattle.present_openings.proofs.present.open_present_amount.Goals as goal
use Rattle.present_openings.proofs.present.open_present_amount.Goals.{Else-not-sized, After-gather-heard}

pub returns-then-all : goal.returns-then-all
returns-then-all c = rw c.if-all.true (c.open_amount.ensures ∙ by_everyone amount_fits _ _)

pub returns-then-not-sized : goal.returns-then-not-sized
returns-then-not-sized c = rw c.if-all.false (sym (by_not _ _ _ amount_scheme (sym c.sized.ensures ∙ c.if-not-sized.true)))

passed : (c : Else-not-sized) → sized c.args.n c.args.present.now c.args.words.now ≡ true
passed c = sym c.sized.ensures ∙ c.if-not-sized.false

pub gather-heard-requires : goal.gather-heard-requires
gather-heard-requires c = gather_asks _ _ _ (sized_as _ _ _ (passed c))

-- as many points and words as were gathered
module _ (c : After-gather-heard) where
  many_points : length (take c.gather-heard.result.count c.gather-heard.result.parties) ≡ c.gather-heard.result.count
  many_points = taken _ _ c.gather-heard.ensures.few.0 c.gather-heard.ensures.few.1

  many_words : length (take c.gather-heard.result.count c.gather-heard.result.words) ≡ c.gather-heard.result.count
  many_words = taken _ _ c.gather-heard.ensures.few.0 c.gather-heard.ensures.few.2

pub slice_bounds-open_amounts_at-end : goal.slice_bounds-open_amounts_at-end
slice_bounds-open_amounts_at-end c = sym (many_points (goal.at.slice_bounds-open_amounts_at-end c).After-gather-heard)

pub slice_bounds-open_amounts_at-end-2 : goal.slice_bounds-open_amounts_at-end-2
slice_bounds-open_amounts_at-end-2 c = sym (many_words (goal.at.slice_bounds-open_amounts_at-end-2 c).After-gather-heard)

pub open_amounts_at-requires : goal.open_amounts_at-requires
open_amounts_at-requires c =
    let s = goal.at.open_amounts_at-requires c in
    let a = c.args in (
      rising_chosen a.n a.present.now a.words.now _ (points_chosen a.n a.present.now a.words.now (passed s.Else-not-sized) _ c.gather-heard.ensures.parties),
      many_words s.After-gather-heard ∙ sym (many_points s.After-gather-heard),
    )

pub returns : goal.returns
returns c =
    let a = c.args in
    let e = passed (goal.at.returns c).Else-not-sized in
    let g = c.gather-heard.ensures in
    rw c.if-all.false
    (c.open_amounts_at.ensures
    ∙ by_chosen a.n a.present.now a.words.now amount_scheme _ c.threshold.ensures _ _ (points_chosen _ _ a.words.now e _ g.parties) (words_chosen _ _ _ e _ g.words))
