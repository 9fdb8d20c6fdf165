-- `open_some_by` meets its contract: the words of those who were present, in both parts. Assumes nothing.
use Rattle.std.specs.Prelude.{None}
use mathlib.Core.Path.{◌≡◌, sym, ◌∙◌}
use mathlib.Core.Bool.{true}
use mathlib.Core.List.{map}
use Prim.Native.Nat.{ℕ, ◌/◌, ◌%◌}
use lib.ListN.{length, take}
use Rattle.weights.specs.Rows.{byte_scheme}
use Rattle.present_openings.specs.Present.{sized, opened_by}
use Rattle.present_openings.proofs.Opened.{sized_as, gather_asks, points_chosen, words_chosen, rising_chosen, by_not, sized_part, by_part, taken}
use Rattle.present_openings.proofs.present.open_some_by.Goals as goal
use Rattle.present_openings.proofs.present.open_some_by.Goals.{Else-not-sized, After-gather-heard}

pub returns-then-not-sized : goal.returns-then-not-sized
returns-then-not-sized c =
    let a = c.args in
    let none : (f : ℕ → ℕ) → None ≡ opened_by byte_scheme a.n a.present.now (map f a.words.now) =
    λ f. sym (by_not _ _ _ byte_scheme (sized_part f a.n a.present.now a.words.now ∙ sym c.sized.ensures ∙ c.if-not-sized.true)) in
    (none (λ w. w % 256), none (λ w. w / 256))

passed : (c : Else-not-sized) → sized c.args.n c.args.present.now c.args.words.now ≡ true
passed c = sym c.sized.ensures ∙ c.if-not-sized.false

pub gather-heard-requires : goal.gather-heard-requires
gather-heard-requires c = gather_asks _ _ _ (sized_as _ _ _ (passed c))

-- as many points and words as were gathered
module _ (c : After-gather-heard) where
  many_points : length (take c.gather-heard.result.count c.gather-heard.result.parties) ≡ c.gather-heard.result.count
  many_points = taken _ _ c.gather-heard.ensures.few.0 c.gather-heard.ensures.few.1

  many_words : length (take c.gather-heard.result.count c.gather-heard.result.words) ≡ c.gather-heard.result.count
  many_words = taken _ _ c.gather-heard.ensures.few.0 c.gather-heard.ensures.few.2

pub slice_bounds-open_pairs_at-end : goal.slice_bounds-open_pairs_at-end
slice_bounds-open_pairs_at-end c = sym (many_points (goal.at.slice_bounds-open_pairs_at-end c).After-gather-heard)

pub slice_bounds-open_pairs_at-end-2 : goal.slice_bounds-open_pairs_at-end-2
slice_bounds-open_pairs_at-end-2 c = sym (many_words (goal.at.slice_bounds-open_pairs_at-end-2 c).After-gather-heard)

pub open_pairs_at-requires : goal.open_pairs_at-requires
open_pairs_at-requires c =
    let s = goal.at.open_pairs_at-requires c in
    let a = c.args in (
      rising_chosen a.n a.present.now a.words.now _ (points_chosen a.n a.present.now a.words.now (passed s.Else-not-sized) _ c.gather-heard.ensures.parties),
      many_words s.After-gather-heard ∙ sym (many_points s.After-gather-heard),
    )

pub returns : goal.returns
returns c =
    let a = c.args in
    let p = passed (goal.at.returns c).Else-not-sized in
    let e = c.open_pairs_at.ensures in
    let points = points_chosen a.n a.present.now a.words.now p _ c.gather-heard.ensures.parties in
    let words = words_chosen a.n a.present.now a.words.now p _ c.gather-heard.ensures.words in (
      e.0 ∙ by_part (λ w. w % 256) _ _ _ byte_scheme _ c.threshold.ensures _ _ points words,
      e.1 ∙ by_part (λ w. w / 256) _ _ _ byte_scheme _ c.threshold.ensures _ _ points words,
    )
