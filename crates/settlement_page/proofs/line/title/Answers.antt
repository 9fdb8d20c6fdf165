-- `title` meets its contract. Assumes nothing.
use mathlib.Core.Path.{◌≡◌}
use mathlib.Core.List.{List, ◌∷◌}
use Prim.Native.Nat.{ℕ}
use Rattle.settlement_page.specs.Page.{right, side, title}
use Rattle.settlement_page.proofs.Lines.{title_columns, right_buy, right_sell}
use Rattle.settlement_page.proofs.line.title.Goals as goal
use Rattle.settlement_page.proofs.line.title.Goals.{After-last_digit-d}

told : (c : After-last_digit-d) → (columns : List ℕ) → columns ≡ right 6 (side c.args.pair) → c.digit_or_space-a.result ∷ c.digit_or_space-b.result ∷ c.digit_or_space-c.result ∷ c.last_digit-d.result ∷ columns
    ≡ title c.args.pair
told c columns e =
    title_columns c.args.pair c.requires _ _ _ _ columns c.digit_or_space-a.ensures
    c.digit_or_space-b.ensures c.digit_or_space-c.ensures c.last_digit-d.ensures e

pub returns-then-buys : goal.returns-then-buys
returns-then-buys c =
    told (goal.at.returns-then-buys c).After-last_digit-d _ (right_buy c.args.pair c.if-buys.true)

pub returns : goal.returns
returns c =
    told (goal.at.returns c).After-last_digit-d _ (right_sell c.args.pair c.if-buys.false)
