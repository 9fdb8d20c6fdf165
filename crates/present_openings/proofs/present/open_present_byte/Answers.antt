-- `open_present_byte` meets its contract in both ways that it takes. Assumes nothing.
use mathlib.Core.Path.{sym, ◌∙◌}
use Rattle.openings.proofs.Laws.{byte_fits}
use Rattle.present_openings.proofs.Laws.{by_everyone}
use Rattle.present_openings.proofs.Opened.{not_bytes, lows_are}
use Rattle.present_openings.proofs.present.open_present_byte.Goals as goal

pub returns-then-all : goal.returns-then-all
returns-then-all c = rw c.if-all.true (c.open_byte.ensures ∙ by_everyone byte_fits _ _)

pub returns-then-not-are_bytes : goal.returns-then-not-are_bytes
returns-then-not-are_bytes c =
    rw c.if-all.false (not_bytes _ _ _ (sym c.are_bytes.ensures ∙ c.if-not-are_bytes.true))

pub returns : goal.returns
returns c =
    rw c.if-all.false
    (c.open_some_by-pair.ensures.0 ∙ lows_are _ _ _ (sym c.are_bytes.ensures ∙ c.if-not-are_bytes.false))
