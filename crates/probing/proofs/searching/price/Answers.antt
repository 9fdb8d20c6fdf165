-- `price` meets its contract. Assumes nothing.
use mathlib.Core.Path.{sym, ap, ◌∙◌}
use Rattle.probing.specs.Follows.{priced}
use Rattle.probing.proofs.searching.price.Goals as goal

pub returns-in-Ok : goal.returns-in-Ok
returns-in-Ok c = sym (ap priced (sym c.answer-reply.ensures ∙ c.in-Ok.is))

pub returns-in-Err : goal.returns-in-Err
returns-in-Err c = sym (ap priced (sym c.answer-reply.ensures ∙ c.in-Err.is))
