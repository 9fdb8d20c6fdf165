-- `split` meets its contract: the judgement of `bid::split`, as its number. Assumes nothing.
use mathlib.Core.Path.{ap, ◌∙◌}
use Rattle.refusal.specs.Refusal.{code_of}
use Rattle.stateless_calls.proofs.split.Goals as goal

pub returns : goal.returns
returns c =
    let call = c.split.ensures in
    (c.code.ensures ∙ ap code_of call.0, call.1)
