-- `step` meets its contract, by what its two halves ensure. Assumes nothing.
use Rattle.search.specs.Bracket.{step}
use Rattle.search.proofs.bracket.step.Goals as goal

pub returns-then-up : goal.returns-then-up
unfolding step
returns-then-up c = rw c.if-up.true c.raise.ensures

pub returns-else-up : goal.returns-else-up
unfolding step
returns-else-up c = rw c.if-up.false c.lower.ensures
