-- `open_single` meets its contract. Assumes nothing.
use mathlib.Core.Path.{ap, ◌∙◌}
use Prim.Native.Nat.{ℕ}
use Rattle.presence.specs.Presence.{all_or}
use Rattle.round.specs.Round.{heard}
use Rattle.listening.proofs.open_single.Goals as goal

pub returns : goal.returns
returns c =
    let a = c.args in
    c.open_round.ensures
    ∙ ap (λ (i : ℕ). heard a.q.n i (all_or a.all a.q.n a.present.now) a.messages.now) c.role.ensures
