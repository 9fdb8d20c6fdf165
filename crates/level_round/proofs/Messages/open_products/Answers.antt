-- `open_products` meets its contract. Assumes nothing.
use mathlib.Core.Path.{sym, ap, ◌∙◌}
use mathlib.Core.Bool.{Bool}
use lib.Dec.{leb}
use Rattle.ranges.proofs.Loops.{and_left}
use Rattle.presence.specs.Presence.{all_or}
use Rattle.level_round.specs.Words.{column_words}
use Rattle.level_round.proofs.Messages.open_products.Goals as goal

pub returns-then-self : goal.returns-then-self
returns-then-self c =
    let a = c.args in
    c.open_all.ensures
    ∙ ap (λ (b : Bool). column_words a.self.now.n a.self.now.w (all_or b a.self.now.n a.self.now.present.now) a.self.now.words.now) (sym (and_left a.self.now.all (leb 8 a.self.now.w) c.if-self.true))
