-- `all_below` meets its contract. Assumes nothing.
use Rattle.std.proofs.Common.{ℕ, ltb, ◌∙◌, rules}
use Rattle.std.proofs.lemmas.Iterator.{YieldsList-from_slice}
use Rattle.std.proofs.lemmas.Iterator.Search.{all_from_yields_List}
use Rattle.ranges.proofs.Loops.{list_every}
use Rattle.ranges.proofs.lists.all_below.Goals as goal

pub returns : goal.returns
returns c =
    let words = c.args.words.now in
    let below = λ (w : ℕ). ltb w c.args.size in
    all_from_yields_List below _ _ _ c.all.ensures.ran (YieldsList-from_slice words cc) (λ x b q k. search rules) ∙ list_every below words
