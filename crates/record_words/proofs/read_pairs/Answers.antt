-- `read_pairs` meets its contract: the words are copied from where they stand. Assumes nothing.
use mathlib.Core.Path.{ap, ◌∙◌}
use mathlib.Core.List.{List}
use Prim.Native.Nat.{ℕ}
use Rattle.record_words.proofs.Parts.{pairs_part}
use Rattle.record_words.proofs.read_pairs.Goals as goal

pub returns : goal.returns
returns c =
    ap (λ (ws : List ℕ). record { words = ws }) (c.copy_from_slice.ensures.after ∙ pairs_part c.args.words.now c.requires)
