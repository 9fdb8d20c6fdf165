-- `brought` meets its contract. Assumes nothing.
use Rattle.fields.specs.Byte.{xor}
use Rattle.opening_rows.proofs.Laws.{both_rows}
use Rattle.opening_rows.proofs.brought.Goals as goal

pub returns : goal.returns
unfolding xor
returns c = λ n R h. both_rows n _ _ _ R h c.requires.2
