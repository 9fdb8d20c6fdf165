-- `residue` meets its contract. Assumes nothing.
use Rattle.fields.proofs.Fold.{once_more}
use Rattle.fields.proofs.amount.residue.Goals as goal

pub returns : goal.returns
returns c = once_more c.fold-s.result _ c.fold-s.ensures.0 c.fold-s.ensures.1
