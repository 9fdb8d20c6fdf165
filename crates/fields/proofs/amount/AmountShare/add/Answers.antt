-- `AmountShare::add` meets its contract. Assumes nothing.
use Rattle.std.proofs.Common.{◌∙◌}
use Rattle.fields.proofs.Fold.{add_cong}
use Rattle.fields.proofs.amount.AmountShare.add.Goals as goal

pub returns : goal.returns
returns c = c.residue.ensures ∙ add_cong c.fold.result c.fold-2.result _ _ c.fold.ensures.1 c.fold-2.ensures.1
