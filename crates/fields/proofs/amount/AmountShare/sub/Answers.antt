-- `AmountShare::sub` meets its contract. Assumes nothing.
use Rattle.std.proofs.Common.{◌∙◌}
use Rattle.fields.proofs.Fold.{sub_cong}
use Rattle.fields.proofs.amount.AmountShare.sub.Goals as goal

pub returns : goal.returns
returns c =
    c.residue.ensures
    ∙ sub_cong c.fold.result c.fold-2.result _ _ c.fold-2.ensures.0 c.fold.ensures.1 c.fold-2.ensures.1
