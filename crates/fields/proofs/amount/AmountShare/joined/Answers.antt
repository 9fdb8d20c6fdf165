-- `AmountShare::joined` meets its contract. Assumes nothing.
use Rattle.std.proofs.Common.{◌∙◌}
use Rattle.fields.proofs.Fold.{halves}
use Rattle.fields.proofs.amount.AmountShare.joined.Goals as goal

pub returns : goal.returns
returns c = c.residue.ensures ∙ halves c.fold.result _ c.args.high c.fold.ensures.1
