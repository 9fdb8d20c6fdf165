-- `AmountShare::mul` meets its contract. Assumes nothing.
use Rattle.std.proofs.Common.{◌*◌, ◌∙◌}
use Rattle.fields.proofs.Fold.{parts_law, middle_fits, parts_fit}
use Rattle.fields.proofs.amount.AmountShare.mul.Goals as goal

pub overflow_add-h : goal.overflow_add-h
overflow_add-h c = middle_fits c.high-h.result c.low-l.result c.low-l.type_inv

pub overflow_add-l-2 : goal.overflow_add-l-2
overflow_add-l-2 c = parts_fit c.high-h.result c.low-l.result c.low-l.type_inv c.high-h.type_inv

pub returns : goal.returns
returns c =
    c.residue.ensures
    ∙ parts_law c.high-h.result c.low-l.result c.low-l.type_inv (c.args.self.0 * c.args.other.0) c.high-h.ensures c.low-l.ensures
