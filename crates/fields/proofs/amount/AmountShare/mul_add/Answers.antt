-- `AmountShare::mul_add` meets its contract. Assumes nothing.
use Rattle.std.proofs.Common.{◌*◌, ◌∙◌}
use Rattle.fields.proofs.Fold.{middle_fits, parts_fit, parts_plus_fit, parts_plus}
use Rattle.fields.proofs.amount.AmountShare.mul_add.Goals as goal

pub overflow_add-h : goal.overflow_add-h
overflow_add-h c = middle_fits c.high-h.result c.low-l.result c.low-l.type_inv

pub overflow_add-l-2 : goal.overflow_add-l-2
overflow_add-l-2 c = parts_fit c.high-h.result c.low-l.result c.low-l.type_inv c.high-h.type_inv

pub overflow_add-l-3 : goal.overflow_add-l-3
overflow_add-l-3 c =
    parts_plus_fit c.high-h.result c.low-l.result c.low-l.type_inv c.high-h.type_inv c.fold-c.result c.fold-c.ensures.0

pub returns : goal.returns
returns c =
    let h = c.high-h in
    let l = c.low-l in
    let a = c.args in
    c.residue.ensures
    ∙ parts_plus h.result l.result l.type_inv (a.self.0 * a.other.0) c.fold-c.result a.addend.0 h.ensures l.ensures c.fold-c.ensures.1
