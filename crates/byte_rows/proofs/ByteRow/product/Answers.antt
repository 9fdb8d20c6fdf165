-- `ByteRow::product` meets its contract: the row's products are the byte's. Assumes nothing.
use Rattle.std.proofs.Common.{arith, ℕ, List, get_or, ap, ◌∙◌}
use Rattle.byte_rows.proofs.Rows.{by_row}
use Rattle.byte_rows.proofs.ByteRow.product.Goals as goal

pub returns : goal.returns
returns c =
    let a = c.args in
    ap (λ (row : List ℕ). get_or row a.by 0) a.self.now.are_multiples ∙ by_row a.self.now.byte a.by (omega arith)
