-- `product` lends tables: entry by entry the constants are those of the definition. Assumes nothing.
use Rattle.std.proofs.Common.{refl}
use Rattle.fields.specs.Table.{logarithms, powers}
use Rattle.fields.proofs.table.product.Goals as goal

pub product_by-requires : goal.product_by-requires
unfolding logarithms powers
product_by-requires c = (refl, refl)
