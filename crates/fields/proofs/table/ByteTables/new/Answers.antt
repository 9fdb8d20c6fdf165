-- `ByteTables::new` gives tables: entry by entry the constants are those of the definition. Assumes nothing.
use Rattle.std.proofs.Common.{refl}
use Rattle.fields.specs.Table.{logarithms, powers}
use Rattle.fields.proofs.table.ByteTables.new.Goals as goal

pub invariant_of-result : goal.invariant_of-result
unfolding logarithms powers
invariant_of-result c = record { are_tables = (refl, refl) }
