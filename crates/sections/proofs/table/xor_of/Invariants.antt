-- What holds at each turn of the loop of `xor_of`. Assumes nothing.
use mathlib.Core.Path.{◌≡◌}
use lib.Bits.{bit_xor}
use lib.ListN.{drop}
use Rattle.sections.specs.Sections.{xor_of}
use Rattle.sections.proofs.table.xor_of.Given as goal

abbrev pub invariant-loop-seed : goal.invariant-loop-seed
invariant-loop-seed l = bit_xor l.xor (xor_of (drop l.seed-index l.seeds)) ≡ xor_of l.seeds
