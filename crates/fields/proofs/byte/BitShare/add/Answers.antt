-- `BitShare::add` meets its contract. Assumes nothing.
use Rattle.std.proofs.Common.{refl}
use Rattle.fields.specs.Byte.{xor}
use Rattle.fields.proofs.byte.BitShare.add.Goals as goal

pub returns : goal.returns
unfolding xor
returns c = refl
