-- `none_above_40` meets its contract. Assumes nothing.
use mathlib.Core.Path.{sym}
use Rattle.roll.proofs.Bits.{none_from}
use Rattle.roll.proofs.none_above_40.Goals as goal

pub returns : goal.returns
returns c = sym (none_from 41 23 c.args.word c.ranges.word.fits)
