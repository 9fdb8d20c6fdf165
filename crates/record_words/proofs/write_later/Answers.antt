-- `write_later` meets its contract: six stores one after the other. Assumes nothing.
use native.Mathlib.Omega.{arith}
use lib.ListN.{length-set}
use lib.Seq.{sets-eq}
use Rattle.record_words.specs.Words.{later_words}
use Rattle.record_words.proofs.write_later.Goals as goal

pub bounds-words-30 : goal.bounds-words-30
bounds-words-30 c = simp length-set (omega (arith, c.requires))

pub bounds-words-31 : goal.bounds-words-31
bounds-words-31 c = simp length-set (omega (arith, c.requires))

pub returns : goal.returns
returns c = sets-eq (later_words c.args.q) c.args.words.now 26 (omega (arith, c.requires))
