-- `write_numbers` meets its contract: ten stores one after the other are the ten numbers. Assumes nothing.
use native.Mathlib.Omega.{arith}
use lib.ListN.{take, length-set}
use lib.Seq.{sets-eq}
use Rattle.record_words.specs.Words.{words_of}
use Rattle.record_words.proofs.write_numbers.Goals as goal

pub bounds-words-1 : goal.bounds-words-1
bounds-words-1 c = simp length-set (omega (arith, c.requires))

pub bounds-words-2 : goal.bounds-words-2
bounds-words-2 c = simp length-set (omega (arith, c.requires))

pub bounds-words-3 : goal.bounds-words-3
bounds-words-3 c = simp length-set (omega (arith, c.requires))

pub bounds-words-4 : goal.bounds-words-4
bounds-words-4 c = simp length-set (omega (arith, c.requires))

pub bounds-words-5 : goal.bounds-words-5
bounds-words-5 c = simp length-set (omega (arith, c.requires))

pub bounds-words-6 : goal.bounds-words-6
bounds-words-6 c = simp length-set (omega (arith, c.requires))

pub bounds-words-7 : goal.bounds-words-7
bounds-words-7 c = simp length-set (omega (arith, c.requires))

pub bounds-words-8 : goal.bounds-words-8
bounds-words-8 c = simp length-set (omega (arith, c.requires))

pub bounds-words-9 : goal.bounds-words-9
bounds-words-9 c = simp length-set (omega (arith, c.requires))

pub returns : goal.returns
unfolding words_of
returns c = sets-eq (take 10 (words_of c.args.q)) c.args.words.now 0 (omega (arith, c.requires))
