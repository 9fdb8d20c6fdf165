-- `index` meets its contract. Assumes nothing.
use borrow.Author.Tests.{le-leb, lt-leb}
use native.Mathlib.Omega.{arith}
use Rattle.message.specs.Message.{index}
use Rattle.message.proofs.word.index.Goals as goal

pub returns-then-q-gt33 : goal.returns-then-q-gt33
unfolding index
returns-then-q-gt33 c = rw (lt-leb c.args.q.round 33 (omega arith)) c.price.ensures

pub returns : goal.returns
unfolding index
returns c = rw (le-leb c.args.q.round 33 (omega arith)) c.middle.ensures
