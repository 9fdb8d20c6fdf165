-- `price` meets its contract: the middle of the two is half of their sum. Assumes nothing.
use native.Mathlib.Omega.{arith}
use borrow.Author.Tests.{le-leb, lt-leb}
use Rattle.search.specs.Bracket.{middle}
use Rattle.search.specs.Searches.{price}
use Rattle.search.proofs.searches.price.Goals as goal

pub returns-then-b-s : goal.returns-then-b-s
unfolding price middle
returns-then-b-s c =
    let s = c.args.s in
    rw (le-leb s.bracket.hi s.first (omega arith)) c.middle.ensures

pub returns : goal.returns
unfolding price
returns c =
    let s = c.args.s in
    rw (lt-leb s.bracket.hi s.first (omega arith))
