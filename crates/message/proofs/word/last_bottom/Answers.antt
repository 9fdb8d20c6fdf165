-- `last_bottom` meets its contract: a kept word of a sound record is a byte. Assumes nothing.
use mathlib.Core.Path.{◌≡◌}
use Prim.Native.Nat.{ℕ, ◌<◌}
use native.Mathlib.Omega.{arith}
use lib.Dec.{ltb}
use lib.ListN.{length, get_or}
use borrow.Author.Tests.{eqb-true, ltb-true}
use Rattle.ranges.specs.Lists.{every}
use Rattle.ranges.specs.Sizes.{long}
use Rattle.ranges.proofs.Loops.{and-true, every_at}
use Rattle.kept_pairs.specs.Pairs.{small}
use Rattle.record.proofs.Soundness.{sound_facts}
use Rattle.message.proofs.word.last_bottom.Goals as goal
use Rattle.message.proofs.word.last_bottom.Goals.{Start}

-- a word that is read from those
kept_byte : (s : Start) → {i r : ℕ} → r ≡ get_or s.args.q.pairs.words i 0 → i < 32 → r < 256
unfolding small
kept_byte s {i} {r} e near =
    let w = s.args.q.pairs.words in
    let p = and-true (long 32 w) (every (λ x. ltb x 256) w) (sound_facts s.args.q s.requires).pairs in
    omega (arith, e, ltb-true (get_or w i 0) 256 (every_at (λ x. ltb x 256) w i p.1 (omega (arith, near, eqb-true (length w) 32 p.0))))

pub overflow_cast-result : goal.overflow_cast-result
overflow_cast-result c = omega (arith, kept_byte (goal.at.overflow_cast-result c).Start c.word.ensures (omega arith))

pub returns : goal.returns
returns c = c.word.ensures
