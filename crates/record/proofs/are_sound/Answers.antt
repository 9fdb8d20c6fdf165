-- `are_sound` meets its contract: each test is the definition's. Assumes nothing.
use lib.ListN.{length}
use borrow.Author.Tests.{eq-eqb}
use Rattle.kept_pairs.specs.Pairs.{small}
use Rattle.record.specs.Record.{sound}
use Rattle.record.proofs.are_sound.Goals as goal

pub returns : goal.returns
unfolding sound small
returns c =
    rw (eq-eqb (length c.args.pairs.now) 32 c.requires.1, c.on_list.ensures, c.sound.ensures, c.round_sound.ensures, c.proper_in.ensures, c.marks_in.ensures, c.are_totals.ensures, c.is_way.ensures, c.all_below.ensures)
