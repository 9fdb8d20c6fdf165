-- `is_sound` meets its contract: the words' parts are those of the record. Assumes nothing.
use Rattle.record_words.specs.Words.{party_of}
use Rattle.record_words.proofs.Parts.{roll_part, pairs_part}
use Rattle.record_words.proofs.is_sound.Goals as goal

pub returns : goal.returns
unfolding party_of
returns c =
    let words = c.args.words.now in
    rw (c.read_search.ensures, roll_part words c.requires, pairs_part words c.requires) at c.are_sound.ensures
