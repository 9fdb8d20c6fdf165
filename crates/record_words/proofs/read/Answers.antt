-- `read` meets its contract: word after word. Assumes nothing.
use Rattle.record_words.specs.Words.{party_of}
use Rattle.record_words.proofs.read.Goals as goal

pub returns : goal.returns
unfolding party_of
returns c =
    rw (c.read_pairs.ensures, c.read_roll.ensures, c.read_search.ensures)
