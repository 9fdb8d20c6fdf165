-- `read_search` meets its contract: word after word. Assumes nothing.
use mathlib.Core.Path.{refl}
use Rattle.record_words.specs.Words.{party_of}
use Rattle.record_words.proofs.read_search.Goals as goal

pub returns : goal.returns
unfolding party_of
returns c = refl
