-- `store_level` meets its contract: a round and the pairs are new. Assumes nothing.
use mathlib.Core.Path.{sym, ap, ◌∙◌}
use mathlib.Core.List.{List}
use Prim.Native.Nat.{ℕ}
use native.Mathlib.Omega.{arith}
use lib.ListN.{set, length-set}
use Rattle.record.specs.Updates.{in_round}
use Rattle.record_words.specs.Words.{words_of, party_of}
use Rattle.record_words.proofs.Parts.{roll_long, written_back, all_parts, pairs_joined}
use Rattle.record_words.proofs.store_level.Goals as goal

pub shape_of-words : goal.shape_of-words
shape_of-words c =
    let a = c.args in
    omega (arith, length-set a.words.now 7 a.round)

pub returns : goal.returns
unfolding words_of in_round
returns c =
    let a = c.args in
    let words = a.words.now in
    let p = party_of words in
    let q = in_round p a.round p.sum p.carry in
    let long = roll_long words c.requires in
    c.write_pairs.ensures
    ∙ pairs_joined (q a.pairs) long p.pairs.words (set words 7 a.round)
    (ap (λ (ws : List ℕ). set ws 7 a.round) (sym (written_back words c.requires)) ∙ all_parts (q p.pairs))
    (length-set words 7 a.round ∙ c.requires)
