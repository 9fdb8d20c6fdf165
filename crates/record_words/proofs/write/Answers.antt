-- `write` meets its contract: the ten numbers, the roll after them, what came later, and the pairs. Assumes nothing.
use mathlib.Core.Path.{◌≡◌, ap, ◌∙◌}
use mathlib.Core.List.{List, ◌++◌}
use Prim.Native.Nat.{ℕ}
use lib.ListN.{length, take, drop}
use Rattle.record_words.specs.Words.{later_words, words_of}
use Rattle.record_words.proofs.Parts.{later_joined, pairs_joined}
use borrow.Author.Rules.{rules}
use Rattle.record_words.proofs.write.Goals as goal

pub returns : goal.returns
unfolding words_of
returns c =
    let q = c.args.q in
    let w3 = c.write_later.new.words in
    let long : length q.roll.words ≡ 16 = search rules in
    let l : length w3 ≡ 64 = search rules in
    c.write_pairs.ensures
    ∙ pairs_joined q long _ w3
    (c.write_later.ensures
    ∙ ap (λ (ws : List ℕ). take 26 ws ++ later_words q ++ drop 32 ws)
    (c.write_roll.ensures ∙ ap (λ (ws : List ℕ). take 10 ws ++ q.roll.words ++ drop 26 ws) c.write_numbers.ensures)
    ∙ later_joined q long _ _)
    l
