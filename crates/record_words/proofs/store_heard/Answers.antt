-- `store_heard` meets its contract: the roll stays, and so do the pairs unless they are cleared. Assumes nothing.
use mathlib.Core.Path.{◌≡◌, sym, ap, ◌∙◌}
use mathlib.Core.Bool.{Bool, true, false, cond}
use mathlib.Core.List.{List, ◌++◌}
use Prim.Native.Nat.{ℕ}
use lib.ListN.{length, take, drop}
use borrow.Author.Rules.{rules}
use Rattle.kept_pairs.specs.declared.Pairs.{Pairs}
use Rattle.kept_pairs.specs.Pairs.{none}
use Rattle.record.specs.declared.Party.{Party}
use Rattle.record_words.specs.Words.{record_size, later_words, words_of, party_of}
use Rattle.record_words.proofs.Parts.{before_pairs, all_parts, pairs_joined, rest_kept}
use Rattle.record_words.proofs.store_heard.Goals as goal

-- the pairs of the record, by whether they are cleared
pairs_by : (words : List ℕ) (pairs : Pairs) (cleared : Bool) → pairs ≡ cond cleared none (party_of words).pairs
    → (t : Bool) → cleared ≡ t → cond t none (party_of words).pairs ≡ pairs
pairs_by words pairs cleared h t e = sym (h ∙ ap (λ (b : Bool). cond b none (party_of words).pairs) e)

-- what stands there when the numbers and the later words are written
rest : (q : Party) (words numbers later : List ℕ) → length q.roll.words ≡ 16 → length words ≡ record_size → q.roll ≡ (party_of words).roll
    → numbers ≡ take 10 (words_of q) ++ drop 10 words → later ≡ take 26 numbers ++ later_words q ++ drop 32 numbers
    → later ≡ before_pairs q ++ (party_of words).pairs.words
rest q words numbers later long l same e f =
    f
    ∙ ap (λ (ws : List ℕ). take 26 ws ++ later_words q ++ drop 32 ws) e
    ∙ rest_kept q long words l same

pub returns-then-cleared : goal.returns-then-cleared
returns-then-cleared c =
    let q = c.args.q in
    let words = c.args.words.now in
    let written = c.write_later.new.words in
    let long : length q.roll.words ≡ 16 = search rules in
    let written_long : length written ≡ 64 = search rules in
    c.write_pairs.ensures
    ∙ ap (λ (pairs : Pairs). take 32 written ++ pairs.words ++ drop 64 written) (c.none.ensures ∙ pairs_by words q.pairs c.args.cleared c.requires.2 true c.if-cleared.true)
    ∙ pairs_joined q long _ written (rest q words _ written long c.requires.0 c.requires.1 c.write_numbers.ensures c.write_later.ensures) written_long

pub returns-else-cleared : goal.returns-else-cleared
returns-else-cleared c =
    let q = c.args.q in
    let words = c.args.words.now in
    let long : length q.roll.words ≡ 16 = search rules in
    rest q words _ c.write_later.new.words long c.requires.0 c.requires.1 c.write_numbers.ensures c.write_later.ensures
    ∙ ap (λ (pairs : Pairs). before_pairs q ++ pairs.words) (pairs_by words q.pairs c.args.cleared c.requires.2 false c.if-cleared.false)
    ∙ sym (all_parts q)
