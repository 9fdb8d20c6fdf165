-- `write_pairs` meets its contract: the words are copied to where they stand. Assumes nothing.
use mathlib.Core.Path.{◌≡◌, ap, ◌∙◌}
use mathlib.Core.List.{List, ◌++◌}
use Prim.Native.Nat.{ℕ}
use native.Mathlib.Omega.{arith}
use lib.ListN.{length, take, drop, length-take, length-drop}
use borrow.Author.Rules.{rules}
use Rattle.record_words.proofs.Parts.{put_part}
use Rattle.record_words.proofs.write_pairs.Goals as goal

pub copy_from_slice-requires : goal.copy_from_slice-requires
copy_from_slice-requires c =
    let long : length c.args.pairs.words ≡ 32 = search rules in
    simp (length-take, length-drop) (omega (arith, c.requires, long))

pub returns : goal.returns
returns c =
    let words = c.args.words.now in
    put_part 32 32 words _ ∙ ap (λ (new : List ℕ). take 32 words ++ new ++ drop 64 words) c.copy_from_slice.ensures.after
