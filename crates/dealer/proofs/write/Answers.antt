-- `write` meets its contract: the three parts of the sheet follow one another. Assumes nothing.
use mathlib.Core.Path.{◌≡◌, sym, ap, ap₂, ◌∙◌}
use mathlib.Core.List.{List, [], ◌∷◌, ◌++◌, append-nil}
use Prim.Native.Nat.{ℕ, suc, ◌+◌, ◌-◌, ◌*◌, ◌≤◌, ◌<◌}
use native.Mathlib.Omega.{arith}
use lib.ListN.{length, take, drop, get_or, set, length-drop, length-take, length-set, drop_of_length-le}
use lib.Seq.{length-take-le, take_all, take_at, take-suc-set, drop-drop}
use borrow.Rule.Slice.PartMut.{put_mid, same_len_mid}
use Rattle.fields.specs.Amount.{amounts}
use Rattle.sharing.specs.Polynomial.{value}
use Rattle.dealer.specs.Deal.{byte_shares, mask_bits, triples, preprocessing}
use Rattle.dealer.proofs.Laws.{length_shares, length_bits, length_triples}
use Rattle.dealer.proofs.write.Goals as goal
use Rattle.dealer.proofs.write.Goals.{After-write_bits}

-- the mask's word and the bits' are in their places, and the triples' are put behind them
module _ (k : ℕ) (sheet bits : List ℕ) (m : ℕ) (long : length sheet ≡ 34 + 3 * k) (some : length bits ≡ 33) where
  abbrev begun : List ℕ
  begun = put_mid 1 33 (set sheet 0 m) bits

  begun_length : length begun ≡ 34 + 3 * k
  begun_length =
      let l : length (set sheet 0 m) ≡ 34 + 3 * k = length-set sheet 0 m ∙ long in
      same_len_mid 1 33 (set sheet 0 m) bits (some ∙ sym (length-take-le 33 (drop 1 (set sheet 0 m)) (simp length-drop (omega arith)))) ∙ l

  room : 34 ≤ length begun
  room = omega (arith, begun_length)

  left : length (take (length begun - 34) (drop 34 begun)) ≡ 3 * k
  left = simp (length-take, length-drop) (omega (arith, begun_length))

  front : take 34 begun ≡ m ∷ bits
  front =
      ap (λ (l : List ℕ). take 34 (l ++ (bits ++ drop 33 (drop 1 (set sheet 0 m))))) (take-suc-set sheet 0 m (omega arith))
      ∙ take_at (m ∷ bits) (drop 33 (drop 1 (set sheet 0 m))) 34 (ap suc some)

  put : (triples : List ℕ) → put_mid 34 (length begun - 34) begun triples ≡ m ∷ bits ++ triples
  put triples =
      let past : length begun ≤ 34 + (length begun - 34) = omega (arith, begun_length) in
      let none : drop (length begun - 34) (drop 34 begun) ≡ [] = drop-drop (length begun - 34) 34 begun ∙ drop_of_length-le begun past in
      ap₂ (λ (a b : List ℕ). a ++ (triples ++ b)) front none ∙ ap (λ (l : List ℕ). m ∷ bits ++ l) (append-nil triples)

  put_length : (triples : List ℕ) → length triples ≡ 3 * k → length (put_mid 34 (length begun - 34) begun triples) ≡ length sheet
  put_length triples h = same_len_mid 34 (length begun - 34) begun triples (h ∙ sym left) ∙ begun_length ∙ sym long

-- the words are the mask and its coefficients
all_words : (words : List ℕ) → 0 < length words → get_or words 0 0 ∷ take (length words - 1) (drop 1 words) ≡ words
all_words [] h = absurd (omega arith)
all_words (w ∷ words) h = ap (λ (l : List ℕ). w ∷ l) (take_all (suc (length words) - 1) words (omega arith))

whole : (k t own m : ℕ) (words drawn bits triples' : List ℕ) → 0 < length words
    → m ≡ value amounts (get_or words 0 0 ∷ take (length words - 1) (drop 1 words)) own
    → bits ≡ byte_shares t own (mask_bits (get_or words 0 0)) drawn
    → triples' ≡ triples t own k (take (length drawn - 33 * t) (drop (33 * t) drawn))
    → m ∷ bits ++ triples' ≡ preprocessing k t own words drawn
unfolding preprocessing
whole k t own m words drawn bits triples' h em eb et =
    let rest = take_all (length drawn - 33 * t) (drop (33 * t) drawn) (omega (arith, length-drop (33 * t) drawn)) in
    ap₂ (λ (x : ℕ) (l : List ℕ). x ∷ l ++ triples') (em ∙ ap (λ (l : List ℕ). value amounts l own) (all_words words h)) eb
    ∙ ap (λ (l : List ℕ). value amounts words own ∷ byte_shares t own (mask_bits (get_or words 0 0)) drawn ++ l) (et ∙ ap (triples t own k) rest)

abbrev mask_word : After-write_bits → ℕ
mask_word c = c.share_amount.result.0

abbrev bit_words : After-write_bits → List ℕ
bit_words c = c.write_bits.new.shares

some_bits : (c : After-write_bits) → length (bit_words c) ≡ 33
some_bits c = ap length c.write_bits.ensures ∙ length_shares _ _ _ _ ∙ length_bits _

pub slice_bounds-write_bits-end : goal.slice_bounds-write_bits-end
slice_bounds-write_bits-end c = simp length-set (omega (arith, c.requires))

pub slice_bounds-write_triples-count-2 : goal.slice_bounds-write_triples-count-2
slice_bounds-write_triples-count-2 c =
    room c.args.m c.args.sheet.now (bit_words (goal.at.slice_bounds-write_triples-count-2 c).After-write_bits) (mask_word (goal.at.slice_bounds-write_triples-count-2 c).After-write_bits) c.requires.3 (some_bits (goal.at.slice_bounds-write_triples-count-2 c).After-write_bits)

pub slice_bounds-write_triples-start-2 : goal.slice_bounds-write_triples-start-2
slice_bounds-write_triples-start-2 c =
    room c.args.m c.args.sheet.now (bit_words (goal.at.slice_bounds-write_triples-start-2 c).After-write_bits) (mask_word (goal.at.slice_bounds-write_triples-start-2 c).After-write_bits) c.requires.3 (some_bits (goal.at.slice_bounds-write_triples-start-2 c).After-write_bits)

pub write_triples-requires : goal.write_triples-requires
write_triples-requires c =
    (simp (length-take, length-drop) (omega (arith, c.requires)), left c.args.m c.args.sheet.now (bit_words (goal.at.write_triples-requires c).After-write_bits) (mask_word (goal.at.write_triples-requires c).After-write_bits) c.requires.3 (some_bits (goal.at.write_triples-requires c).After-write_bits), c.requires.4, c.requires.5)

pub shape_of-sheet : goal.shape_of-sheet
shape_of-sheet c =
    put_length c.args.m c.args.sheet.now (bit_words (goal.at.shape_of-sheet c).After-write_bits) (mask_word (goal.at.shape_of-sheet c).After-write_bits) c.requires.3 (some_bits (goal.at.shape_of-sheet c).After-write_bits) c.write_triples.new.shares
    (ap length c.write_triples.ensures ∙ length_triples _ _ _ _)

pub returns : goal.returns
returns c =
    let a = c.args in
    let e = c.new-row.ensures in
    let triple_words = c.write_triples.new.shares in
    put c.args.m c.args.sheet.now (bit_words (goal.at.returns c).After-write_bits) (mask_word (goal.at.returns c).After-write_bits) c.requires.3 (some_bits (goal.at.returns c).After-write_bits) triple_words
    ∙ whole a.m a.t a.own (mask_word (goal.at.returns c).After-write_bits) a.words.now a.bytes.now (bit_words (goal.at.returns c).After-write_bits) triple_words
    (omega (arith, c.requires)) c.share_amount.ensures (rw e at c.write_bits.ensures) (rw e at c.write_triples.ensures)
