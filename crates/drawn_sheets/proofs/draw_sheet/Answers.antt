-- `draw_sheet` meets its contract. Assumes nothing.
use mathlib.Core.Path.{◌≡◌, ap, ap₂, ◌∙◌}
use mathlib.Core.List.{List, [], ◌∷◌, ◌++◌, append-nil}
use Prim.Native.Nat.{ℕ, suc, ◌-◌, ◌%◌, ◌^◌, ◌≤◌}
use native.Mathlib.Omega.{arith}
use lib.ListN.{length, take, drop, set, length-set, length-drop}
use lib.Seq.{length-take-le, drop-length}
use borrow.Rule.Slice.PartMut.{put_mid}
use Rattle.draws.specs.Draws.{next, next_coin, later, drawn_coins, drawn_bytes}
use Rattle.drawn_sheets.proofs.draw_sheet.Goals as goal

tail_length : (ws : List ℕ) (v : ℕ) → length (take (length (set ws 0 v) - 1) (drop 1 (set ws 0 v))) ≡ length ws - 1
tail_length ws v =
    length-take-le (length (set ws 0 v) - 1) (drop 1 (set ws 0 v)) (omega (arith, length-drop 1 (set ws 0 v))) ∙ ap (λ (x : ℕ). x - 1) (length-set ws 0 v)

-- the first word, and what is put after it
put_tail : (ws : List ℕ) (v : ℕ) (cs : List ℕ) → 1 ≤ length ws → length cs ≡ length ws - 1 → put_mid 1 (length (set ws 0 v) - 1) (set ws 0 v) cs ≡ v ∷ cs
put_tail [] v cs h l = absurd (omega arith)
put_tail (w ∷ ws) v cs h l =
    let e : suc (length ws) - 1 ≡ length ws = omega arith in
    ap (λ (x : ℕ). v ∷ (cs ++ drop x ws)) e ∙ ap (λ (x : List ℕ). v ∷ (cs ++ x)) (drop-length ws) ∙ ap (λ (x : List ℕ). v ∷ x) (append-nil cs)

pub shape_of-words : goal.shape_of-words
shape_of-words c = c.words-1.given.1 ∙ simp length-set

pub returns : goal.returns
returns c =
    let ws = c.args.words.now in
    let v = c.next-first.result % 2 ^ 58 in
    let e = c.next-first.ensures in
    let m : length (take (length (set ws 0 v) - 1) (drop 1 (set ws 0 v))) ≡ length ws - 1 = tail_length ws v in
    let cs = c.draw_coins-second.ensures.0 ∙ ap₂ drawn_coins m e in
    let st = c.draw_coins-second.ensures.1 ∙ ap₂ (later next_coin) m e in (
      put_tail ws v _ c.requires (c.words-1.given.0 ∙ m) ∙ ap₂ (λ (x : ℕ) (l : List ℕ). x % 2 ^ 58 ∷ l) e cs,
      c.draw_bytes.ensures.0 ∙ ap (drawn_bytes (length c.args.bytes.now)) st,
      c.draw_bytes.ensures.1 ∙ ap (later next (length c.args.bytes.now)) st,
    )
