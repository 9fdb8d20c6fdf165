-- `write_triples` meets its contract: 3 i words are written, and the other triples are still to be made of the bytes after those
-- of i. Assumes nothing.
use mathlib.Core.Path.{◌≡◌, sym, ap, ap₂, ◌∙◌}
use mathlib.Core.List.{List, ◌++◌, append_assoc, append-nil}
use Prim.Native.Nat.{ℕ, suc, ◌+◌, ◌-◌, ◌*◌, ◌≤◌, ◌<◌}
use native.Mathlib.Nat.{zero-mul, mul-le-mul_right}
use native.Mathlib.Omega.{arith}
use lib.ListN.{length, take, drop, length-drop, length-take, length-append}
use lib.Seq.{length-take-le, take_all, take_at, drop-drop}
use borrow.Rule.Slice.PartMut.{put_mid, same_len_mid}
use Rattle.dealer.specs.Deal.{triple, triples}
use Rattle.dealer.proofs.Laws.{length_triple}
use borrow.Author.Rules.{rules}
use Rattle.dealer.proofs.write_triples.Goals as goal
use Rattle.dealer.proofs.write_triples.Goals.{In-loop-i}

-- the bytes of a triple are there
fits : (c : In-loop-i) → c.loop-i.i * (2 + 3 * c.args.t) + (2 + 3 * c.args.t) ≤ length c.args.drawn.now
fits c =
    let l = c.loop-i in
    let r : (l.i + 1) * (2 + 3 * c.args.t) ≤ c.args.m * (2 + 3 * c.args.t) = mul-le-mul_right (2 + 3 * c.args.t) (omega arith) in
    omega (arith, c.requires.0)

-- one triple more
module _ (m t point i at : ℕ) (shares part drawn : List ℕ) (long : length shares ≡ 3 * m) (more : i < m) (made : part ≡ triple t point (drop at drawn)) where
  three : length part ≡ 3
  three = ap length made ∙ length_triple t point (drop at drawn)

  put_length : length (put_mid (3 * i) (3 * i + 3 - 3 * i) shares part) ≡ 3 * m
  put_length =
      same_len_mid (3 * i) (3 * i + 3 - 3 * i) shares part (three ∙ sym (length-take-le (3 * i + 3 - 3 * i) (drop (3 * i) shares) (simp length-drop (omega arith)) ∙ omega arith))
      ∙ long

  put_more : take (3 * i) shares ++ triples t point (m - i) (drop at drawn)
      ≡ take (3 * (i + 1)) (put_mid (3 * i) (3 * i + 3 - 3 * i) shares part) ++ triples t point (m - (i + 1)) (drop (at + (2 + 3 * t)) drawn)
  unfolding triples
  put_more =
      let front = take (3 * i) shares in
      let rest = triples t point (m - (i + 1)) (drop (at + (2 + 3 * t)) drawn) in
      let j : m - i ≡ suc (m - (i + 1)) = omega arith in
      let l : length (front ++ part) ≡ 3 * (i + 1) = length-append front part ∙ ap₂ ◌+◌ (length-take-le (3 * i) shares (omega arith)) three ∙ omega arith in
      ap (λ (k : ℕ). front ++ triples t point k (drop at drawn)) j
      ∙ ap₂ (λ (a b : List ℕ). front ++ (a ++ triples t point (m - (i + 1)) b)) (sym made) (drop-drop (2 + 3 * t) at drawn)
      ∙ sym (append_assoc front part rest)
      ∙ ap (λ (a : List ℕ). a ++ rest) (sym (ap (take (3 * (i + 1))) (sym (append_assoc front part _)) ∙ take_at (front ++ part) _ (3 * (i + 1)) l))

-- at the end
all_put : (m t point i : ℕ) (shares drawn whole : List ℕ) → length shares ≡ 3 * m → i ≡ m → take (3 * i) shares ++ triples t point (m - i) drawn ≡ whole
    → shares ≡ whole
unfolding triples
all_put m t point i shares drawn whole l e w =
    let z : m - i ≡ 0 = omega arith in
    sym (append-nil shares)
    ∙ ap₂ (λ (a b : List ℕ). a ++ b) (sym (take_all (3 * i) shares (omega arith))) (ap (λ (k : ℕ). triples t point k drawn) (sym z)) ∙ w

pub loop-i-init : goal.loop-i-init
loop-i-init c =
    let a = c.args in
    ap₂ (λ (k n : ℕ). triples a.t a.row.now.byte k (drop n a.drawn.now)) (omega arith) (zero-mul (2 + 3 * a.t))

pub overflow_mul-at : goal.overflow_mul-at
overflow_mul-at c = omega (arith, fits (goal.at.overflow_mul-at c).In-loop-i, c.well_formed)

pub slice_bounds-write_triple-count : goal.slice_bounds-write_triple-count
slice_bounds-write_triple-count c = omega (arith, fits c)

pub slice_bounds-write_triple-start : goal.slice_bounds-write_triple-start
slice_bounds-write_triple-start c = search (rules, fits c)

pub write_triple-requires : goal.write_triple-requires
write_triple-requires c =
    let f = fits (goal.at.write_triple-requires c).In-loop-i in
    (simp (length-take, length-drop) (omega arith), simp (length-take, length-drop) (omega arith))

pub loop-i-preserved : goal.loop-i-preserved
loop-i-preserved c =
    let l = c.loop-i in
    let a = c.args in
    let h : l.i < a.m = c.loop-i-test.true in
    let at = l.i * (2 + 3 * a.t) in
    let rest = take_all (length a.drawn.now - at) (drop at a.drawn.now) (omega (arith, length-drop at a.drawn.now)) in
    let made = c.write_triple.ensures ∙ ap (triple a.t a.row.now.byte) rest in
    let next : (l.i + 1) * (2 + 3 * a.t) ≡ at + (2 + 3 * a.t) = omega arith in
    rw next (sym (put_more a.m a.t a.row.now.byte l.i at l.shares c.write_triple.new.shares a.drawn.now (omega arith) h made) ∙ l.invariant)

pub returns : goal.returns
returns c =
    let l = c.loop-i in
    let a = c.args in
    all_put a.m a.t a.row.now.byte l.i l.shares _ _ (omega arith) (omega arith) l.invariant
