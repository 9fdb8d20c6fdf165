-- What is counted by the way, as numbers. Assumes nothing.
use mathlib.Core.Path.{◌≡◌, refl, ap}
use mathlib.Core.Bool.{Bool, true, false, ◌&&◌, cond}
use Prim.Native.Nat.{ℕ, ◌+◌, ◌*◌, ◌/◌, ◌^◌, ◌≤◌}
use native.Mathlib.Omega.{arith}
use lib.Dec.{leb}
use borrow.Author.Tests.{eq-eqb, ne_eqb}
use Rattle.ways.specs.Way.{Way, chain, tree, way_of, triples_of, sheet_size, drawn_size, width}

pub and-true : (a b : Bool) → (a && b) ≡ true → (a ≡ true) × (b ≡ true)
and-true true b e = (refl, e)
and-true false b e = absurd (false_true e)
  where
    false_true : false ≡ true → ⊥
    false_true e = let z : ◌≡◌ {A = ℕ} 0 1 = ap (λ (b : Bool). cond b 1 0) e in omega arith

pub way_tree : (last : ℕ) → last ≡ 7 → way_of last ≡ tree
unfolding way_of
way_tree last e = simp (eq-eqb last 7 e)

pub way_chain : (last : ℕ) → (last ≡ 7 → ⊥) → way_of last ≡ chain
unfolding way_of
way_chain last h = simp (ne_eqb last 7 h)

pub triples_tree : triples_of tree ≡ 62
unfolding triples_of
triples_tree = refl

pub triples_chain : triples_of chain ≡ 31
unfolding triples_of
triples_chain = refl

pub sheet_tree : sheet_size tree ≡ 220
unfolding sheet_size triples_of
sheet_tree = refl

pub sheet_chain : sheet_size chain ≡ 127
unfolding sheet_size triples_of
sheet_chain = refl

pub drawn_tree : (t : ℕ) → drawn_size tree t ≡ 219 * t + 124
unfolding drawn_size triples_of
drawn_tree t = omega arith

pub drawn_chain : (t : ℕ) → drawn_size chain t ≡ 126 * t + 62
unfolding drawn_size triples_of
drawn_chain t = omega arith

pub width_by : (b : Bool) (i : ℕ) → width (cond b tree chain) i ≡ cond (b && (leb 2 i && leb i 7)) (128 / 2 ^ i) 1
unfolding width
width_by true i = refl
width_by false i = refl

pub few_triples : (w : Way) → triples_of w ≤ 62
unfolding triples_of
few_triples chain = omega arith
few_triples tree = omega arith

pub drawn_split : (w : Way) (t : ℕ) → drawn_size w t ≡ 33 * t + triples_of w * (2 + 3 * t)
unfolding drawn_size
drawn_split w t = refl

pub sheet_split : (w : Way) → sheet_size w ≡ 34 + 3 * triples_of w
unfolding sheet_size
sheet_split w = refl

pub sheets_least : (w : Way) (n : ℕ) → 127 * n ≤ sheet_size w * n
unfolding sheet_size triples_of
sheets_least chain n = omega arith
sheets_least tree n = omega arith

pub sheet_some : (w : Way) → (127 ≤ sheet_size w) × (sheet_size w ≤ 220)
unfolding sheet_size triples_of
sheet_some chain = (omega arith, omega arith)
sheet_some tree = (omega arith, omega arith)
