-- The parts of words: the lowest bytes, and those above them. Assumes nothing.
use mathlib.Core.Path.{◌≡◌, refl, ap₂}
use mathlib.Core.Bool.{Bool, true, false, ◌&&◌}
use mathlib.Core.List.{List, [], ◌∷◌, map}
use Prim.Native.Nat.{ℕ, ◌/◌, ◌%◌, ◌<◌}
use native.Mathlib.Nat.{mod-eq_of_lt}
use native.Mathlib.Omega.{arith}
use lib.Dec.{ltb}
use borrow.Author.Tests.{ltb-true, ltb-false, lt-ltb, le-ltb}
use Rattle.ranges.specs.Lists.{every}
use Rattle.ranges.proofs.Loops.{and-true}

abbrev pub lows : List ℕ → List ℕ
lows words = map (λ w. w % 256) words

abbrev pub highs : List ℕ → List ℕ
highs words = map (λ w. w / 256 % 256) words

-- bytes are in range
pub bytes_below : (f : ℕ → ℕ) → ((w : ℕ) → f w < 256) → (words : List ℕ) → every (λ w. ltb w 256) (map f words) ≡ true
unfolding every
bytes_below f h [] = refl
bytes_below f h (w ∷ words) = ap₂ ◌&&◌ (lt-ltb (f w) 256 (h w)) (bytes_below f h words)

pub lows_same : (words : List ℕ) → every (λ w. ltb w 256) words ≡ true → lows words ≡ words
unfolding every
lows_same [] e = refl
lows_same (w ∷ words) e =
    let p = and-true (ltb w 256) (every (λ w. ltb w 256) words) e in
    ap₂ (λ (z : ℕ) (zs : List ℕ). z ∷ zs) (mod-eq_of_lt (ltb-true w 256 p.0)) (lows_same words p.1)

pub highs_same : (words : List ℕ) → every (λ w. ltb w 65536) words ≡ true → highs words ≡ map (λ w. w / 256) words
unfolding every
highs_same [] e = refl
highs_same (w ∷ words) e =
    let p = and-true (ltb w 65536) (every (λ w. ltb w 65536) words) e in
    let l : w / 256 < 256 = omega (arith, ltb-true w 65536 p.0) in
    ap₂ (λ (z : ℕ) (zs : List ℕ). z ∷ zs) (mod-eq_of_lt l) (highs_same words p.1)

-- what is above the lowest byte is a byte
two_bytes : (w : ℕ) → ltb (w / 256) 256 ≡ ltb w 65536
two_bytes w = go (ltb w 65536) refl
  where
    go : (b : Bool) → ltb w 65536 ≡ b → ltb (w / 256) 256 ≡ b
    go true e = lt-ltb (w / 256) 256 (omega (arith, ltb-true w 65536 e))
    go false e = le-ltb (w / 256) 256 (omega (arith, ltb-false w 65536 e))

pub every_two : (words : List ℕ) → every (λ w. ltb w 256) (map (λ w. w / 256) words) ≡ every (λ w. ltb w 65536) words
unfolding every
every_two [] = refl
every_two (w ∷ words) = ap₂ ◌&&◌ (two_bytes w) (every_two words)
