-- `write_triple` meets its contract: three shares, each from its own t bytes. Assumes nothing.
use mathlib.Core.Path.{◌≡◌}
use mathlib.Core.List.{List, [], ◌∷◌}
use Prim.Native.Nat.{ℕ, ◌+◌}
use native.Mathlib.Omega.{arith}
use lib.ListN.{length, take, drop, get_or, set}
use lib.Seq.{drop-drop}
use Rattle.fields.specs.Byte.{product, bytes}
use Rattle.sharing.specs.Polynomial.{value, share_each}
use Rattle.dealer.specs.Deal.{triple}
use Rattle.dealer.proofs.write_triple.Goals as goal

-- three words, each a share made from its own t bytes
three : (t point : ℕ) (drawn old : List ℕ) (gamma x y z : ℕ) → length old ≡ 3 → gamma ≡ product (get_or drawn 0 0) (get_or drawn 1 0)
    → x ≡ value bytes (get_or drawn 0 0 ∷ take t (drop 2 drawn)) point
    → y ≡ value bytes (get_or drawn 1 0 ∷ take t (drop (2 + t) drawn)) point
    → z ≡ value bytes (gamma ∷ take t (drop (2 + t + t) drawn)) point
    → set (set (set old 0 x) 1 y) 2 z ≡ triple t point drawn
unfolding triple share_each
three t point drawn [] gamma x y z l eg ex ey ez = absurd (omega arith)
three t point drawn (a ∷ []) gamma x y z l eg ex ey ez = absurd (omega arith)
three t point drawn (a ∷ b ∷ []) gamma x y z l eg ex ey ez = absurd (omega arith)
three t point drawn (a ∷ b ∷ d ∷ e ∷ old) gamma x y z l eg ex ey ez = absurd (omega arith)
three t point drawn (a ∷ b ∷ d ∷ []) gamma x y z l eg ex ey ez = simp (ex, ey, ez, eg, drop-drop)

pub returns : goal.returns
returns c =
    let a = c.args in
    three a.t a.row.now.byte a.drawn.now a.shares.now _ c.share_from.result c.share_from-2.result c.share_from-3.result
    c.requires.1 c.product-gamma.ensures c.share_from.ensures c.share_from-2.ensures c.share_from-3.ensures
