-- `share_by` meets its contract: the sum so far is the value of the coins that were passed. Assumes nothing.
use Rattle.std.proofs.Common.{rules, ◌≡◌, ◌∷◌, [], ◌++◌, List, ℕ, sym, ap, ◌∙◌}
use lib.Bits.{xor_zero_r}
use Rattle.fields.specs.Byte.{xor, product, bytes}
use Rattle.fields.proofs.Bytes.{product_zero}
use Rattle.sharing.specs.Polynomial.{value}
use Rattle.sharing.proofs.Horner.{Passed, none, one_more, all}
use Rattle.sharing.proofs.byte.share_by.Goals as goal
use Rattle.sharing.proofs.byte.share_by.Goals.{in-Some-next, in_default-next}

-- a constant
alone : (a x : ℕ) → a ≡ xor a (product x 0)
unfolding xor
alone a x = sym (ap (xor a) (product_zero x) ∙ xor_zero_r a)

module _ (coins : List ℕ) (point : ℕ) where
  -- the last coin
  last : (rest rest' : List ℕ) (coin : ℕ) → rest ≡ coins → rest ≡ rest' ++ (coin ∷ []) → Passed bytes point coins rest' coin
  last rest rest' coin e m = rw (alone coin point) (one_more bytes point coins rest rest' coin 0 m (none bytes point coins rest e))

pub returns-in_default : goal.returns-in_default
unfolding value
returns-in_default c =
    let a = c.args in
    let e : c.rev-left.result.iter.rest.now ≡ a.coins.now = search rules in
    alone a.secret a.row.now.byte
    ∙ ap (λ (v : ℕ). xor a.secret (product a.row.now.byte v))
    (all bytes a.row.now.byte a.coins.now _ _ c.in_default.ensures.steps.0 (none bytes a.row.now.byte a.coins.now _ e))

pub loop-coin-init : goal.loop-coin-init
unfolding xor
loop-coin-init c =
    let a = c.args in
    let e : c.rev-left.result.iter.rest.now ≡ a.coins.now = search rules in
    let one = last a.coins.now a.row.now.byte _ _ _ e c.in-Some.ensures.steps in
    rw c.into_iter-coin-iterator.ensures.into_iter_gives
    elim c.match-next-2.branch [
      | in-Some-next w ↦ rw (w.sum-is, w.product.ensures) (one_more bytes a.row.now.byte a.coins.now _ _ _ _ w.in-Some-next.ensures.steps one)
      | in_default-next w ↦ rw (w.sum-is, w.in_default-next.ensures.steps.1) one
    ]

pub loop-coin-preserved : goal.loop-coin-preserved
unfolding xor
loop-coin-preserved c =
    let l = c.loop-coin in
    let a = c.args in
    rw c.product-in-loop-coin.ensures (one_more bytes a.row.now.byte a.coins.now _ _ _ l.sum c.in-Some-coin.ensures.steps l.invariant)

pub returns : goal.returns
unfolding value xor
returns c =
    let l = c.loop-coin in
    let a = c.args in
    ap (xor a.secret)
    (c.product-2.ensures ∙ ap (product a.row.now.byte) (all bytes a.row.now.byte a.coins.now _ _ c.in-None.ensures.steps.0 l.invariant))
