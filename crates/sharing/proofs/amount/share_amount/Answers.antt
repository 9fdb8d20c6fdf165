-- `share_amount` meets its contract: the sum so far is the value of the coins that were passed. Assumes nothing.
use Rattle.std.proofs.Common.{rules, ◌≡◌, ap, ◌∙◌}
use Rattle.fields.specs.Amount.{amounts}
use Rattle.sharing.specs.Polynomial.{value}
use Rattle.sharing.proofs.Horner.{none, one_more, all}
use Rattle.sharing.proofs.amount.share_amount.Goals as goal

pub loop-coin-init : goal.loop-coin-init
loop-coin-init c =
    let e : c.into_iter-coin-iterator.result.iter.rest.now ≡ c.args.coins.now = search rules in
    none amounts c.args.point c.args.coins.now _ e

pub loop-coin-preserved : goal.loop-coin-preserved
loop-coin-preserved c =
    rw c.mul_add-sum.ensures (one_more amounts c.args.point c.args.coins.now _ _ c.in-Some.coin.now _ c.in-Some.ensures.steps c.loop-coin.invariant)

pub returns : goal.returns
unfolding value
returns c =
    let a = c.args in
    c.mul_add.ensures
    ∙ ap (λ (v : _). amounts.add a.secret (amounts.mul a.point v)) (all amounts a.point a.coins.now _ _ c.in-None.ensures.steps.0 c.loop-coin.invariant)
