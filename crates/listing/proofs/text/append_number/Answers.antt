-- `append_number` meets its contract: the digits that `io` makes are the number's. Assumes nothing.
use mathlib.Core.Path.{◌∙◌}
use native.Mathlib.Omega.{arith}
use Rattle.listing.proofs.Writing.{wrote_same, few_digits, decimal_digits}
use Rattle.listing.proofs.text.append_number.Goals as goal

pub append-requires : goal.append-requires
append-requires c =
    let d = c.decimal-many in
    omega (arith, d.ensures.in_bounds, few_digits c.args.n d.result d.ensures.len c.ranges.n, c.requires)

pub returns : goal.returns
returns c =
    let d = c.decimal-many in
    let a = c.append in
    let e = d.ensures.digits ∙ decimal_digits c.args.n d.result d.ensures.len in (
      wrote_same e a.ensures,
      omega (arith, d.ensures.in_bounds, few_digits c.args.n d.result d.ensures.len c.ranges.n, a.ensures.place),
    )
