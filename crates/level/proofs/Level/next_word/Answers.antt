-- `next_word` meets its contract. Assumes nothing.
use mathlib.Core.Path.{◌≡◌, sym, ap₂, ◌∙◌}
use Prim.Native.Nat.{◌%◌}
use native.Mathlib.Omega.{arith}
use borrow.Author.Tests.{eq-eqb, ne_eqb}
use lib.ListN.{get_or}
use Rattle.fields.specs.Byte.{bytes}
use Rattle.comparison.specs.Local.{on_shares}
use Rattle.comparison.specs.Pairs.{multiplied}
use Rattle.level.specs.Level.{level_triples, next_word, no_triple}
use Rattle.level.proofs.Level.next_word.Goals as goal
use Rattle.level.proofs.Level.next_word.Goals.{After-multiplied-product}

-- the share of the product
module _ (c : After-multiplied-product) where
  product : c.multiplied-product.result.0
      ≡ multiplied (on_shares bytes) (record { left = c.args.d; right = c.args.e }) (get_or (level_triples c.args.self.now.round c.args.self.now.sheet.now) c.args.j no_triple)
  product =
      c.multiplied-product.ensures
      ∙ (λ k. multiplied (on_shares bytes) (record { left = c.args.d; right = c.args.e })
      (record { alpha = c.triple.ensures.alpha k; beta = c.triple.ensures.beta k; gamma = c.triple.ensures.gamma k }))

pub overflow_cast-d : goal.overflow_cast-d
overflow_cast-d c = omega (arith, c.requires.1)

pub overflow_cast-e : goal.overflow_cast-e
overflow_cast-e c = omega (arith, c.requires.2)

pub returns-then-j-eq0 : goal.returns-then-j-eq0
unfolding next_word
returns-then-j-eq0 c =
    product (goal.at.returns-then-j-eq0 c).After-multiplied-product ∙ sym (rw (eq-eqb (c.args.j % 2) 0 c.if-j-eq0.true))

pub returns : goal.returns
unfolding next_word
returns c =
    c.add.ensures ∙ ap₂ bytes.add (product (goal.at.returns c).After-multiplied-product) c.bottom.ensures ∙ sym (rw (ne_eqb (c.args.j % 2) 0 c.if-j-eq0.false))
