-- `word` meets its contract. Assumes nothing.
use mathlib.Core.Path.{◌≡◌, sym, ap, ap₂, ◌∙◌}
use Prim.Native.Nat.{ℕ, ◌+◌}
use native.Mathlib.Omega.{arith}
use lib.ListN.{get_or}
use Rattle.fields.specs.Byte.{bytes}
use Rattle.comparison.specs.Rounds.{both}
use Rattle.comparison.specs.Pairs.{Triple}
use Rattle.level.specs.Level.{level_triples, no_triple}
use Rattle.level.proofs.Laws.{wide, triple_at, at, even_word, odd_word}
use Rattle.level.proofs.Level.word.Goals as goal
use Rattle.level.proofs.Level.word.Goals.{After-triple-triple}

-- the triple, where it stands in the sheet
module _ (c : After-triple-triple) where
  abbrev place : ℕ
  place = at c.args.self.now.round c.args.self.now.sum c.args.self.now.kept.now c.args.self.now.sheet.now c.args.self.now.ready c.args.j

  found : get_or (level_triples c.args.self.now.round c.args.self.now.sheet.now) c.args.j no_triple
      ≡ record { alpha = get_or c.args.self.now.sheet.now place 0; beta = get_or c.args.self.now.sheet.now (place + 1) 0; gamma = get_or c.args.self.now.sheet.now (place + 2) 0 }
  found =
      triple_at c.args.self.now.round c.args.self.now.sum c.args.self.now.kept.now c.args.self.now.sheet.now c.args.self.now.ready c.args.j c.requires

  alpha : c.triple-triple.result.alpha.0 ≡ get_or c.args.self.now.sheet.now place 0
  alpha = c.triple-triple.ensures.alpha ∙ ap (λ (t : Triple ℕ). t.alpha) found

  beta : c.triple-triple.result.beta.0 ≡ get_or c.args.self.now.sheet.now (place + 1) 0
  beta = c.triple-triple.ensures.beta ∙ ap (λ (t : Triple ℕ). t.beta) found

pub top-y-requires : goal.top-y-requires
top-y-requires c =
    let W = wide c.args.self.now.round c.args.self.now.ready.least c.args.self.now.ready.most in
    omega (arith, W.twice, c.requires)

pub returns-then-j-eq0 : goal.returns-then-j-eq0
returns-then-j-eq0 c =
    let here = (goal.at.returns-then-j-eq0 c).After-triple-triple in
    c.masked_word.ensures
    ∙ (λ k. both (bytes.add (c.top.ensures k) (alpha here k)) (bytes.add (c.top-y.ensures k) (beta here k)))
    ∙ sym (even_word c.args.self.now.round c.args.self.now.sum c.args.self.now.kept.now c.args.self.now.sheet.now c.args.self.now.ready c.args.j c.if-j-eq0.true c.requires)

pub returns : goal.returns
returns c =
    let here = (goal.at.returns c).After-triple-triple in
    let v = c.add.ensures ∙ ap₂ bytes.add c.bottom.ensures c.bottom-2.ensures in
    c.masked_word-2.ensures
    ∙ (λ k. both (bytes.add (c.top-y.ensures k) (alpha here k)) (bytes.add (v k) (beta here k)))
    ∙ sym (odd_word c.args.self.now.round c.args.self.now.sum c.args.self.now.kept.now c.args.self.now.sheet.now c.args.self.now.ready c.args.j c.if-j-eq0.false c.requires)
