-- `agreed` meets its contract: no word is not the first. Assumes nothing.
use Rattle.std.specs.Prelude.{None, Some}
use mathlib.Core.Path.{◌≡◌, sym, ap, ◌∙◌}
use mathlib.Core.Bool.{Bool, cond}
use mathlib.Core.List.{List, ◌∷◌, map}
use Prim.Native.Nat.{ℕ}
use lib.Dec.{eqb}
use lib.ListN.{length-map}
use borrow.Author.Rules.{rules}
use borrow.Author.Tests.{tests}
use Rattle.std.proofs.lemmas.Iterator.{YieldsList-from_slice}
use Rattle.std.proofs.lemmas.Iterator.Search.{all_from_yields_List}
use Rattle.ranges.specs.Lists.{every}
use Rattle.openings.proofs.Settled.{some_where}
use Rattle.openings_at.specs.At.{agreed}
use Rattle.openings_at.proofs.Opened.{all_are, agreed_none}
use Rattle.openings_at.proofs.agreed.Goals as goal

pub returns-in_err-first : goal.returns-in_err-first
returns-in_err-first g c = λ f d. c.from_residual.ensures ∙ agreed_none _ (length-map c.args.words.now f ∙ c.in_err-first.ensures.cases)

pub returns : goal.returns
unfolding agreed
returns g c =
    λ f d.
    let first : ℕ = c.in_ok-first.first.now in
    let rest : List ℕ = c.in_ok-first.rest.now in
    let words : c.args.words.now ≡ first ∷ rest = c.in_ok-first.ensures.cases.0 in
    let v : ℕ = c.part-value.result in
    let value : v ≡ f first = d first v c.part-value.ensures in
    let same : c.all.result ≡ every (eqb v) (map f rest) =
    all_from_yields_List (λ (w : ℕ). eqb v (f w)) _ _ _ c.all.ensures.ran (YieldsList-from_slice rest cc) (λ x b q k. search (rules, tests, d)) ∙ all_are f v rest in
    c.then_some.ensures ∙ some_where _ _ ∙ ap (λ (b : Bool). cond b (Some v) None) same
    ∙ ap (λ (n : ℕ). cond (every (eqb n) (map f rest)) (Some n) None) value ∙ ap (λ (ws : List ℕ). agreed (map f ws)) (sym words)
