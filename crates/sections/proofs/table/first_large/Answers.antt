-- `first_large` meets its contract: what the search passed by is small, and where it stopped is not. Assumes nothing.
use Rattle.std.proofs.Common.{◌∙◌, ◌≤◌, ◌<◌, leb, rules}
use borrow.Author.Tests.{tests, le-leb, lt-leb}
use Rattle.std.proofs.lemmas.Iterator.{IsFirst-from_position, YieldsList-from_slice}
use Rattle.bid.specs.Table.{most}
use Rattle.sections.proofs.Counts.{passed_found}
use Rattle.sections.proofs.table.first_large.Goals as goal

pub returns : goal.returns
returns c =
    c.unwrap_or.ensures
    ∙ passed_found (λ a. leb a most) (λ x. most < x) (λ x. x ≤ most) (λ x h. lt-leb _ _ h) (λ x h. le-leb _ _ h) c.args.table.now c.position.result
    (IsFirst-from_position _ _ _ (λ x. most < x) (λ x. x ≤ most) c.position.ensures.ran (YieldsList-from_slice c.args.table.now cc)
    (λ x q k. search (rules, tests)) (λ x q k. search (rules, tests)))
