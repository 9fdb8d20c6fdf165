-- What is noted of the searches, and what it has to be. Assumes nothing.
use Rattle.std.specs.Prelude.{◌≡◌, cond, List, map, ℕ, ◌<◌, eqb, Ok, Err}
use Rattle.search.specs.declared.searches.Search.{Search}
use Rattle.search.specs.Bracket.{middle}
use Rattle.search.specs.Search.{Decision}
use Rattle.session.specs.Answer.{Answered}
use Rattle.auction.specs.Auction.{Auction, demand, supply, price_answer, probed}
use Rattle.listing.specs.declared.course.Course.{Course}
use Rattle.listing.specs.Lines.{course_trail}

-- The end that a 1 would have moved to the index, read off party 1's searches before and after a probe: "On 1, lo becomes the index", and
-- lo is i where that ended the first; in the second search "a verdict of 1 moves hi".
abbrev pub moved_end : (before after : Search) → ℕ
moved_end before after = cond (eqb before.which 2) after.bracket.hi (cond (eqb after.which 2) after.first after.bracket.lo)

abbrev pub verdict_read : (before after : Search) → ℕ
verdict_read before after = cond (eqb (moved_end before after) (middle before.bracket)) 1 0

abbrev pub priced : Answered → ℕ
priced (Ok a) = a.price
priced (Err why) = 0

-- the probes as they are listed: each index with its verdict, the second search's after the first's
abbrev pub as_listed : List Decision → List (ℕ × ℕ)
as_listed ds = map (λ d. (d.index, d.verdict)) ds

-- the probes of both searches, the price index, and the totals there
pub record Follows (a : Auction) (r : Course) : Type 0 where
  pub noted : course_trail r.trail r.probes ≡ as_listed (probed a)
  pub clears : r.answer ≡ price_answer a
  -- "When the index m is not 0, the keepers open total demand D and total supply S at m"
  pub total_demand : 0 < price_answer a → r.demand ≡ demand a (price_answer a)
  pub total_supply : 0 < price_answer a → r.supply ≡ supply a (price_answer a)
