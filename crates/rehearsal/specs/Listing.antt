-- The listing: what the rehearsal prints for its input. Assumes nothing.
use Rattle.std.specs.Prelude.{List, ℕ, ◌-◌, get_or}
use Rattle.refusal.specs.Refusal.{number_of}
use Rattle.auction.specs.Auction.{Auction, demand, supply, price_answer, probed}
use Rattle.standing.specs.Numbered.{rehearsed, numbered}
use Rattle.lines.specs.Lines.{lines}
use Rattle.plan.specs.Plan.{Plan, Reading, faulty, accepted, read}
use Rattle.listing.specs.Lines.{refused_line, course_lines}
use Rattle.probing.specs.Follows.{as_listed}

-- the auction of a plan, which no seed changes
abbrev pub auction : Plan → Auction
auction p = rehearsed p.n p.k (numbered 1 p.bids)

-- the probes of both searches on the plan's totals: "The listing adds its probes with further numbers"
abbrev pub plan_trail : Plan → List (ℕ × ℕ)
plan_trail p = as_listed (probed (auction p))

-- the course of a plan's auction: "`clears` shows the new index" m, with "total demand D and total supply S at m"
abbrev pub plan_lines : Plan → List ℕ
plan_lines p =
    let m = price_answer (auction p) in
    course_lines (plan_trail p) m (get_or p.prices (m - 1) 0) (demand (auction p) m) (supply (auction p) m)

unfoldable pub printed : Reading → List ℕ
printed (faulty why line) = refused_line (number_of why) line
printed (accepted p) = plan_lines p

-- the bytes of the listing, from the bytes of the input
abbrev pub listing : List ℕ → List ℕ
listing bytes = printed (read (lines bytes))
