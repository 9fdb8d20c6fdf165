-- The settlement of an input: the page of its auction at the price. Assumes nothing.
use Rattle.std.specs.Prelude.{cond, List, ◌++◌, ℕ, ◌-◌, ◌*◌, eqb, length, get_or, replicate}
use Rattle.refusal.specs.Refusal.{number_of}
use Rattle.filling.specs.Fill.{hours}
use Rattle.settlement_page.specs.Page.{layout, entries_size}
use Rattle.entering.specs.Entries.{entries}
use Rattle.auction.specs.Auction.{demand, supply, price_answer}
use Rattle.lines.specs.Lines.{lines}
use Rattle.plan.specs.Plan.{Plan, Reading, faulty, accepted, read}
use Rattle.listing.specs.Lines.{refused_line, no_price_line}
use Rattle.rehearsal.specs.Listing.{auction}

-- The entries at an index, where bid i of the file is bidder i's: "a buyer of amount a gets a times S divided by D, rounded down". Those
-- who are left of 1,000 bidders want nothing.
abbrev pub plan_entries : Plan → (m : ℕ) → List ℕ
plan_entries p m =
    entries (hours (demand (auction p) m) (supply (auction p) m)) p.k m p.bids ++ replicate (entries_size - 4 * length p.bids) 0

-- the page at the price, or the listing's line where there is none
abbrev pub plan_page : Plan → List ℕ
plan_page p =
    let m = price_answer (auction p) in
    cond (eqb m 0) no_price_line (layout (get_or p.prices (m - 1) 0) (plan_entries p m))

unfoldable pub settled : Reading → List ℕ
settled (faulty why line) = refused_line (number_of why) line
settled (accepted p) = plan_page p

-- the bytes that are printed, from the bytes of the input
abbrev pub settlement : List ℕ → List ℕ
settlement bytes = settled (read (lines bytes))
