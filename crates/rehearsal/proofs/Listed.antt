-- What is written of an input is its listing: a fault, or the course of its auction. Assumes nothing.
use mathlib.Core.Path.{◌≡◌, refl, sym, ap, ap₂, subst, ◌∙◌}
use mathlib.Core.List.{List, ◌++◌}
use Prim.Native.Nat.{ℕ, zero, suc, ◌+◌, ◌-◌, ◌*◌, ◌<◌}
use native.Mathlib.Omega.{arith}
use lib.ListN.{length, drop, get_or, length-map}
use Rattle.search.proofs.Clearing.{clearing_within}
use Rattle.search.proofs.Balance.{price_within}
use Rattle.auction.specs.Auction.{Auction, demand, supply, price_answer, probed, total_rounds, rounds}
use Rattle.standing.specs.Numbered.{rehearsed, numbered}
use Rattle.standing.proofs.Standing.{auction_of}
use Rattle.plan.specs.declared.judging.Shape.{Shape}
use Rattle.std.proofs.Common.{Ok, Err}
use Rattle.refusal.specs.Refusal.{number_of}
use Rattle.sections.specs.declared.table.Fault.{Fault}
use Rattle.lines.specs.Lines.{lines, past, price_of}
use Rattle.lines.proofs.Again.{number_at}
use Rattle.plan.specs.Plan.{Plan, accepted, read}
use Rattle.plan.specs.Judged.{shape_of, judged_as}
use Rattle.listing.specs.declared.course.Course.{Course}
use Rattle.listing.specs.Lines.{refused_line, probe_lines, clears_line, totals_line, rounds_of, rounds_line, course_lines, course_trail}
use Rattle.probing.specs.Follows.{Follows}
use Rattle.running.proofs.Accepted.{accepted_plan, judged_bad, judged_good}
use Rattle.rehearsal.specs.Listing.{auction, plan_trail, plan_lines, printed, listing}

-- a fault is what is printed
pub judged_faulty : (bytes : List ℕ) (fault : Fault) → judged_as bytes ≡ Err fault
    → listing bytes ≡ refused_line (number_of fault.refusal) fault.line
unfolding printed
judged_faulty bytes fault e = ap printed (judged_bad bytes (read (lines bytes)) fault e)

-- ---- a course that follows the auction is what is printed

same_clears : (answer a b : ℕ) → (0 < answer → a ≡ b) → clears_line answer a ≡ clears_line answer b
unfolding clears_line
same_clears zero a b h = refl
same_clears (suc i) a b h = ap (clears_line (suc i)) (h (omega arith))

same_totals : (answer a b c d : ℕ) → (0 < answer → a ≡ b) → (0 < answer → c ≡ d) → totals_line answer a c ≡ totals_line answer b d
unfolding totals_line
same_totals zero a b c d h g = refl
same_totals (suc i) a b c d h g = ap₂ (totals_line (suc i)) (h (omega arith)) (g (omega arith))

-- the price of the plan's index is the one that is read again
pub price_read : (bytes : List ℕ) (p : Plan) → read (lines bytes) ≡ accepted p → 0 < price_answer (auction p)
    → price_of (price_answer (auction p)) (past (p.n + 2) bytes) ≡ get_or p.prices (price_answer (auction p) - 1) 0
price_read bytes p e h =
    let m = price_answer (auction p) in
    let w = price_within (demand (auction p)) (supply (auction p)) p.k in
    let k = clearing_within (demand (auction p)) (supply (auction p)) p.k in
    sym (ap (λ (v : List ℕ). get_or v (m - 1) 0) (accepted_plan bytes p e).prices ∙ number_at p.k (m - 1) (past (p.n + 2) bytes) (omega (arith, w, k)))

course_listing : (bytes : List ℕ) (p : Plan) → read (lines bytes) ≡ accepted p → (c : Course) → Follows (auction p) c
    → course_lines (course_trail c.trail c.probes) c.answer (price_of c.answer (drop (shape_of bytes p).prices_at bytes))
    c.demand c.supply ≡ listing bytes
unfolding printed
course_listing bytes p e c F =
    let m = price_answer (auction p) in
    let bs = past (p.n + 2) bytes in
    let same : course_lines (course_trail c.trail c.probes) c.answer (price_of c.answer bs) c.demand c.supply ≡ plan_lines p =
    ap₂ (λ (t : List (ℕ × ℕ)) (j : ℕ). course_lines t j (price_of j bs) c.demand c.supply) F.noted F.clears
    ∙ ap₂ (λ (l t : List ℕ). probe_lines 1 (plan_trail p) ++ (l ++ (t ++ rounds_line (rounds_of (length (plan_trail p)) m))))
    (same_clears m (price_of m bs) (get_or p.prices (m - 1) 0) (price_read bytes p e))
    (same_totals m c.demand (demand (auction p) m) c.supply (supply (auction p) m) F.total_demand F.total_supply) in
    same ∙ sym (ap printed e)

-- the rounds that are printed are those of the auction's runs
pub rounds_printed : (p : Plan) → rounds_of (length (plan_trail p)) (price_answer (auction p)) ≡ rounds (auction p)
unfolding rounds_of
rounds_printed p = ap (λ (m : ℕ). 33 * m + total_rounds (auction p)) (length-map (probed (auction p)) _)

-- what holds of the auction that is run holds of the plan's
pub plan_auction : (bytes : List ℕ) (p : Plan) (P : Auction → Type 0) → read (lines bytes) ≡ accepted p → (shape : Shape) → shape ≡ shape_of bytes p
    → P (auction_of shape.n shape.k shape.bids (drop shape.bids_at bytes)) → P (auction p)
plan_auction bytes p P e shape s h =
    subst (λ (ts : List (List ℕ)). P (rehearsed p.n p.k (numbered 1 ts))) (sym (accepted_plan bytes p e).bids)
    (subst (λ (t : Shape). P (auction_of t.n t.k t.bids (drop t.bids_at bytes))) s h)

pub right_listing : (bytes : List ℕ) (shape : Shape) (c : Course) → judged_as bytes ≡ Ok shape
    → Follows (auction_of shape.n shape.k shape.bids (drop shape.bids_at bytes)) c
    → course_lines (course_trail c.trail c.probes) c.answer (price_of c.answer (drop shape.prices_at bytes))
    c.demand c.supply ≡ listing bytes
right_listing bytes shape c e F =
    let j = judged_good bytes (read (lines bytes)) shape e in
    let p = j.0 in
    let probes = course_trail c.trail c.probes in
    ap (λ (s : Shape). course_lines probes c.answer (price_of c.answer (drop s.prices_at bytes)) c.demand c.supply) j.2
    ∙ course_listing bytes p j.1 c (plan_auction bytes p (λ a. Follows a c) j.1 shape j.2 F)
