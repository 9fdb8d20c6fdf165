-- What is written of an input is its settlement: a fault, no price, or the page of its auction. Assumes nothing.
use Rattle.std.proofs.Common.{Result, Ok, Err}
use Rattle.refusal.specs.declared.Refusal.{Refusal}
use Rattle.refusal.specs.Refusal.{number_of}
use Rattle.sections.specs.declared.table.Fault.{Fault}
use mathlib.Core.Path.{◌≡◌, refl, sym, ap, ap₂, ◌∙◌}
use mathlib.Core.List.{List, [], ◌∷◌, ◌++◌}
use Prim.Native.Nat.{ℕ, suc, ◌-◌, ◌+◌, ◌*◌, ◌≤◌, ◌<◌}
use native.Mathlib.Omega.{arith}
use lib.ListN.{length, take, drop, get_or, replicate, length-append, length-replicate}
use borrow.Author.Tests.{eq-eqb, ne_eqb}
use Rattle.search.proofs.Clearing.{clearing_within}
use Rattle.search.proofs.Balance.{price_within}
use Rattle.comparison.specs.Probe.{Each}
use Rattle.record.specs.declared.Party.{Party}
use Rattle.filling.specs.declared.Hours.{Hours}
use Rattle.filling.specs.Fill.{hours, filled_hours}
use Rattle.filling.proofs.Sums.{one_fill}
use Rattle.settlement_page.specs.Page.{layout, entries_size}
use Rattle.settlement.specs.Write.{write_judgement}
use Rattle.auction.specs.Auction.{GoodTable, IsAuction, demand, supply, price_answer}
use Rattle.auction.specs.Demands.{FleetTold}
use Rattle.auction.proofs.Totals.{few_bids}
use Rattle.auction.proofs.Hours.{price_covered}
use Rattle.lines.specs.Lines.{lines, past, price_of}
use Rattle.sections.specs.Sections.{tables}
use Rattle.standing.specs.Numbered.{numbered}
use Rattle.standing.proofs.Holding.{length_numbered}
use Rattle.standing.proofs.Standing.{auction_of}
use Rattle.plan.specs.declared.judging.Shape.{Shape}
use Rattle.plan.specs.Plan.{Plan, accepted, read}
use Rattle.plan.specs.Judged.{shape_of, judged_as}
use Rattle.plan.proofs.Cut.{cut_read}
use Rattle.listing.specs.declared.course.Course.{Course}
use Rattle.listing.specs.Lines.{refused_line, no_price_line}
use Rattle.entering.specs.Entries.{entries, hours_told}
use Rattle.probing.specs.Follows.{Follows}
use Rattle.running.proofs.Accepted as input
use Rattle.rehearsal.specs.Listing.{auction}
use Rattle.rehearsal.proofs.Listed.{price_read, plan_auction}
use Rattle.settling.specs.Settlement.{plan_entries, settled, settlement}
use Rattle.settling.proofs.Page.{length_entries, same_entries, entries_in_range, not_refused}

-- a fault is what is printed
pub settled_faulty : (bytes : List ℕ) (fault : Fault) → judged_as bytes ≡ Err fault
    → settlement bytes ≡ refused_line (number_of fault.refusal) fault.line
unfolding settled
settled_faulty bytes fault e = ap settled (input.judged_bad bytes (read (lines bytes)) fault e)

-- the end of a long input does not matter
pub cut_settlement : (room : ℕ) (bytes : List ℕ) → 4_194_304 ≤ room → settlement (take room bytes) ≡ settlement bytes
cut_settlement room bytes h = ap settled (cut_read room bytes h)

-- what is known once the auction is run: the index that clears, and a record that fleets ask with
pub record Settles (bytes : List ℕ) (shape : Shape) (index : ℕ) (q : Party) : Type 0 where
  pub few_prices : shape.k ≤ 256
  pub few_bids : shape.bids ≤ 1000
  pub within : index ≤ shape.k
  pub no_price : index ≡ 0 → settlement bytes ≡ no_price_line
  pub page : 0 < index → (price : ℕ) (es out : List ℕ) → price ≡ price_of index (drop shape.prices_at bytes)
      → es ≡ entries (hours_told q) shape.k index (tables shape.k shape.bids (drop shape.bids_at bytes)) ++ replicate (entries_size - 4 * shape.bids) 0
      → length out ≡ 122000 → (write_judgement price es out ≡ Ok tt) × (layout price es ≡ settlement bytes)

good_tables : (k b : ℕ) (ts : List (List ℕ)) → Each (λ x. GoodTable k x.table) (numbered b ts) → Each (GoodTable k) ts
unfolding numbered
good_tables k b [] G = tt
good_tables k b (t ∷ ts) G = (G.0, good_tables k (suc b) ts G.1)

module _ (bytes : List ℕ) (p : Plan) (e : read (lines bytes) ≡ accepted p) where
  abbrev m : ℕ
  m = price_answer (auction p)

  abbrev D : ℕ
  D = demand (auction p) m

  abbrev S : ℕ
  S = supply (auction p) m

  plan_is : input.Accepted bytes p
  plan_is = input.accepted_plan bytes p e

  is_auction : IsAuction (auction p)
  is_auction = plan_auction bytes p IsAuction e (shape_of bytes p) refl plan_is.an_auction

  few : length p.bids ≤ 1000
  few = omega (arith, few_bids is_auction, length_numbered 1 p.bids)

  listed : m ≤ p.k
  listed =
      omega (
        arith,
        price_within (demand (auction p)) (supply (auction p)) p.k,
        clearing_within (demand (auction p)) (supply (auction p)) p.k,
      )

  good : Each (GoodTable p.k) p.bids
  good = good_tables p.k 1 p.bids is_auction.tables

  none : m ≡ 0 → settlement bytes ≡ no_price_line
  unfolding settled
  none z = ap settled e ∙ rw (eq-eqb m 0 z)

  module _ (some : 0 < m) where
    abbrev price : ℕ
    price = get_or p.prices (m - 1) 0

    settled_page : settlement bytes ≡ layout price (plan_entries p m)
    unfolding settled
    settled_page = ap settled e ∙ rw (ne_eqb m 0 (λ z. omega arith))

    accepted_page : (out : List ℕ) → length out ≡ 122000 → write_judgement price (plan_entries p m) out ≡ Ok tt
    accepted_page out room =
        let told = entries (hours D S) p.k m p.bids in
        let zeros = replicate {A = ℕ} (entries_size - 4 * length p.bids) 0 in
        let range = plan_is.priced (m - 1) (omega (arith, listed)) in
        not_refused price (plan_entries p m) out range.0 range.1
        (omega (
          arith,
          few,
          length-append told zeros,
          length_entries p.k m (hours D S) p.bids,
          length-replicate {A = ℕ} (entries_size - 4 * length p.bids) 0,
        ))
        (entries_in_range p.k m (hours D S) (λ a. (one_fill D S a).within (price_covered is_auction some)) p.bids good (entries_size - 4 * length p.bids)) room

    told_entries : (q : Party) → FleetTold (auction p) q
        → entries (hours_told q) p.k m (tables p.k (length p.bids) (past (p.n + p.k + 3) bytes)) ≡ entries (hours D S) p.k m p.bids
    told_entries q T =
        ap (entries (hours_told q) p.k m) (sym plan_is.bids)
        ∙ same_entries p.k m (hours_told q) (hours D S) (λ a h. ap (λ (f : Result Hours Refusal). filled_hours f 0) (T.filled some a h)) p.bids good

  plan_settles : (q : Party) → FleetTold (auction p) q → Settles bytes (shape_of bytes p) m q
  plan_settles q T =
      record {
        few_prices = plan_is.few_prices;
        few_bids = few;
        within = listed;
        no_price = none;
        page = λ some price es out ep ee room.
            let same = ee ∙ ap (λ (l : List ℕ). l ++ replicate (entries_size - 4 * length p.bids) 0) (told_entries some q T) in
            let at = ep ∙ price_read bytes p e some in (
              ap₂ (λ (x : ℕ) (l : List ℕ). write_judgement x l out) at same ∙ accepted_page some out room,
              ap₂ layout at same ∙ sym (settled_page some),
            );
      }

pub settles : (bytes : List ℕ) (shape : Shape) (c : Course) (q : Party) → judged_as bytes ≡ Ok shape
    → Follows (auction_of shape.n shape.k shape.bids (drop shape.bids_at bytes)) c
    → FleetTold (auction_of shape.n shape.k shape.bids (drop shape.bids_at bytes)) q → Settles bytes shape c.answer q
settles bytes shape c q e F T =
    let j = input.judged_good bytes (read (lines bytes)) shape e in
    let p = j.0 in
    let follows = plan_auction bytes p (λ a. Follows a c) j.1 shape j.2 F in
    let told = plan_auction bytes p (λ a. FleetTold a q) j.1 shape j.2 T in
    rw (j.2, follows.clears) (plan_settles bytes p j.1 q told)
