-- What holds of an accepted input: its plan is an auction, and the sections read again are the plan's. Assumes nothing.
use mathlib.Core.Path.{◌≡◌, refl, sym, ap, ap₂, subst, ◌∙◌}
use mathlib.Core.Bool.{◌&&◌}
use mathlib.Core.Logic.{◌⊎◌, inl, inr, ⊎_elim}
use mathlib.Core.List.{List}
use Prim.Native.Nat.{ℕ, zero, suc, ◌+◌, ◌*◌, ◌≤◌, ◌<◌}
use native.Mathlib.Nat.{mul-le-mul_right}
use native.Mathlib.Omega.{arith}
use lib.Dec.{leb, eqb}
use lib.ListN.{length, drop, get_or}
use borrow.Author.Tests.{leb-true, leb-false, eqb-true, eqb-false}
use Rattle.ranges.proofs.Loops.{and_left, and_right}
use Rattle.ways.specs.Way.{is_way}
use Rattle.search.specs.Limit.{most_probes}
use Rattle.auction.specs.Auction.{bidders, GoodTable, IsAuction}
use Rattle.auction.proofs.Totals.{few_bids}
use Rattle.comparison.specs.Probe.{Each}
use Rattle.ranges.specs.Lists.{from}
use Rattle.ranges.specs.Sizes.{highest_price}
use Rattle.ranges.proofs.Distinct.{distinct_from}
use Rattle.standing.specs.Numbered.{numbered}
use Rattle.standing.proofs.Holding.{length_numbered, numbered_bidders}
use Rattle.std.proofs.Common.{Option, None, Some, Result, Ok, Err}
use Rattle.refusal.specs.declared.Refusal.{Refusal}
use Rattle.sections.specs.declared.table.Fault.{Fault}
use Rattle.plan.specs.declared.judging.Shape.{Shape}
use Rattle.lines.specs.Lines.{lines, rest, numbers, formed, past}
use Rattle.plan.specs.Plan.{Plan, Reading, faulty, accepted, read, read_prices, read_bids}
use Rattle.plan.specs.Judged.{shape_of, as_judged, judged_as, seeds_of, prices_of}
use Rattle.sections.specs.Sections.{good_prices, tables, bid_fault, bids_fault, or_else}
use Rattle.standing.proofs.Standing.{auction_of}
use Rattle.panel.proofs.Parts.{sheets_eighteen}
use Rattle.lines.proofs.Again.{past_one, after_add, formed_most, length_numbers}
use Rattle.plan.proofs.Sections.{line_of}
use Rattle.sections.proofs.Counts.{good_most, good_range}
use Rattle.lines.proofs.Reading.{either}
use Rattle.sections.proofs.Bids.{torn, whole, length_tables}
use Rattle.sections.proofs.Tables.{faultless}
use Rattle.plan.proofs.Answers.{rest_after, n_misshapen, n_range, seeds_torn, seeds_all, k_misshapen, k_range, price_bad, prices_good, m_misshapen, m_range, bids_bad, one_too_many, all_read}

-- ---- reading that ends well did so section by section

refuses : {r : Reading} {why : Refusal} {line : ℕ} {p : Plan} → r ≡ faulty why line → r ≡ accepted p → ⊥
refuses e f = let z : ◌≡◌ {A = ℕ} 0 1 = cc in omega arith

same_or_less : (a b : ℕ) → a ≤ b → (a ≡ b) ⊎ (a < b)
same_or_less a b h = ⊎_elim (λ e. inl (eqb-true a b e)) (λ e. inr (omega (arith, eqb-false a b e))) (either (eqb a b))

record N (bytes : List ℕ) (p : Plan) : Type 0 where
  n : ℕ
  least : 3 ≤ n
  most : n ≤ 9
  next : read_prices n (numbers n (rest bytes)) (lines (past n (rest bytes))) ≡ accepted p

n_read : (bytes : List ℕ) (p : Plan) → read (lines bytes) ≡ accepted p → N bytes p
n_read bytes p e =
    ⊎_elim
    (λ w. ⊎_elim
    (λ t. ⊎_elim
    (λ h. record {
      n = w.0;
      least = leb-true 3 w.0 (and_left (leb 3 w.0) (leb w.0 9) t);
      most = leb-true w.0 9 (and_right (leb 3 w.0) (leb w.0 9) t);
      next = sym (seeds_all bytes w.0 w.1 t h) ∙ e;
    })
    (λ h. absurd (refuses (seeds_torn bytes w.0 w.1 t h) e))
    (same_or_less (formed w.0 (rest bytes)) w.0 (formed_most w.0 (rest bytes))))
    (λ t. absurd (refuses (n_range bytes w.0 w.1 t) e))
    (either (leb 3 w.0 && leb w.0 9)))
    (λ m. absurd (refuses (n_misshapen bytes m) e))
    (line_of bytes)

record K (n : ℕ) (seeds bytes : List ℕ) (p : Plan) : Type 0 where
  k : ℕ
  least : 1 ≤ k
  most : k ≤ 256
  priced : good_prices k 0 (rest bytes) ≡ k
  next : read_bids n seeds k (numbers k (rest bytes)) (lines (past k (rest bytes))) ≡ accepted p

k_read : (n : ℕ) (seeds bytes : List ℕ) (p : Plan) → read_prices n seeds (lines bytes) ≡ accepted p → K n seeds bytes p
k_read n seeds bytes p e =
    ⊎_elim
    (λ w. ⊎_elim
    (λ t. ⊎_elim
    (λ h. record {
      k = w.0;
      least = leb-true 1 w.0 (and_left (leb 1 w.0) (leb w.0 256) t);
      most = leb-true w.0 256 (and_right (leb 1 w.0) (leb w.0 256) t);
      priced = h;
      next = sym (prices_good n seeds bytes w.0 w.1 t h) ∙ e;
    })
    (λ h. absurd (refuses (price_bad n seeds bytes w.0 w.1 t h) e))
    (same_or_less (good_prices w.0 0 (rest bytes)) w.0 (good_most w.0 0 (rest bytes))))
    (λ t. absurd (refuses (k_range n seeds bytes w.0 w.1 t) e))
    (either (leb 1 w.0 && leb w.0 256)))
    (λ m. absurd (refuses (k_misshapen n seeds bytes m) e))
    (line_of bytes)

record M (n : ℕ) (seeds : List ℕ) (k : ℕ) (listed bytes : List ℕ) (p : Plan) : Type 0 where
  m : ℕ
  few : m ≤ 1000
  sound_bids : bids_fault k m (n + k + 4) (rest bytes) ≡ None
  plan : p ≡ record { n = n; seeds = seeds; k = k; prices = listed; bids = tables k m (rest bytes) }

fault_of : (f : Option Fault) → (f ≡ None) ⊎ ((fault : Fault) × (f ≡ Some fault))
fault_of None = inl refl
fault_of (Some fault) = inr (fault, refl)

same_plan : {p q : Plan} → accepted p ≡ accepted q → q ≡ p
same_plan e = cc

m_read : (n : ℕ) (seeds : List ℕ) (k : ℕ) (listed bytes : List ℕ) (p : Plan) → read_bids n seeds k listed (lines bytes) ≡ accepted p
    → M n seeds k listed bytes p
m_read n seeds k listed bytes p e =
    ⊎_elim
    (λ w. let m = w.0 in
    ⊎_elim
    (λ t. let few = leb-true m 1000 t in
    ⊎_elim
    (λ f. ⊎_elim
    (λ z. record {
      m = m;
      few = few;
      sound_bids = f;
      plan = same_plan (sym (all_read n seeds k listed bytes m w.1 few f (sym z)) ∙ e);
    })
    (λ z. absurd (refuses (one_too_many n seeds k listed bytes m w.1 few f z) e))
    (same_or_less 0 (length (past (m * (2 * k)) (rest bytes))) (omega arith)))
    (λ f. absurd (refuses (bids_bad n seeds k listed bytes m w.1 few f.0 f.1) e))
    (fault_of (bids_fault k m (n + k + 4) (rest bytes))))
    (λ t. absurd (refuses (m_range n seeds k listed bytes m w.1 (leb-false m 1000 t)) e))
    (either (leb m 1000)))
    (λ m. absurd (refuses (m_misshapen n seeds k listed bytes m) e))
    (line_of bytes)

-- ---- tables without a fault are good

both_none : (f g : Option Fault) → or_else f g ≡ None → (f ≡ None) × (g ≡ None)
unfolding or_else
both_none None g e = (refl, e)
both_none (Some fault) g e = absurd (let z : ◌≡◌ {A = ℕ} 0 1 = cc in omega arith)

faulted : {f : Fault} → ◌≡◌ {A = Option Fault} (Some f) None → ⊥
faulted e = let z : ◌≡◌ {A = ℕ} 0 1 = cc in omega arith

good_table : (k line : ℕ) (bytes : List ℕ) → bid_fault k line bytes ≡ None → GoodTable k (numbers (2 * k) bytes)
good_table k line bytes e =
    ⊎_elim
    (λ h. let f = faultless k line (numbers (2 * k) bytes) (sym (whole k line bytes h) ∙ e) in
    record { long = length_numbers (2 * k) bytes; small = f.0; monotone = f.1 })
    (λ h. absurd (faulted (sym (torn k line bytes h) ∙ e)))
    (same_or_less (formed (2 * k) bytes) (2 * k) (formed_most (2 * k) bytes))

-- and the bids have bidders of their own
good_bids : (k m line b : ℕ) (bytes : List ℕ) → bids_fault k m line bytes ≡ None → Each (λ x. GoodTable k x.table) (numbered b (tables k m bytes))
unfolding bids_fault tables numbered
good_bids k zero line b bytes e = tt
good_bids k (suc m) line b bytes e =
    let g = both_none (bid_fault k line bytes) (bids_fault k m (line + 2 * k) (past (2 * k) bytes)) e in
    (good_table k line bytes g.0, good_bids k m (line + 2 * k) (suc b) (past (2 * k) bytes) g.1)

good_auction : (n k m line : ℕ) (bytes : List ℕ) → 3 ≤ n → n ≤ 9 → 1 ≤ k → k ≤ 256 → m ≤ 1000 → bids_fault k m line bytes ≡ None
    → IsAuction (auction_of n k m bytes)
unfolding is_way
good_auction n k m line bytes a b c d f e =
    let bs : bidders (auction_of n k m bytes) ≡ from 1 m = numbered_bidders 1 (tables k m bytes) ∙ ap (from 1) (length_tables k m bytes) in
    record {
      n_least = a;
      n_most = b;
      k_least = c;
      k_most = omega arith;
      way = refl;
      bidders = rw bs (distinct_from 1000 1 m (omega arith) (omega arith));
      tables = good_bids k m line 1 bytes e;
    }

-- ---- an accepted plan

pub record Accepted (bytes : List ℕ) (p : Plan) : Type 0 where
  -- "tables free of faults 6 and 7", and every count in its range
  pub an_auction : IsAuction (auction_of p.n p.k (length p.bids) (past (p.n + p.k + 3) bytes))
  pub few_prices : p.k ≤ 256
  -- the sections, read again
  pub seeds : p.seeds ≡ seeds_of p.n bytes
  pub prices : p.prices ≡ prices_of p.n p.k bytes
  -- "1 to 1,000,000 pence"
  pub priced : (i : ℕ) → i < p.k → (0 < get_or p.prices i 0) × (get_or p.prices i 0 ≤ highest_price)
  pub bids : p.bids ≡ tables p.k (length p.bids) (past (p.n + p.k + 3) bytes)

pub accepted_plan : (bytes : List ℕ) (p : Plan) → read (lines bytes) ≡ accepted p → Accepted bytes p
accepted_plan bytes p e =
    let a = n_read bytes p e in
    let n = a.n in
    let b2 = past n (rest bytes) in
    let b = k_read n (numbers n (rest bytes)) b2 p a.next in
    let k = b.k in
    let b3 = past k (rest b2) in
    let c = m_read n (numbers n (rest bytes)) k (numbers k (rest b2)) b3 p b.next in
    let m = c.m in
    let e2 : b2 ≡ past (1 + n) bytes = ap (past n) (sym (past_one bytes)) ∙ after_add 1 n bytes in
    let e3 : rest b2 ≡ past (1 + n + 1) bytes = ap rest e2 ∙ rest_after (1 + n) bytes in
    let e4 : b3 ≡ past (1 + n + 1 + k) bytes = ap (past k) e3 ∙ after_add (1 + n + 1) k bytes in
    let e5 : rest b3 ≡ past (1 + n + 1 + k + 1) bytes = ap rest e4 ∙ rest_after (1 + n + 1 + k) bytes in
    let i2 : 1 + n + 1 ≡ n + 2 = omega arith in
    let i3 : 1 + n + 1 + k + 1 ≡ n + k + 3 = omega arith in
    let e6 : rest b3 ≡ past (n + k + 3) bytes = e5 ∙ ap (λ (j : ℕ). past j bytes) i3 in
    let l : m ≡ length (tables k m (rest b3)) = sym (length_tables k m (rest b3)) in
    subst (Accepted bytes) (sym c.plan) (record {
      an_auction =
          subst IsAuction (ap₂ (auction_of n k) l e6) (good_auction n k m (n + k + 4) (rest b3) a.least a.most b.least b.most c.few c.sound_bids);
      few_prices = b.most;
      seeds = ap (numbers n) (sym (past_one bytes));
      prices = ap (numbers k) (e3 ∙ ap (λ (j : ℕ). past j bytes) i2);
      priced = good_range k 0 (rest b2) b.priced;
      bids = ap₂ (tables k) l e6;
    })

-- ---- what `judge` found

-- a fault is the reading's
pub judged_bad : (bytes : List ℕ) (r : Reading) (fault : Fault) → as_judged bytes r ≡ Err fault → r ≡ faulty fault.refusal fault.line
unfolding as_judged
judged_bad bytes (faulty why line) fault e = ap₂ faulty (ap (λ (f : Fault). f.refusal) (same e)) (ap (λ (f : Fault). f.line) (same e))
  where
    same : {a b : Fault} → ◌≡◌ {A = Result Shape Fault} (Err a) (Err b) → a ≡ b
    same e = cc
judged_bad bytes (accepted p) fault e = absurd (let z : ◌≡◌ {A = ℕ} 0 1 = cc in omega arith)

-- a good answer is the shape of an accepted plan
pub judged_good : (bytes : List ℕ) (r : Reading) (shape : Shape) → as_judged bytes r ≡ Ok shape
    → (p : Plan) × (r ≡ accepted p) × (shape ≡ shape_of bytes p)
unfolding as_judged
judged_good bytes (faulty why line) shape e = absurd (let z : ◌≡◌ {A = ℕ} 0 1 = cc in omega arith)
judged_good bytes (accepted p) shape e = (p, refl, good e)
  where
    good : {s t : Shape} → ◌≡◌ {A = Result Shape Fault} (Ok s) (Ok t) → t ≡ s
    good e = cc

-- what `run` may rely on
pub record Runs (bytes : List ℕ) (shape : Shape) : Type 0 where
  pub few_prices : shape.k ≤ 256
  pub few_bids : shape.bids ≤ 1000
  pub an_auction : IsAuction (auction_of shape.n shape.k shape.bids (drop shape.bids_at bytes))
  pub held : shape.n * (2 * shape.k) ≤ 4608
  pub lent : shape.n * (127 * most_probes shape.k) ≤ 20574

pub good_runs : (bytes : List ℕ) (shape : Shape) → judged_as bytes ≡ Ok shape → Runs bytes shape
good_runs bytes shape e =
    let j = judged_good bytes (read (lines bytes)) shape e in
    let p = j.0 in
    let A = accepted_plan bytes p j.1 in
    let many : length (numbered 1 (tables p.k (length p.bids) (past (p.n + p.k + 3) bytes))) ≡ length p.bids =
    length_numbered 1 (tables p.k (length p.bids) (past (p.n + p.k + 3) bytes)) ∙ ap length (sym A.bids) in
    let h : p.n * (2 * p.k) ≤ 9 * (2 * p.k) = mul-le-mul_right (2 * p.k) A.an_auction.n_most in
    let l : p.n * (127 * most_probes p.k) ≤ 9 * (127 * most_probes p.k) = mul-le-mul_right (127 * most_probes p.k) A.an_auction.n_most in
    subst (Runs bytes) (sym j.2)
    (record {
      few_prices = A.few_prices;
      few_bids = omega (arith, few_bids A.an_auction, many);
      an_auction = A.an_auction;
      held = omega (arith, h, A.few_prices);
      lent = omega (arith, l, sheets_eighteen p.k A.few_prices);
    })
