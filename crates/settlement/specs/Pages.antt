-- What is promised of pages. Assumes nothing.
use Rattle.std.specs.Prelude.{◌≡◌, true, not, List, [], ◌∷◌, ◌++◌, ℕ, ◌≤◌, ◌<◌, eqb, length, take, Ok}
use Rattle.ranges.specs.Lists.{every}
use Rattle.decimal.specs.Decimal.{decimal}
use Rattle.settlement_page.specs.Page.{hours_shown, pence_due, bidder, layout, entries_size, in_range, all_in_range}
use Rattle.settlement.specs.Write.{write_judgement, write_left}
use Rattle.settlement.specs.Read.{read_judgement, read_left}

-- entries that can be laid out
pub record Entries (entries : List ℕ) : Type 0 where
  pub size : length entries ≡ entries_size
  pub ranges : all_in_range entries ≡ true

-- ---- "lines of exactly 60 bytes before the newline"

-- lines of 60 bytes, each ended by the only newline in it
pub data Rows : List ℕ → Type 0 where
  none : Rows []
  more : (row rest : List ℕ) → length row ≡ 60 → every (λ b. not (eqb b 10)) row ≡ true → Rows rest → Rows (row ++ (10 ∷ rest))

-- no number is longer than its columns
pub record Fit (price pair wanted got : ℕ) : Type 0 where
  pub bidder_number : length (decimal (bidder pair)) ≤ 4
  pub hours_wanted : length (hours_shown wanted) ≤ 12
  pub hours_got : length (hours_shown got) ≤ 12
  pub pence : length (pence_due price got) ≤ 26

-- ---- all that is promised at a price

pub record Pages (price : ℕ) : Type 0 where
  pub fit : (pair wanted got : ℕ) → pair < 2000 → in_range wanted got ≡ true → Fit price pair wanted got
  pub sixty_bytes : (entries : List ℕ) → Entries entries → Rows (layout price entries)
  -- "Reading a page at the same price gives the same entries back": a page of any length that was written, cut where the lines end
  pub read_back : (entries page lent : List ℕ) → write_judgement price entries page ≡ Ok tt → length lent ≡ entries_size
      → let written = take (length (layout price entries)) (write_left price entries page) in
      (read_judgement price written lent ≡ Ok tt) × (read_left price written lent ≡ entries)
  -- a page is accepted exactly when some entries lay out to it
  pub accepted : (page lent : List ℕ) → read_judgement price page lent ≡ Ok tt
      → Entries (read_left price page lent) × (layout price (read_left price page lent) ≡ page)
  pub laid_out : (entries lent : List ℕ) → Entries entries → length lent ≡ entries_size → read_judgement price (layout price entries) lent ≡ Ok tt
  -- and these are the only ones
  pub unique : (a b : List ℕ) → Entries a → Entries b → layout price a ≡ layout price b → a ≡ b
