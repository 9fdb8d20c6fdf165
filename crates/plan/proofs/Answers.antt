-- What reading the lines comes to, by what is found in the bytes: each answer of the judging functions. Assumes nothing.
use Rattle.std.specs.Prelude.{Option, None, Some}
use mathlib.Core.Path.{◌≡◌, sym, ap, ◌∙◌}
use mathlib.Core.Bool.{Bool, true, false, ◌&&◌}
use mathlib.Core.List.{List}
use Prim.Native.Nat.{ℕ, ◌+◌, ◌*◌, ◌≤◌, ◌<◌}
use lib.Dec.{leb}
use lib.ListN.{length}
use borrow.Author.Tests.{le-leb, lt-leb}
use Rattle.refusal.specs.declared.Refusal.{Refusal}
use Rattle.refusal.specs.declared.Refusal.TheVariants.{OutOfRange, TooManyBids, Malformed}
use Rattle.sections.specs.declared.table.Fault.{Fault}
use Rattle.lines.specs.Lines.{Line, lines, first_line, rest, numbers, formed, past}
use Rattle.plan.specs.Plan.{Reading, faulty, accepted, check, many, prices, bids, or_fault, ending, read, read_prices, read_bids}
use Rattle.sections.specs.Sections.{tables, good_prices, bids_fault}
use Rattle.lines.proofs.Again.{past_one, after_add}
use Rattle.plan.proofs.Sections.{needed_number, needed_misshapen, many_all, many_torn, prices_all, prices_bad, ending_none, ending_extra}
use Rattle.plan.proofs.Bids.{all_bids}

passes : (t : Bool) (why : Refusal) (line : ℕ) (go : Reading) → t ≡ true → check t why line go ≡ go
passes t why line go e = ap (λ (s : Bool). check s why line go) e

fails : (t : Bool) (why : Refusal) (line : ℕ) (go : Reading) → t ≡ false → check t why line go ≡ faulty why line
fails t why line go e = ap (λ (s : Bool). check s why line go) e

-- ---- where the next line begins

pub rest_after : (m : ℕ) (bytes : List ℕ) → rest (past m bytes) ≡ past (m + 1) bytes
rest_after m bytes = sym (past_one (past m bytes)) ∙ after_add m 1 bytes

-- ---- n and the seeds

module _ (bytes : List ℕ) where
  pub n_misshapen : first_line bytes ≡ None → read (lines bytes) ≡ faulty Malformed 1
  unfolding read
  n_misshapen e = needed_misshapen 1 (λ n ls. check (leb 3 n && leb n 9) OutOfRange 1 (many n 2 ls (λ seeds ls. read_prices n seeds ls))) bytes e

  module _ (n : ℕ) (e : first_line bytes ≡ Some n) where
    n-number : read (lines bytes) ≡ check (leb 3 n && leb n 9) OutOfRange 1 (many n 2 (lines (rest bytes)) (λ seeds ls. read_prices n seeds ls))
    unfolding read
    n-number = needed_number 1 (λ n ls. check (leb 3 n && leb n 9) OutOfRange 1 (many n 2 ls (λ seeds ls. read_prices n seeds ls))) bytes n e

    pub n_range : (leb 3 n && leb n 9) ≡ false → read (lines bytes) ≡ faulty OutOfRange 1
    n_range t = n-number ∙ fails (leb 3 n && leb n 9) OutOfRange 1 _ t

    module _ (t : (leb 3 n && leb n 9) ≡ true) where
      pub seeds_torn : formed n (rest bytes) < n → read (lines bytes) ≡ faulty Malformed (2 + formed n (rest bytes))
      seeds_torn h = n-number ∙ passes (leb 3 n && leb n 9) OutOfRange 1 _ t ∙ many_torn n 2 (rest bytes) (λ seeds ls. read_prices n seeds ls) h

      pub seeds_all : formed n (rest bytes) ≡ n
          → read (lines bytes) ≡ read_prices n (numbers n (rest bytes)) (lines (past n (rest bytes)))
      seeds_all h = n-number ∙ passes (leb 3 n && leb n 9) OutOfRange 1 _ t ∙ many_all n 2 (rest bytes) (λ seeds ls. read_prices n seeds ls) h

-- ---- k and the prices

module _ (n : ℕ) (seeds bytes : List ℕ) where
  pub k_misshapen : first_line bytes ≡ None → read_prices n seeds (lines bytes) ≡ faulty Malformed (n + 2)
  unfolding read_prices
  k_misshapen e =
      needed_misshapen (n + 2) (λ k ls. check (leb 1 k && leb k 256) OutOfRange (n + 2) (prices k 0 (n + 3) ls (λ ps ls. read_bids n seeds k ps ls))) bytes e

  module _ (k : ℕ) (e : first_line bytes ≡ Some k) where
    k-number : read_prices n seeds (lines bytes)
        ≡ check (leb 1 k && leb k 256) OutOfRange (n + 2) (prices k 0 (n + 3) (lines (rest bytes)) (λ ps ls. read_bids n seeds k ps ls))
    unfolding read_prices
    k-number =
        needed_number (n + 2) (λ k ls. check (leb 1 k && leb k 256) OutOfRange (n + 2) (prices k 0 (n + 3) ls (λ ps ls. read_bids n seeds k ps ls))) bytes k e

    pub k_range : (leb 1 k && leb k 256) ≡ false → read_prices n seeds (lines bytes) ≡ faulty OutOfRange (n + 2)
    k_range t = k-number ∙ fails (leb 1 k && leb k 256) OutOfRange (n + 2) _ t

    module _ (t : (leb 1 k && leb k 256) ≡ true) where
      pub price_bad : good_prices k 0 (rest bytes) < k → read_prices n seeds (lines bytes) ≡ faulty Malformed (n + 3 + good_prices k 0 (rest bytes))
      price_bad h = k-number ∙ passes (leb 1 k && leb k 256) OutOfRange (n + 2) _ t ∙ prices_bad k 0 (n + 3) (rest bytes) (λ ps ls. read_bids n seeds k ps ls) h

      pub prices_good : good_prices k 0 (rest bytes) ≡ k
          → read_prices n seeds (lines bytes) ≡ read_bids n seeds k (numbers k (rest bytes)) (lines (past k (rest bytes)))
      prices_good h = k-number ∙ passes (leb 1 k && leb k 256) OutOfRange (n + 2) _ t ∙ prices_all k 0 (n + 3) (rest bytes) (λ ps ls. read_bids n seeds k ps ls) h

-- ---- the bids and the end

module _ (n : ℕ) (seeds : List ℕ) (k : ℕ) (listed bytes : List ℕ) where
  End : ℕ → List (List ℕ) → List Line → Reading
  End m ts ls = ending (n + k + 4 + m * (2 * k)) ls (accepted (record { n = n; seeds = seeds; k = k; prices = listed; bids = ts }))

  pub m_misshapen : first_line bytes ≡ None → read_bids n seeds k listed (lines bytes) ≡ faulty Malformed (n + k + 3)
  unfolding read_bids End
  m_misshapen e =
      needed_misshapen (n + k + 3) (λ m ls. check (leb m 1000) TooManyBids (n + k + 3) (bids k m (n + k + 4) ls (λ ts ls. End m ts ls))) bytes e

  module _ (m : ℕ) (e : first_line bytes ≡ Some m) where
    m-number : read_bids n seeds k listed (lines bytes)
        ≡ check (leb m 1000) TooManyBids (n + k + 3) (bids k m (n + k + 4) (lines (rest bytes)) (λ ts ls. End m ts ls))
    unfolding read_bids End
    m-number =
        needed_number (n + k + 3) (λ m ls. check (leb m 1000) TooManyBids (n + k + 3) (bids k m (n + k + 4) ls (λ ts ls. End m ts ls))) bytes m e

    pub m_range : 1000 < m → read_bids n seeds k listed (lines bytes) ≡ faulty TooManyBids (n + k + 3)
    m_range h = m-number ∙ fails (leb m 1000) TooManyBids (n + k + 3) _ (lt-leb m 1000 h)

    module _ (few : m ≤ 1000) where
      m-go : read_bids n seeds k listed (lines bytes)
          ≡ or_fault (bids_fault k m (n + k + 4) (rest bytes)) (End m (tables k m (rest bytes)) (lines (past (m * (2 * k)) (rest bytes))))
      m-go = m-number ∙ passes (leb m 1000) TooManyBids (n + k + 3) _ (le-leb m 1000 few) ∙ all_bids k m (n + k + 4) (rest bytes) (λ ts ls. End m ts ls)

      pub bids_bad : (fault : Fault) → bids_fault k m (n + k + 4) (rest bytes) ≡ Some fault
          → read_bids n seeds k listed (lines bytes) ≡ faulty fault.refusal fault.line
      unfolding or_fault
      bids_bad fault f = m-go ∙ ap (λ (g : Option Fault). or_fault g (End m (tables k m (rest bytes)) (lines (past (m * (2 * k)) (rest bytes))))) f

      module _ (f : bids_fault k m (n + k + 4) (rest bytes) ≡ None) where
        m-end : read_bids n seeds k listed (lines bytes) ≡ End m (tables k m (rest bytes)) (lines (past (m * (2 * k)) (rest bytes)))
        unfolding or_fault
        m-end = m-go ∙ ap (λ (g : Option Fault). or_fault g (End m (tables k m (rest bytes)) (lines (past (m * (2 * k)) (rest bytes))))) f

        pub one_too_many : 0 < length (past (m * (2 * k)) (rest bytes))
            → read_bids n seeds k listed (lines bytes) ≡ faulty Malformed (n + k + 4 + m * (2 * k))
        unfolding End
        one_too_many h = m-end ∙ ending_extra (n + k + 4 + m * (2 * k)) _ (past (m * (2 * k)) (rest bytes)) h

        pub all_read : length (past (m * (2 * k)) (rest bytes)) ≡ 0
            → read_bids n seeds k listed (lines bytes)
            ≡ accepted (record { n = n; seeds = seeds; k = k; prices = listed; bids = tables k m (rest bytes) })
        unfolding End
        all_read h = m-end ∙ ending_none (n + k + 4 + m * (2 * k)) _ (past (m * (2 * k)) (rest bytes)) h
