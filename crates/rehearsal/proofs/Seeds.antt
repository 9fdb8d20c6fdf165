-- The seeds never change the listing, of an accepted input or of a refused one. Assumes nothing.
use mathlib.Core.Path.{◌≡◌, refl, sym, ap, ◌∙◌}
use mathlib.Core.Bool.{Bool, true, false, ◌&&◌}
use mathlib.Core.List.{List, [], ◌∷◌, ◌++◌, map}
use Prim.Native.Nat.{ℕ, zero, suc, ◌+◌, ◌*◌}
use native.Mathlib.Omega.{arith}
use lib.Dec.{leb}
use lib.ListN.{length}
use Rattle.std.proofs.Common.{Option, None, Some}
use Rattle.refusal.specs.declared.Refusal.{Refusal}
use Rattle.refusal.specs.declared.Refusal.TheVariants.{OutOfRange, TooManyBids, Malformed}
use Rattle.lines.specs.Lines.{Line, lines}
use Rattle.sections.specs.declared.table.Fault.{Fault}
use Rattle.plan.specs.Plan.{Reading, check, needed, many, prices, or_fault, bids, ending, read, read_prices, read_bids}
use Rattle.sections.specs.Sections.{next_price, table_fault}
use Rattle.rehearsal.specs.Listing.{printed, listing}

-- ---- readings that are printed alike, section by section

record Alike (r s : Reading) : Type 0 where
  print : printed r ≡ printed s

check_alike : (t : Bool) (why : Refusal) (line : ℕ) {r s : Reading} → Alike r s → Alike (check t why line r) (check t why line s)
check_alike true why line h = h
check_alike false why line h = record { print = refl }

fault_alike : (f : Option Fault) {r s : Reading} → Alike r s → Alike (or_fault f r) (or_fault f s)
unfolding or_fault
fault_alike None h = h
fault_alike (Some fault) h = record { print = refl }

ending_alike : (at : ℕ) (ls : List Line) {r s : Reading} → Alike r s → Alike (ending at ls r) (ending at ls s)
unfolding ending
ending_alike at [] h = h
ending_alike at (l ∷ ls) h = record { print = refl }

needed_alike : (at : ℕ) (ls : List Line) {f g : ℕ → List Line → Reading} → ((v : ℕ) (ls : List Line) → Alike (f v ls) (g v ls))
    → Alike (needed at ls f) (needed at ls g)
unfolding needed
needed_alike at [] h = record { print = refl }
needed_alike at (None ∷ ls) h = record { print = refl }
needed_alike at (Some v ∷ ls) h = h v ls

many_alike : (m at : ℕ) (ls : List Line) {f g : List ℕ → List Line → Reading} → ((vs : List ℕ) (ls : List Line) → Alike (f vs ls) (g vs ls))
    → Alike (many m at ls f) (many m at ls g)
unfolding many
many_alike zero at ls h = h [] ls
many_alike (suc m) at ls h = needed_alike at ls (λ v ls. many_alike m (at + 1) ls (λ vs ls. h (v ∷ vs) ls))

prices_alike : (k last at : ℕ) (ls : List Line) {f g : List ℕ → List Line → Reading} → ((vs : List ℕ) (ls : List Line) → Alike (f vs ls) (g vs ls))
    → Alike (prices k last at ls f) (prices k last at ls g)
unfolding prices
prices_alike zero last at ls h = h [] ls
prices_alike (suc k) last at ls h =
    needed_alike at ls (λ v ls. check_alike (next_price last v) Malformed at (prices_alike k v (at + 1) ls (λ vs ls. h (v ∷ vs) ls)))

bids_alike : (k m at : ℕ) (ls : List Line) {f g : List (List ℕ) → List Line → Reading}
    → ((ts : List (List ℕ)) (ls : List Line) → Alike (f ts ls) (g ts ls)) → Alike (bids k m at ls f) (bids k m at ls g)
unfolding bids
bids_alike k zero at ls h = h [] ls
bids_alike k (suc m) at ls h =
    many_alike (2 * k) at ls
    (λ table ls. fault_alike (table_fault k at table) (bids_alike k m (at + 2 * k) ls (λ ts ls. h (table ∷ ts) ls)))

-- ---- what follows the seeds

module _ (n : ℕ) (s t : List ℕ) where
  bids_section : (k : ℕ) (listed : List ℕ) (ls : List Line) → Alike (read_bids n s k listed ls) (read_bids n t k listed ls)
  unfolding read_bids printed
  bids_section k listed ls =
      needed_alike (n + k + 3) ls
      (λ m ls. check_alike (leb m 1000) TooManyBids (n + k + 3)
      (bids_alike k m (n + k + 4) ls
      (λ ts ls. ending_alike (n + k + 4 + m * (2 * k)) ls (record { print = refl }))))

  prices_section : (ls : List Line) → Alike (read_prices n s ls) (read_prices n t ls)
  unfolding read_prices
  prices_section ls =
      needed_alike (n + 2) ls
      (λ k ls. check_alike (leb 1 k && leb k 256) OutOfRange (n + 2)
      (prices_alike k 0 (n + 3) ls (λ listed ls. bids_section k listed ls)))

-- ---- the seeds

seeds_read : (s : List ℕ) (n at : ℕ) (ls : List Line) (go : List ℕ → List Line → Reading) → length s ≡ n → many n at (map Some s ++ ls) go ≡ go s ls
unfolding many needed
seeds_read [] zero at ls go e = refl
seeds_read [] (suc n) at ls go e = absurd (omega arith)
seeds_read (v ∷ s) zero at ls go e = absurd (omega arith)
seeds_read (v ∷ s) (suc n) at ls go e = seeds_read s n (at + 1) ls (λ vs ls. go (v ∷ vs) ls) (omega arith)

-- Two inputs with the same count of parties, each with as many seeds, and the same lines after these: they are printed alike.
pub any_seeds : (a b : List ℕ) (n : ℕ) (s t : List ℕ) (ls : List Line) → length s ≡ n → length t ≡ n
    → lines a ≡ Some n ∷ (map Some s ++ ls) → lines b ≡ Some n ∷ (map Some t ++ ls) → listing a ≡ listing b
unfolding read needed
any_seeds a b n s t ls l m e f =
    ap (λ (ls : List Line). printed (read ls)) e
    ∙ ap (λ (r : Reading). printed (check (leb 3 n && leb n 9) OutOfRange 1 r)) (seeds_read s n 2 ls (λ seeds ls. read_prices n seeds ls) l)
    ∙ (check_alike (leb 3 n && leb n 9) OutOfRange 1 (prices_section n s t ls)).print
    ∙ ap (λ (r : Reading). printed (check (leb 3 n && leb n 9) OutOfRange 1 r)) (sym (seeds_read t n 2 ls (λ seeds ls. read_prices n seeds ls) m))
    ∙ sym (ap (λ (ls : List Line). printed (read ls)) f)
