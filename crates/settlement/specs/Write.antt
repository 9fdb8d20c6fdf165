-- Writing the page: its judgement, the reply and what the lent page then holds. Assumes nothing.
use Rattle.std.specs.Prelude.{not, List, [], ◌∷◌, ◌++◌, ℕ, ltb, length, drop, Result, Ok, Err}
use Rattle.ranges.specs.Sizes.{long}
use Rattle.refusal.specs.Refusal.{Judgement, number_of}
use Rattle.refusal.specs.Judging.{◌⇒◌, judged, kept}
use Rattle.refusal.specs.declared.Refusal.{Refusal}
use Rattle.refusal.specs.declared.Refusal.TheVariants.{OutOfRange, WrongLength, AmountTooLarge, PageTooShort}
use Rattle.settlement_page.specs.Page.{layout, entries_size, is_price, all_in_range}

-- "Got above wanted is 6, a bad price 1"; "17 Page too short, when the lent page can't hold every line, judged last"
unfoldable pub write_judgement : (price : ℕ) (entries page : List ℕ) → Judgement
write_judgement price entries page =
    judged
    ((not (is_price price) ⇒ OutOfRange)
    ∷ (not (long entries_size entries) ⇒ WrongLength)
    ∷ (not (all_in_range entries) ⇒ AmountTooLarge)
    ∷ (ltb (length page) (length (layout price entries)) ⇒ PageTooShort)
    ∷ [])

-- "the writer's reply counts the bytes"
unfoldable pub written : Judgement → (price : ℕ) (entries : List ℕ) → Result ℕ Refusal
written (Ok tt) price entries = Ok (length (layout price entries))
written (Err why) price entries = Err why

abbrev pub write_reply : (price : ℕ) (entries page : List ℕ) → Result ℕ Refusal
write_reply price entries page = written (write_judgement price entries page) price entries

-- the lines; what the page has past them stays
abbrev pub write_left : (price : ℕ) (entries page : List ℕ) → List ℕ
write_left price entries page =
    kept (write_judgement price entries page) (layout price entries ++ drop (length (layout price entries)) page) page

-- ---- "this paper's number and values for each of its cases": a refused call leaves the place for the count as it was

abbrev pub written_number : Result ℕ Refusal → ℕ
written_number (Ok count) = 0
written_number (Err why) = number_of why

abbrev pub written_bytes : Result ℕ Refusal → (old : ℕ) → ℕ
written_bytes (Ok count) old = count
written_bytes (Err why) old = old
