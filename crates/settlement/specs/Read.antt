-- Reading a page: the entries that stand on it, and whether they lay out to it. Assumes nothing.
use Rattle.std.specs.Prelude.{Bool, cond, not, ◌&&◌, List, [], ◌∷◌, ℕ, zero, suc, drop}
use Rattle.ranges.specs.Lists.{same}
use Rattle.ranges.specs.Sizes.{long}
use Rattle.refusal.specs.Judging.{◌⇒◌, judged, kept}
use Rattle.refusal.specs.Refusal.{Judgement}
use Rattle.refusal.specs.declared.Refusal.TheVariants.{OutOfRange, WrongLength, Malformed}
use Rattle.settlement_page.specs.Page.{layout, entries_size, is_price, all_in_range}
use Rattle.settlement_page.specs.Line.{wanted_on, got_on, begins}

-- the entries of m pairs from one on: a pair has what its line shows, and 0 and 0 where the page does not go on with its line
unfoldable pub shown : (m pair : ℕ) → (page : List ℕ) → List ℕ
shown zero pair page = []
shown (suc m) pair page =
    cond (begins pair page) (wanted_on page ∷ got_on page ∷ shown m (suc pair) (drop 61 page)) (0 ∷ 0 ∷ shown m (suc pair) page)

abbrev pub entries_on : (page : List ℕ) → List ℕ
entries_on page = shown 2000 0 page

-- "a page that no entries lay out to is 13": if any do, those that stand on it do
unfoldable pub laid_out : (price : ℕ) → (page : List ℕ) → Bool
laid_out price page = all_in_range (entries_on page) && same page (layout price (entries_on page))

unfoldable pub read_judgement : (price : ℕ) (page entries : List ℕ) → Judgement
read_judgement price page entries =
    judged
    ((not (is_price price) ⇒ OutOfRange) ∷ (not (long entries_size entries) ⇒ WrongLength) ∷ (not (laid_out price page) ⇒ Malformed) ∷ [])

abbrev pub read_left : (price : ℕ) (page entries : List ℕ) → List ℕ
read_left price page entries = kept (read_judgement price page entries) (entries_on page) entries
