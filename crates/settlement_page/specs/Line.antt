-- What the first line of a page shows. Assumes nothing.
use Rattle.std.specs.Prelude.{Bool, not, ◌&&◌, ◌||◌, List, [], ◌∷◌, ℕ, ◌+◌, ◌*◌, ◌%◌, ltb, take, drop, get_or, cond, Option, Some, None}
use Rattle.ranges.specs.Lists.{same}
use Rattle.settlement_page.specs.declared.line.PairRead.{PairRead}
use Rattle.settlement_page.specs.Page.{title, amounts, in_range}

-- A number, and the columns that follow it, each a digit or a space. The lower half of a digit's code is the digit, and that of a space 0.
unfoldable pub number_after : (n : ℕ) → (columns : List ℕ) → ℕ
number_after n [] = n
number_after n (b ∷ columns) = number_after (10 * n + b % 16) columns

-- the tenths in 12 columns: no amount reaches the first four; six, a point, and one more
unfoldable pub tenths_in : (columns : List ℕ) → ℕ
tenths_in columns = 10 * number_after 0 (take 6 (drop 4 columns)) + get_or columns 11 0 % 16

-- the hours that the first line of a page shows, in tenths
abbrev pub wanted_on : (page : List ℕ) → ℕ
wanted_on page = tenths_in (take 12 (drop 10 page))

abbrev pub got_on : (page : List ℕ) → ℕ
got_on page = tenths_in (take 12 (drop 22 page))

-- the first line of a page is a pair's, by its bidder and its side
unfoldable pub begins : (pair : ℕ) → (page : List ℕ) → Bool
begins pair page = same (take 10 page) (title pair)

-- if it is, then to its end the line of the amounts that it shows
unfoldable pub fits : (price pair : ℕ) → (page : List ℕ) → Bool
fits price pair page =
    not (begins pair page)
    || (ltb 0 (wanted_on page) && (in_range (wanted_on page) (got_on page) && same (take 51 (drop 10 page)) (amounts price (wanted_on page) (got_on page))))

-- what a page goes on with at a pair: the amounts that its first line shows and how long that is, where the line is the pair's
abbrev pub shown_at : (pair : ℕ) → (page : List ℕ) → PairRead
shown_at pair page = record {
  wanted = cond (begins pair page) (wanted_on page) 0;
  got = cond (begins pair page) (got_on page) 0;
  bytes = cond (begins pair page) 61 0;
}

abbrev pub pair_read : (price pair : ℕ) → (page : List ℕ) → Option PairRead
pair_read price pair page = cond (fits price pair page) (Some (shown_at pair page)) None
